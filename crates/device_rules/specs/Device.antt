-- The unit's state (document 01, "The unit").
use Rattle.std.specs.Prelude.{ℕ, Bool, true, false, cond, List, eqb, take, replicate, None}
use Rattle.message_rules.specs.Answer.{Answer, refused, given}
use Rattle.link_rules.specs.declared.Link.{Link}
use Rattle.device_rules.specs.declared.Device.{Device}
use Rattle.device_rules.specs.declared.Transfer.{Transfer}
use Rattle.device_rules.specs.declared.Phase.{Phase}
use Rattle.device_rules.specs.declared.Phase.TheVariants.{Idle, Open, Finished}

-- "The unit is idle, open or finished."
abbrev pub is_idle : Phase → Bool
is_idle Idle = true
is_idle Open = false
is_idle Finished = false

abbrev pub is_open : Phase → Bool
is_open Idle = false
is_open Open = true
is_open Finished = false

abbrev pub is_finished : Phase → Bool
is_finished Idle = false
is_finished Open = false
is_finished Finished = true

-- The frame in the buffer.
unfoldable pub buffered_frame : Transfer → List ℕ
buffered_frame t = take t.buffered t.buffer

-- A buffer that is emptied has zeros, so that one state has one representation.
abbrev pub empty_buffer : List ℕ
empty_buffer = replicate 256 0

-- No transfer: idle, frame number 0xFFFF, nothing in the buffer, nothing pending, nothing stored, no job open. So is a unit at first.
unfoldable pub no_transfer : Transfer
no_transfer =
    record {
      phase = Idle;
      number = 0xFFFF;
      buffer = empty_buffer;
      buffered = 0;
      pending = false;
      size = 0;
      stored = 0;
      job = None;
    }

-- A unit with this transfer for its own: whatever else it has stays.
abbrev pub with_transfer : Device → Transfer → Device
with_transfer d t = record { link = d.link; own = d.own; transfer = t; finished = d.finished }

-- A unit at first, which has finished no job.
unfoldable pub new_device : Link → ℕ → Device
new_device l own = record { link = l; own = own; transfer = no_transfer; finished = None }

-- "Making a unit with own address 0 is refused with 7 on every link."
unfoldable pub make : Link → ℕ → Answer Device Unit
make l own = cond (eqb own 0) (refused 7) (given (new_device l own) tt)
