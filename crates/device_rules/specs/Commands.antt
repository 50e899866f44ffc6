-- What a command does (document 01, "The unit").
use Rattle.file_rules.specs.declared.Announcement.{Announcement}
use Rattle.std.specs.Prelude.{ℕ, true, false, cond, List, ◌++◌, eqb, length, drop, Some, None, Option}
use Rattle.file_rules.specs.Setup.{setup_read}
use Rattle.device_rules.specs.Device.{empty_buffer, no_transfer, with_transfer}
use Rattle.device_rules.specs.declared.Device.{Device}
use Rattle.device_rules.specs.declared.Transfer.{Transfer}
use Rattle.device_rules.specs.declared.Phase.TheVariants.{Open}
use Rattle.device_rules.specs.declared.Fault.{Fault}
use Rattle.device_rules.specs.declared.Fault.TheVariants.{Repeat, Nack}

-- "Setup opens, sets number 0xFFFF and empties the buffer; nothing is stored yet." Its job is then the open one.
unfoldable pub new_transfer : ℕ → ℕ → Transfer
new_transfer size number =
    record {
      phase = Open;
      number = 0xFFFF;
      buffer = empty_buffer;
      buffered = 0;
      pending = false;
      size = size;
      stored = 0;
      job = Some number;
    }

-- A payload of another length has a fault, and opens nothing.
unfoldable pub setup_done : Transfer → Option Announcement → Transfer
setup_done t (Some s) = new_transfer s.size s.number
setup_done t None = t

-- "Take frame makes it pending."
unfoldable pub take_done : Transfer → Transfer
take_done t =
    record {
      phase = t.phase;
      number = t.number;
      buffer = t.buffer;
      buffered = t.buffered;
      pending = true;
      size = t.size;
      stored = t.stored;
      job = t.job;
    }

-- "Frame replaces the buffer."
unfoldable pub frame_done : Transfer → List ℕ → Transfer
frame_done t p =
    record {
      phase = t.phase;
      number = t.number;
      buffer = p ++ drop (length p) empty_buffer;
      buffered = length p;
      pending = t.pending;
      size = t.size;
      stored = t.stored;
      job = t.job;
    }

-- The transfer after a command without a fault: 20, 21, 22, else 23, since any other ID has a fault. "Cancel always returns to idle, drops the pending frame and
-- the buffer, number 0xFFFF, nothing counted as stored." "Cancel forgets the open job only" (document 02, ticket 5).
unfoldable pub transfer_done : Transfer → ℕ → List ℕ → Transfer
transfer_done t id p =
    cond (eqb id 20) (setup_done t (setup_read p))
    (cond (eqb id 21) (take_done t)
    (cond (eqb id 22) (frame_done t p)
    no_transfer))

-- The unit after it. What is not the transfer's stays, the last finished job too.
unfoldable pub command_done : Device → ℕ → List ℕ → Device
command_done d id p = with_transfer d (transfer_done d.transfer id p)

-- The unit after a command with this fault or none. "A nack changes nothing." "A setup that repeats the open job's number and size is acked and
-- changes nothing" (document 02, ticket 5).
unfoldable pub after_command : Device → ℕ → List ℕ → Option Fault → Device
after_command d id p None = command_done d id p
after_command d id p (Some Repeat) = d
after_command d id p (Some (Nack e i)) = d
