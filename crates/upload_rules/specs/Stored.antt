-- How many frames the calls have stored (document 01, "The sender and its rounds"): "k counts the frames i whose take frame arrived and had
-- a work step after it, neither refused." It is counted from the calls, whatever the unit did with them.
use Rattle.std.specs.Prelude.{ℕ, zero, suc, ◌+◌, Bool, true, false, cond, ◌&&◌, List, eqb, length}
use Rattle.message_rules.specs.Answer.{Answer, refused, given}
use Rattle.message_rules.specs.Kinds.{is_telecommand}
use Rattle.message_rules.specs.declared.Message.{Message}
use Rattle.little_endian_rules.specs.LittleEndian.{from_bytes}
use Rattle.link_rules.specs.Link.{link_read}
use Rattle.round_rules.specs.World.{World, Call, works, asks, arrives, hears, makes, starts, told}
use Rattle.round_rules.specs.Requester.{Requester}

-- What the calls so far mean for a frame: nothing, its take frame has arrived, or it has and had a work step after it.
pub data Mark : Type 0 where
  waiting : Mark
  taken : Mark
  stored : Mark

-- What arrives is take frame i: a telecommand 21 with the number i in two bytes.
unfoldable pub is_take : ℕ → Answer Message (List ℕ) → Bool
is_take i (refused n) = false
is_take i (given m p) = is_telecommand m.kind && (eqb m.id 21 && (eqb (length p) 2 && eqb (from_bytes p) i))

unfoldable pub mark_taken : Bool → Mark → Mark
mark_taken true waiting = taken
mark_taken true taken = taken
mark_taken true stored = stored
mark_taken false m = m

unfoldable pub mark_worked : Mark → Mark
mark_worked waiting = waiting
mark_worked taken = stored
mark_worked stored = stored

unfoldable pub mark_call : {S : Type 0} → ℕ → World S → Call → Mark → Mark
mark_call i w (works l) m = mark_worked m
mark_call i w (asks l out) m = m
mark_call i w (arrives b l out) m = mark_taken (is_take i (link_read w.device.link b)) m
mark_call i w (hears l b) m = m
mark_call i w (makes l own) m = m
mark_call i w (starts s) m = m

unfoldable pub is_stored : Mark → Bool
is_stored waiting = false
is_stored taken = false
is_stored stored = true

-- Of the frames below n, how many are stored.
unfoldable pub count_stored : (ℕ → Mark) → ℕ → ℕ
count_stored f zero = 0
count_stored f (suc n) = cond (is_stored (f n)) 1 0 + count_stored f n

-- k: of the file's frames, so many.
unfoldable pub frames_stored : {S : Type 0} → Requester S → World S → List Call → ℕ → ℕ
frames_stored a w h frames = count_stored (λ i. told a (mark_call i) w h waiting) frames
