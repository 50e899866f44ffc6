-- Whether the setup of an upload has arrived (document 02, ticket 5): "until the setup first arrives unrefused". It is told from the calls, whatever the
-- unit did with them.
use Rattle.std.specs.Prelude.{ℕ, Bool, true, false, ◌&&◌, ◌||◌, List, eqb, None, Option, Some}
use Rattle.message_rules.specs.Answer.{Answer, refused, given}
use Rattle.message_rules.specs.Kinds.{is_telecommand}
use Rattle.message_rules.specs.declared.Message.{Message}
use Rattle.link_rules.specs.Link.{link_read}
use Rattle.round_rules.specs.World.{World, Call, works, asks, arrives, hears, makes, starts, told}
use Rattle.round_rules.specs.Requester.{Requester}

-- What arrives is a setup: a telecommand 20.
unfoldable pub is_setup : Answer Message (List ℕ) → Bool
is_setup (refused n) = false
is_setup (given m p) = is_telecommand m.kind && eqb m.id 20

-- What a call tells of it: a setup that arrives has arrived, and every other call leaves it as it was.
unfoldable pub set_up_call : {S : Type 0} → World S → Call → Bool → Bool
set_up_call w (works l) t = t
set_up_call w (asks l out) t = t
set_up_call w (arrives b l out) t = t || is_setup (link_read w.device.link b)
set_up_call w (hears l b) t = t
set_up_call w (makes l own) t = t
set_up_call w (starts s) t = t

-- A sender without a job begins after the setup; one with a job has yet to send it.
abbrev pub set_up_first : Option ℕ → Bool
set_up_first None = true
set_up_first (Some n) = false

-- After calls from a world, with a sender that was started so.
abbrev pub setup_arrived : {S : Type 0} → Requester S → World S → List Call → Option ℕ → Bool
setup_arrived a w h job = told a set_up_call w h (set_up_first job)
