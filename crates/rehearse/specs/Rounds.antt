-- What a rehearsal's rounds leave, and when it makes no more.
use Rattle.std.specs.Prelude.{ℕ, ◌-◌, ◌≤◌, Bool, true, not, ◌||◌, List, ◌≡◌, eqb}
use Rattle.message_rules.specs.Answer.{passed, verdict_result}
use Rattle.device_rules.specs.declared.Device.{Device}
use Rattle.round_rules.specs.Rounds.{nothing_sent, rounds_made, rounds_refusal}
use Rattle.round_rules.specs.Requester.{is_running}
use Rattle.round_rules.specs.World.{World, is_failed}
use Rattle.sender_rules.specs.Sending.{sending}
use Rattle.sender_rules.specs.declared.Sender.{Sender}
use Rattle.rehearse.specs.Course.{rounds_of}
use Rattle.rehearse.specs.declared.course.Course.{Course}
use Rattle.rehearse.specs.declared.run.Ran.{Ran}

-- What the first n rounds of a course make, from a unit, a store and a sender with nothing under way.
abbrev pub made_by : List ℕ → Device → List ℕ → Sender → Course → ℕ → World Sender
made_by file d store s c n = rounds_made (sending file) (nothing_sent d store s) (rounds_of c n)

-- Unit, sender and store are those that the rounds make, and the verdict is their first refusal; `r` says how many rounds. Before the last one the
-- sender ran, and none was refused.
pub record Leaves (file : List ℕ) (d : Device) (store : List ℕ) (s : Sender) (c : Course) (r : Ran) (stored : List ℕ) : Type 0 where
  pub unit : r.device ≡ (made_by file d store s c r.count).device
  pub asking : r.sender ≡ (made_by file d store s c r.count).requester
  pub kept : stored ≡ (made_by file d store s c r.count).store
  pub refusal : verdict_result r.verdict ≡ rounds_refusal (sending file) (nothing_sent d store s) (rounds_of c r.count)
  pub earlier : rounds_refusal (sending file) (nothing_sent d store s) (rounds_of c (r.count - 1)) ≡ passed
  pub ran : 1 ≤ r.count → is_running (made_by file d store s c (r.count - 1)).requester.state ≡ true

-- No round is left to make: the last was refused, or the sender has ended, or there were 200 for each of 65,535 frames and 50 for the
-- setup.
unfoldable pub run_over : Ran → Bool
run_over r = is_failed (verdict_result r.verdict) || (not (is_running r.sender.state) || eqb r.count 13107050)
