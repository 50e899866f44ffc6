-- A round as it is run (document 01, "The sender and its rounds"): its calls one after the other, up to the first that is refused, since of
-- a refused call "nothing moves" and none of them "is a round".
use Rattle.std.specs.Prelude.{ℕ, List, [], ◌∷◌}
use Rattle.message_rules.specs.Answer.{Check, passed, failed}
use Rattle.device_rules.specs.declared.Device.{Device}
use Rattle.round_rules.specs.Requester.{Requester}
use Rattle.round_rules.specs.Schedule.{round_calls}
use Rattle.round_rules.specs.World.{World, Call, call_check, does}
use Rattle.round_rules.specs.declared.Round.{Round}

-- Unit, store and requester with nothing under way between them.
abbrev pub nothing_sent : {S : Type 0} → Device → List ℕ → S → World S
nothing_sent d store s = record { device = d; store = store; requester = s; request = []; answer = [] }

-- What is there where a check passes, and where it fails.
unfoldable pub choose : {A : Type 0} → Check → A → A → A
choose passed a b = a
choose (failed n) a b = b

module _ {S : Type 0} (a : Requester S) where
  -- The world after calls that end with the first refusal, and that refusal.
  unfoldable pub made : World S → List Call → World S
  made w [] = w
  made w (c ∷ h) = choose (call_check a w c) (made (does a w c) h) w

  unfoldable pub first_refusal : World S → List Call → Check
  first_refusal w [] = passed
  first_refusal w (c ∷ h) = choose (call_check a w c) (first_refusal (does a w c) h) (call_check a w c)

  -- A round, "the unit's work step, done or not, then one exchange": what its calls make, and the first refusal among them.
  unfoldable pub round_made : World S → Round → World S
  round_made w r = made w (round_calls a w r)

  unfoldable pub round_refusal : World S → Round → Check
  round_refusal w r = first_refusal w (round_calls a w r)

  -- Rounds one after the other, each with unit, store and requester as the last left them, and the first refusal among them.
  unfoldable pub rounds_made : World S → List Round → World S
  rounds_made w [] = w
  rounds_made w (r ∷ rs) = rounds_made (round_made (nothing_sent w.device w.store w.requester) r) rs

  unfoldable pub rounds_refusal : World S → List Round → Check
  rounds_refusal w [] = passed
  rounds_refusal w (r ∷ rs) =
      let v = nothing_sent w.device w.store w.requester in
      choose (round_refusal v r) (rounds_refusal (round_made v r) rs) (round_refusal v r)
