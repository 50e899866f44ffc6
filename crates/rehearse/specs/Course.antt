-- The rounds that a rehearsal makes (document 01, "The sender and its rounds").
use Rattle.std.specs.Prelude.{ℕ, zero, suc, ◌%◌, true, cond, List, [], ◌∷◌, ◌++◌, ltb, eqb}
use Rattle.round_rules.specs.declared.Fate.{Fate}
use Rattle.round_rules.specs.declared.Fate.TheVariants.{Delivered, RequestLost, AnswerLost, Twice}
use Rattle.round_rules.specs.declared.Round.{Round}
use Rattle.rehearse.specs.declared.course.Course.{Course}
use Rattle.rehearse.specs.declared.course.Course.TheVariants.{Good, Mixed}

-- "Delivered, request lost, answer lost, or request arriving twice with the second answer delivered", each in its turn.
unfoldable pub fate_of : ℕ → Fate
fate_of k = cond (eqb k 0) AnswerLost (cond (eqb k 1) Twice (cond (eqb k 2) RequestLost Delivered))

-- "The unit's work step, done or not": eight rounds, four with it and four without.
unfoldable pub mixed : ℕ → Round
mixed k = record { worked = ltb (k % 8) 4; fate = fate_of (k % 4) }

-- The round of a turn, from 0.
unfoldable pub round_of : Course → ℕ → Round
round_of Good k = record { worked = true; fate = Delivered }
round_of Mixed k = mixed k

-- The first n rounds.
unfoldable pub rounds_of : Course → ℕ → List Round
rounds_of c zero = []
rounds_of c (suc n) = rounds_of c n ++ (round_of c n ∷ [])
