-- One round more, after those that were made: carried by the list of rounds.
use Prim.Native.Nat.{ℕ}
use mathlib.Core.List.{List, [], ◌∷◌, ◌++◌}
use mathlib.Core.Path.{◌≡◌, refl}
use native.Mathlib.Omega.{arith}
use Rattle.message_rules.specs.Answer.{Check, passed, failed}
use Rattle.round_rules.specs.Requester.{Requester}
use Rattle.round_rules.specs.Rounds.{nothing_sent, choose, round_made, round_refusal, rounds_made, rounds_refusal}
use Rattle.round_rules.specs.World.{World}
use Rattle.round_rules.specs.declared.Round.{Round}

alone : (x : Check) → choose x passed x ≡ x
unfolding choose
alone passed = refl
alone (failed n) = refl

both-passed : (x y : Check) → choose x y x ≡ passed → (x ≡ passed) × (y ≡ passed)
unfolding choose
both-passed passed y e = (refl, e)
both-passed (failed n) y e = absurd (let z : ◌≡◌ {A = ℕ} 0 1 = cc in omega arith)

module _ {S : Type 0} (a : Requester S) where
  -- What a world hands to the next round.
  abbrev pub rest : World S → World S
  rest w = nothing_sent w.device w.store w.requester

  pub made_more : (w : World S) (rs : List Round) (r : Round) → rounds_made a w (rs ++ (r ∷ [])) ≡ round_made a (rest (rounds_made a w rs)) r
  unfolding rounds_made
  made_more w [] r = refl
  made_more w (q ∷ rs) r = made_more (round_made a (rest w) q) rs r

  pub refusal-more : (w : World S) (rs : List Round) (r : Round) → rounds_refusal a w rs ≡ passed
      → rounds_refusal a w (rs ++ (r ∷ [])) ≡ round_refusal a (rest (rounds_made a w rs)) r
  unfolding rounds_made rounds_refusal choose
  refusal-more w [] r e = alone _
  refusal-more w (q ∷ rs) r e =
      let p = both-passed (round_refusal a (rest w) q) (rounds_refusal a (round_made a (rest w) q) rs) e in
      rw p.0 (refusal-more (round_made a (rest w) q) rs r p.1)
