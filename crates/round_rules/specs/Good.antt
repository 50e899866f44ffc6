-- Good rounds, and the bounds that they and all rounds give (document 01, "The sender and its rounds"). Quotations that document 01 does not have
-- are the words of demand 3.
use Rattle.std.specs.Prelude.{ℕ, suc, ◌*◌, ◌≤◌, Bool, true, false, List, [], ◌∷◌, ◌++◌, ◌≡◌, length}
use Rattle.round_rules.specs.Requester.{is_running}
use Rattle.round_rules.specs.declared.State.{State}
use Rattle.round_rules.specs.declared.State.TheVariants.{Finished, GivenUp}

-- How many of the rounds are good.
unfoldable pub good_rounds : List Bool → ℕ
good_rounds [] = 0
good_rounds (true ∷ rs) = suc (good_rounds rs)
good_rounds (false ∷ rs) = good_rounds rs

-- "No fifty rounds in a row lack a good one": fifty rounds anywhere have one.
abbrev pub NoFiftyWithout : List Bool → Type 0
NoFiftyWithout rs = (before fifty after : List Bool) → rs ≡ before ++ (fifty ++ after) → length fifty ≡ 50 → 1 ≤ good_rounds fifty

-- What the rounds say of a requester that has so many steps to go in all.
pub record Bounded (steps : ℕ) (rounds : List Bool) (outcome : State) : Type 0 where
  -- "After 200 rounds a frame the sender has ended", fifty a step;
  pub ended : 50 * steps ≤ length rounds → is_running outcome ≡ false
  -- "where no fifty rounds in a row lack a good one it doesn't give up,
  pub persists : NoFiftyWithout rounds → outcome ≡ GivenUp → ⊥
  -- and has finished after four good rounds a frame", one a step.
  pub finishes : NoFiftyWithout rounds → steps ≤ good_rounds rounds → outcome ≡ Finished
