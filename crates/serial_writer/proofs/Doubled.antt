-- Doubling in the terms of the code, by induction over the bytes: how many more bytes there are, and what a run of puts leaves.
use Rattle.std.specs.Prelude.{count_by, ◌==◌}
use Prim.Native.Nat.{ℕ, ◌+◌}
use mathlib.Core.Bool.{Bool, true, false, cond}
use mathlib.Core.List.{List, [], ◌∷◌}
use mathlib.Core.Path.{◌≡◌, refl, ap, ◌∙◌}
use native.Mathlib.Omega.{arith}
use lib.Dec.{eqb}
use lib.ListN.{length}
use Rattle.std.proofs.lemmas.List.Sums.{sum_by-cons}
use Rattle.serial_rules.specs.Stuffing.{doubled}

-- Each ESC takes one byte more.
pub doubled_count : (s : List ℕ) → length s + count_by (λ x. x == 0x1F) s ≡ length (doubled s)
unfolding doubled
doubled_count [] = refl
doubled_count (b ∷ s) =
    let more : length (b ∷ s) + count_by (λ x. x == 0x1F) (b ∷ s) ≡ length (b ∷ s) + (cond (eqb b 0x1F) 1 0 + count_by (λ x. x == 0x1F) s) =
    ap (λ n. length (b ∷ s) + n) (sum_by-cons (λ x. cond (x == 0x1F) 1 0) b s) in
    more ∙ by (doubled_count s) (eqb b 0x1F) refl
  where
    by : length s + count_by (λ x. x == 0x1F) s ≡ length (doubled s) → (t : Bool) → eqb b 0x1F ≡ t
        → length (b ∷ s) + (cond (eqb b 0x1F) 1 0 + count_by (λ x. x == 0x1F) s) ≡ length (doubled (b ∷ s))
    by again true q = rw q (omega arith)
    by again false q = rw q (omega arith)
