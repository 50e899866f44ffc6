-- The laws of doubling: it goes byte by byte, so part by part.
use Prim.Native.Nat.{ℕ, suc, ◌+◌, ◌≤◌, ◌<◌}
use mathlib.Core.Bool.{Bool, true, false}
use mathlib.Core.List.{List, [], ◌∷◌, ◌++◌}
use mathlib.Core.Path.{◌≡◌, refl}
use native.Mathlib.Numerals.{add-one}
use native.Mathlib.Omega.{arith}
use lib.Dec.{eqb}
use lib.ListN.{length, get_or, drop, length-append, drop_of_length-le}
use lib.Seq.{drop-cons}
use Rattle.serial_rules.specs.Stuffing.{doubled}

pub doubled-append : (a b : List ℕ) → doubled (a ++ b) ≡ doubled a ++ doubled b
unfolding doubled
doubled-append [] b = refl
doubled-append (x ∷ a) b = by (doubled-append a b) (eqb x 0x1F) refl
  where
    by : doubled (a ++ b) ≡ doubled a ++ doubled b → (t : Bool) → eqb x 0x1F ≡ t → doubled (x ∷ (a ++ b)) ≡ doubled (x ∷ a) ++ doubled b
    by again true q = rw (q, again)
    by again false q = rw (q, again)

-- A byte takes one byte or two.
pub doubled-most : (s : List ℕ) → length (doubled s) ≤ length s + length s
unfolding doubled
doubled-most [] = omega arith
doubled-most (b ∷ s) = by (doubled-most s) (eqb b 0x1F) refl
  where
    by : length (doubled s) ≤ length s + length s → (t : Bool) → eqb b 0x1F ≡ t → length (doubled (b ∷ s)) ≤ length (b ∷ s) + length (b ∷ s)
    by again true q = rw q (omega arith)
    by again false q = rw q (omega arith)

pub doubled-some : (b : ℕ) → 1 ≤ length (doubled (b ∷ []))
unfolding doubled
doubled-some b = by (eqb b 0x1F) refl
  where
    by : (t : Bool) → eqb b 0x1F ≡ t → 1 ≤ length (doubled (b ∷ []))
    by true q = rw q (omega arith)
    by false q = rw q (omega arith)

-- A turn of a loop over the bytes, and its end.
module _ (s : List ℕ) (i : ℕ) where
  pub doubled-step : i < length s → doubled (drop i s) ≡ doubled (get_or s i 0 ∷ []) ++ doubled (drop (i + 1) s)
  doubled-step h = rw (add-one, drop-cons s i 0) (doubled-append (get_or s i 0 ∷ []) (drop (suc i) s))

  pub length-step : i < length s → length (doubled (drop i s)) ≡ length (doubled (get_or s i 0 ∷ [])) + length (doubled (drop (i + 1) s))
  length-step h = rw (doubled-step h, length-append)

  pub doubled-end : length s ≤ i → doubled (drop i s) ≡ []
  unfolding doubled
  doubled-end h = rw (drop_of_length-le s h)

-- A byte in front.
pub length-first : (b : ℕ) (s : List ℕ) → length (doubled (b ∷ s)) ≡ length (doubled (b ∷ [])) + length (doubled s)
length-first b s = rw (doubled-append (b ∷ []) s, length-append)
