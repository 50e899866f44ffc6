-- What holds at each number below a bound, by one list that the checker computes: carried by the place of a value in the list.
use Prim.Native.Nat.{ℕ, zero, suc, ◌+◌, ◌<◌}
use mathlib.Core.List.{List, [], ◌∷◌}
use mathlib.Core.Path.{◌≡◌, refl, sym, ap, ◌∙◌}
use native.Mathlib.Nat.{add-zero, zero-add, add-suc, suc-add, le_of_suc-le-suc, not-suc-le-zero}
use lib.ListN.{get_or}

-- The values of a function at n numbers in a row, the first of them `from`.
abbrev pub listed : (ℕ → ℕ) → ℕ → ℕ → List ℕ
listed f from zero = []
listed f from (suc n) = f from ∷ listed f (suc from) n

from_on : (f : ℕ → ℕ) (from n k : ℕ) → k < n → get_or (listed f from n) k 0 ≡ f (from + k)
from_on f from zero k h = absurd (not-suc-le-zero h)
from_on f from (suc n) zero h = ap f (sym (add-zero from))
from_on f from (suc n) (suc k) h = from_on f (suc from) n k (le_of_suc-le-suc h) ∙ ap f (suc-add from k ∙ sym (add-suc from k))

-- A list of a function's values has each at its place,
pub at : (f : ℕ → ℕ) (n : ℕ) (values : List ℕ) → values ≡ listed f 0 n → (k : ℕ) → k < n → get_or values k 0 ≡ f k
at f n values e k h = ap (λ (l : List ℕ). get_or l k 0) e ∙ from_on f 0 n k h ∙ ap f (zero-add k)

-- and two functions with one list are equal there.
pub same : (f g : ℕ → ℕ) (n : ℕ) → listed f 0 n ≡ listed g 0 n → (k : ℕ) → k < n → f k ≡ g k
same f g n e k h = sym (at f n (listed g 0 n) (sym e) k h) ∙ at g n (listed g 0 n) refl k h
