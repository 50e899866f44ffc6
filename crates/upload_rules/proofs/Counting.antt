-- Counts of frames: carried by induction on the count, and by arithmetic.
use Prim.Native.Nat.{ℕ, zero, suc, ◌≤◌, ◌<◌, min}
use mathlib.Core.Bool.{Bool, true, false}
use mathlib.Core.Path.{◌≡◌, refl}
use native.Mathlib.Omega.{arith}
use borrow.Author.Tests.{ltb-true, ltb-false}
use lib.Dec.{ltb}
use Rattle.upload_rules.specs.Stored.{Mark, is_stored, count_stored}

-- Just the frames below s are stored: of n frames the lesser of s and n.
module _ (f : ℕ → Mark) (s : ℕ) (low : (j : ℕ) → j < s → is_stored (f j) ≡ true) (high : (j : ℕ) → s ≤ j → is_stored (f j) ≡ false) where
  count_least : (n : ℕ) → count_stored f n ≡ min s n
  unfolding count_stored
  count_least zero = omega arith
  count_least (suc n) = by (ltb n s) refl (count_least n) where
    by : (b : Bool) → ltb n s ≡ b → count_stored f n ≡ min s n → count_stored f (suc n) ≡ min s (suc n)
    by true e c = rw (low n (ltb-true n s e)) (omega (arith, ltb-true n s e))
    by false e c = rw (high n (ltb-false n s e)) (omega (arith, ltb-false n s e))

-- So s of them, where there are as many.
pub count_below : (f : ℕ → Mark) (s frames : ℕ) → s ≤ frames
    → ((j : ℕ) → j < s → is_stored (f j) ≡ true) → ((j : ℕ) → s ≤ j → is_stored (f j) ≡ false) → count_stored f frames ≡ s
count_below f s frames h low high = omega (arith, count_least f s low high frames)
