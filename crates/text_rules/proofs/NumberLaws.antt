-- The laws of reading a number: what the byte at place i makes of the answer from there on. Carried by the test of that byte, and for a
-- number beyond the limit by induction on the digits, which never make it smaller.
use Rattle.std.specs.Prelude.{None, Some}
use Prim.Native.Nat.{ℕ, ◌+◌, ◌*◌, ◌≤◌, ◌<◌}
use mathlib.Core.Path.{◌≡◌}
use mathlib.Core.Bool.{and-false}
use mathlib.Core.List.{List, [], ◌∷◌}
use native.Mathlib.Numerals.{add-one}
use native.Mathlib.Omega.{arith}
use borrow.Author.Tests.{le-leb, lt-leb, lt-ltb, le-ltb}
use lib.ListN.{length, get_or, drop, drop_of_length-le}
use lib.Seq.{drop-cons}
use Rattle.text_rules.specs.Digits.{digit_value, is_digit, all_digits}
use Rattle.text_rules.specs.Numbers.{value_from, number_from}

-- More digits never make a value smaller.
grows : (v : ℕ) (s : List ℕ) → v ≤ value_from v s
unfolding value_from
grows v [] = omega arith
grows v (b ∷ s) = omega (arith, grows (v * 10 + digit_value b) s)

module _ (most v : ℕ) (s : List ℕ) (i : ℕ) where
  pub number_digit : i < length s → digit_value (get_or s i 0) ≤ 9 → number_from most v (drop i s) ≡ number_from most (v * 10 + digit_value (get_or s i 0)) (drop (i + 1) s)
  unfolding number_from value_from all_digits is_digit
  number_digit h d = rw (add-one, drop-cons s i 0 h, lt-ltb (digit_value (get_or s i 0)) 10 (omega arith))

  pub number-other : i < length s → 9 < digit_value (get_or s i 0) → number_from most v (drop i s) ≡ None
  unfolding number_from all_digits is_digit
  number-other h d = rw (drop-cons s i 0 h, le-ltb (digit_value (get_or s i 0)) 10 (omega arith))

  pub number-beyond : most < v → number_from most v (drop i s) ≡ None
  unfolding number_from
  number-beyond h =
      rw (lt-leb (value_from v (drop i s)) most (omega (arith, grows v (drop i s))), and-false (all_digits 10 (drop i s)))

  pub number-end : length s ≤ i → v ≤ most → number_from most v (drop i s) ≡ Some v
  unfolding number_from value_from all_digits
  number-end h m = rw (drop_of_length-le s h, le-leb v most m)
