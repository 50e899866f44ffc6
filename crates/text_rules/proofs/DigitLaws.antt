-- The laws of digits: when a byte lies in a range, and what the byte at place i makes of the digits from there on. Carried by the tests of
-- the range's ends, at which the definitions compute.
use Prim.Native.Nat.{ℕ, zero, suc, ◌+◌, ◌≤◌, ◌<◌}
use mathlib.Core.Path.{◌≡◌, refl}
use mathlib.Core.Bool.{Bool, true, false, ◌&&◌, cond, and-false}
use mathlib.Core.List.{List, [], ◌∷◌}
use native.Mathlib.Numerals.{add-one}
use native.Mathlib.Omega.{arith}
use borrow.Author.Tests.{le-leb, lt-leb, lt-ltb, le-ltb, ltb-true, ltb-false}
use lib.Dec.{leb, ltb}
use lib.ListN.{length, get_or, drop}
use lib.Seq.{drop-cons}
use Rattle.text_rules.specs.Digits.{from_to, digit_value, is_digit, all_digits, digit_of}

pub and_left : (t u : Bool) → t && u ≡ true → t ≡ true
and_left true u e = refl
and_left false u e = e

pub and_right : (t u : Bool) → t && u ≡ true → u ≡ true
and_right t u e = rw (and_left t u e) at e

module _ (b lo hi : ℕ) where
  pub in_range : lo ≤ b → b ≤ hi → from_to lo hi b ≡ true
  unfolding from_to
  in_range p q = rw (le-leb lo b p, le-leb b hi q)

  pub below_range : b < lo → from_to lo hi b ≡ false
  unfolding from_to
  below_range p = rw (lt-leb lo b p)

  pub above_range : hi < b → from_to lo hi b ≡ false
  unfolding from_to
  above_range p = rw (lt-leb b hi p) (and-false (leb lo b))

module _ (base : ℕ) (s : List ℕ) (i : ℕ) (h : i < length s) where
  pub all_digit : digit_value (get_or s i 0) < base → all_digits base (drop i s) ≡ all_digits base (drop (i + 1) s)
  unfolding all_digits is_digit
  all_digit d = rw (add-one, drop-cons s i 0, lt-ltb (digit_value (get_or s i 0)) base d)

  pub all_other : base ≤ digit_value (get_or s i 0) → all_digits base (drop i s) ≡ false
  unfolding all_digits is_digit
  all_other d = rw (drop-cons s i 0, le-ltb (digit_value (get_or s i 0)) base d)

-- Where all are digits, each is one.
pub digit_at : (base : ℕ) (s : List ℕ) (i : ℕ) → i < length s → all_digits base s ≡ true → digit_value (get_or s i 0) < base
unfolding all_digits is_digit
digit_at base [] i h e = absurd (omega arith)
digit_at base (b ∷ s) zero h e = ltb-true (digit_value b) base (and_left (is_digit base b) (all_digits base s) e)
digit_at base (b ∷ s) (suc i) h e = digit_at base s i (omega arith) (and_right (is_digit base b) (all_digits base s) e)

-- A printed digit reads back.
decimal_back : (n : ℕ) → n < 10 → digit_value (48 + n) ≡ n
unfolding digit_value
decimal_back n h = rw (in_range (48 + n) 48 57 (omega arith) (omega arith)) (omega arith)

capital_back : (n : ℕ) → 10 ≤ n → n < 16 → digit_value (55 + n) ≡ n
unfolding digit_value
capital_back n l h = rw (above_range (55 + n) 48 57 (omega arith), in_range (55 + n) 65 70 (omega arith) (omega arith)) (omega arith)

pub digit_back : (n : ℕ) → n < 16 → digit_value (digit_of n) ≡ n
unfolding digit_of
digit_back n h = by (ltb n 10) refl
  where
    by : (t : Bool) → ltb n 10 ≡ t → digit_value (cond t (48 + n) (55 + n)) ≡ n
    by true e = decimal_back n (ltb-true n 10 e)
    by false e = capital_back n (ltb-false n 10 e) h

-- It is a digit of every base that it lies below.
pub digit_passes : (base n : ℕ) → base ≤ 16 → n < base → is_digit base (digit_of n) ≡ true
unfolding is_digit
digit_passes base n l h = rw (digit_back n (omega arith)) (lt-ltb n base h)
