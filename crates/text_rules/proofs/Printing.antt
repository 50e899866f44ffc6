-- The laws of printed numbers: digit by digit, by the recursion that makes them, for which any number of turns above n is enough.
use Prim.Native.Nat.{ℕ, zero, suc, ◌*◌, ◌/◌, ◌%◌, ◌^◌, ◌≤◌, ◌<◌}
use mathlib.Core.Path.{◌≡◌, refl}
use mathlib.Core.Bool.{Bool, true, false}
use mathlib.Core.List.{[], ◌∷◌, ◌++◌}
use native.Mathlib.Nat.{pow-suc}
use native.Mathlib.Omega.{arith}
use borrow.Author.Tests.{lt-ltb, le-ltb, ltb-true, ltb-false}
use lib.Dec.{ltb}
use lib.ListN.{length, length-append}
use Rattle.text_rules.specs.Digits.{digit_of}
use Rattle.text_rules.specs.Numbers.{digits_in, decimal}

digits_enough : (t u n : ℕ) → n < t → n < u → digits_in t n ≡ digits_in u n
unfolding digits_in
digits_enough zero u n h k = absurd (omega arith)
digits_enough (suc t) zero n h k = absurd (omega arith)
digits_enough (suc t) (suc u) n h k = by (λ big. digits_enough t u (n / 10) (omega arith) (omega arith)) (ltb n 10) refl
  where
    by : (10 ≤ n → digits_in t (n / 10) ≡ digits_in u (n / 10)) → (b : Bool) → ltb n 10 ≡ b → digits_in (suc t) n ≡ digits_in (suc u) n
    by again true e = rw e
    by again false e = rw (e, again (ltb-false n 10 e))

pub decimal_digit : (n : ℕ) → n < 10 → decimal n ≡ digit_of n ∷ []
unfolding decimal digits_in
decimal_digit n h = rw (lt-ltb n 10 h)

pub decimal-more : (n : ℕ) → 10 ≤ n → decimal n ≡ decimal (n / 10) ++ (digit_of (n % 10) ∷ [])
unfolding decimal digits_in
decimal-more n h = rw (le-ltb n 10 h, digits_enough n (suc (n / 10)) (n / 10) (omega arith) (omega arith))

-- A number below ten to the power of k has at most k digits.
pub decimal-length : (k n : ℕ) → n < 10 ^ suc k → length (decimal n) ≤ suc k
decimal-length zero n h = rw (decimal_digit n h) (omega arith)
decimal-length (suc k) n h = by (decimal-length k (n / 10)) (ltb n 10) refl
  where
    by : (n / 10 < 10 ^ suc k → length (decimal (n / 10)) ≤ suc k) → (b : Bool) → ltb n 10 ≡ b → length (decimal n) ≤ suc (suc k)
    by again true e = rw (decimal_digit n (ltb-true n 10 e)) (omega arith)
    by again false e =
        let small : n < 10 ^ suc k * 10 = rw (pow-suc 10 (suc k)) at h in
        rw (decimal-more n (ltb-false n 10 e), length-append) (omega (arith, again (omega arith)))
