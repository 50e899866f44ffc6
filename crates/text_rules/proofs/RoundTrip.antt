-- Reading back what is printed gives the number, or the bytes. Carried by a digit reading back, then by induction on the digits and on the bytes.
use Rattle.std.specs.Prelude.{Some}
use Prim.Native.Nat.{ℕ, zero, suc, ◌+◌, ◌*◌, ◌/◌, ◌%◌, ◌≤◌, ◌<◌}
use mathlib.Core.Path.{◌≡◌, refl, ap}
use mathlib.Core.Bool.{Bool, true, false}
use mathlib.Core.List.{List, [], ◌∷◌, ◌++◌}
use native.Mathlib.Omega.{arith}
use borrow.Author.Tests.{le-leb, eq-eqb, ne_eqb, ltb-true, ltb-false}
use lib.Dec.{ltb}
use lib.ListN.{length, get_or, length-append}
use Rattle.text_rules.specs.Digits.{digit_value, is_digit, all_digits, digit_of}
use Rattle.text_rules.specs.Numbers.{value_from, number_from, number_of, digits_in, decimal}
use Rattle.text_rules.specs.Hex.{hex_digits, printed, pairs, is_dash, is_hex, converted, read_hex}
use Rattle.text_rules.proofs.DigitLaws.{and_left, and_right, digit_back, digit_passes}
use Rattle.text_rules.proofs.HexLaws.{length-hex_digits, printed-some, read_pairs}

-- A digit after others.
value_after_lem : (v : ℕ) (s : List ℕ) (d : ℕ) → value_from v (s ++ (d ∷ [])) ≡ value_from v s * 10 + digit_value d
unfolding value_from
value_after_lem v [] d = refl
value_after_lem v (b ∷ s) d = value_after_lem (v * 10 + digit_value b) s d

all_after : (s : List ℕ) (d : ℕ) → all_digits 10 s ≡ true → is_digit 10 d ≡ true → all_digits 10 (s ++ (d ∷ [])) ≡ true
unfolding all_digits
all_after [] d h e = rw e
all_after (b ∷ s) d h e = rw (and_left (is_digit 10 b) (all_digits 10 s) h) (all_after s d (and_right (is_digit 10 b) (all_digits 10 s) h) e)

-- Digits whose number is n.
abbrev Makes : List ℕ → ℕ → Type 0
Makes s n = (value_from 0 s ≡ n) × (all_digits 10 s ≡ true) × (1 ≤ length s)

digits_make : (t n : ℕ) → n < t → Makes (digits_in t n) n
unfolding digits_in value_from all_digits
digits_make zero n h = absurd (omega arith)
digits_make (suc t) n h = by (λ big. digits_make t (n / 10) (omega arith)) (ltb n 10) refl
  where
    by : (10 ≤ n → Makes (digits_in t (n / 10)) (n / 10)) → (b : Bool) → ltb n 10 ≡ b → Makes (digits_in (suc t) n) n
    by again true e =
        let small = ltb-true n 10 e in
        rw (e, digit_passes 10 n (omega arith) small) (rw (digit_back n (omega arith)) (omega arith), refl, omega arith)
    by again false e =
        let front = again (ltb-false n 10 e) in
        let s = digits_in t (n / 10) in
        let last = n % 10 in
        let all = all_after s (digit_of last) front.1 (digit_passes 10 last (omega arith) (omega arith)) in
        rw (e, value_after_lem 0 s (digit_of last), front.0, digit_back last (omega arith), all, length-append) (omega arith, refl, omega arith)

-- Reading a printed number gives it back.
pub number-printed : (most n : ℕ) → n ≤ most → number_of most (decimal n) ≡ Some n
unfolding number_of number_from decimal
number-printed most n h =
    let s = digits_make (suc n) n (omega arith) in
    rw (ne_eqb (length (digits_in (suc n) n)) 0 (λ e. omega arith), s.0, s.1, le-leb n most h)

pairs_back : (s : List ℕ) → ((i : ℕ) → get_or s i 0 < 256) → pairs (hex_digits s) ≡ s
unfolding pairs hex_digits
pairs_back [] h = refl
pairs_back (b ∷ s) h =
    let small : b < 256 = h 0 in
    rw (digit_back (b / 16) (omega arith), digit_back (b % 16) (omega arith), pairs_back s (λ i. h (suc i))) (ap (λ (x : ℕ). x ∷ s) (omega arith))

all_pass : (s : List ℕ) → ((i : ℕ) → get_or s i 0 < 256) → all_digits 16 (hex_digits s) ≡ true
unfolding all_digits hex_digits
all_pass [] h = refl
all_pass (b ∷ s) h =
    let small : b < 256 = h 0 in
    let passes = digit_passes 16 in
    rw (passes (b / 16) (omega arith) (omega arith), passes (b % 16) (omega arith) (omega arith), all_pass s (λ i. h (suc i)))

module _ (s : List ℕ) (some : length s ≡ 0 → ⊥) where
  no_dash : is_dash (hex_digits s) ≡ false
  unfolding is_dash
  no_dash = rw (ne_eqb (length (hex_digits s)) 1 (λ e. omega (arith, length-hex_digits s)))

  is_hex_lem : ((i : ℕ) → get_or s i 0 < 256) → is_hex (hex_digits s) ≡ true
  unfolding is_hex
  is_hex_lem h =
      rw (ne_eqb (length (hex_digits s)) 0 (λ e. omega (arith, length-hex_digits s)), eq-eqb (length (hex_digits s) % 2) 0 (omega (arith, length-hex_digits s)), all_pass s h)

-- "`-` stands for the empty string wherever a byte string is read or printed", and every other string comes back by its digits.
pub read-printed : (s : List ℕ) → ((i : ℕ) → get_or s i 0 < 256) → read_hex (printed s) ≡ converted s
unfolding read_hex printed is_dash
read-printed [] h = refl
read-printed (b ∷ s) h =
    let some : length (b ∷ s) ≡ 0 → ⊥ = λ e. omega arith in
    rw (printed-some (b ∷ s) some, read_pairs (hex_digits (b ∷ s)) (no_dash (b ∷ s) some) (is_hex_lem (b ∷ s) some h), pairs_back (b ∷ s) h)
