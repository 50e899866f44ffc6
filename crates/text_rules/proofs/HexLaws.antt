-- The laws of byte strings: what a word is read as, what is printed, and how long both are. Carried by the tests, at which the definitions
-- compute; the lengths by induction.
use Prim.Native.Nat.{ℕ, ◌*◌, ◌/◌, ◌%◌}
use mathlib.Core.Path.{◌≡◌, refl}
use mathlib.Core.Bool.{true, false, not, ◌&&◌}
use mathlib.Core.List.{List, [], ◌∷◌}
use native.Mathlib.Omega.{arith}
use borrow.Author.Tests.{eq-eqb, ne_eqb}
use lib.Dec.{eqb}
use lib.ListN.{length}
use Rattle.text_rules.specs.Digits.{all_digits}
use Rattle.text_rules.specs.Hex.{hex_digits, printed, pairs, is_dash, is_hex, bad, converted, read_hex}
use Rattle.text_rules.proofs.DigitLaws.{and_right}

pub length-hex_digits : (s : List ℕ) → length (hex_digits s) ≡ length s * 2
unfolding hex_digits
length-hex_digits [] = refl
length-hex_digits (b ∷ s) = omega (arith, length-hex_digits s)

pub length_pairs : (s : List ℕ) → length (pairs s) ≡ length s / 2
unfolding pairs
length_pairs [] = refl
length_pairs (a ∷ []) = refl
length_pairs (a ∷ b ∷ s) = omega (arith, length_pairs s)

module _ (s : List ℕ) where
  pub printed-none : length s ≡ 0 → printed s ≡ 45 ∷ []
  unfolding printed
  printed-none e = rw (eq-eqb (length s) 0 e)

  pub printed-some : (length s ≡ 0 → ⊥) → printed s ≡ hex_digits s
  unfolding printed
  printed-some n = rw (ne_eqb (length s) 0 n)

module _ (w : List ℕ) where
  pub read_dash : is_dash w ≡ true → read_hex w ≡ converted []
  unfolding read_hex
  read_dash d = rw d

  pub read-bad : is_dash w ≡ false → is_hex w ≡ false → read_hex w ≡ bad
  unfolding read_hex
  read-bad d h = rw (d, h)

  pub read_pairs : is_dash w ≡ false → is_hex w ≡ true → read_hex w ≡ converted (pairs w)
  unfolding read_hex
  read_pairs d h = rw (d, h)

  pub hex_digits_lem : is_hex w ≡ true → all_digits 16 w ≡ true
  unfolding is_hex
  hex_digits_lem h = and_right (not (eqb (length w) 0) && eqb (length w % 2) 0) (all_digits 16 w) h
