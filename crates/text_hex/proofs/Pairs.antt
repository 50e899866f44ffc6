-- The digits of a word, as the library tests them all, and pair by pair as chunks give them. Carried by the test's recursion, and by what
-- two bytes in front are.
use Prim.Native.Nat.{ℕ, ◌+◌, ◌*◌, ◌<◌}
use mathlib.Core.Bool.{Bool, true, ◌&&◌}
use mathlib.Core.List.{List, [], ◌∷◌, ◌++◌}
use mathlib.Core.Path.{◌≡◌, refl, ap, sym, ◌∙◌}
use native.Mathlib.Nat.{add-zero}
use native.Mathlib.Omega.{arith}
use lib.ListN.{length, get_or, drop, length-append, length-drop, get_or-append}
use lib.Seq.{get_or-drop, drop_at, drop-drop}
use Rattle.std.specs.List.{list_all}
use Rattle.text_rules.specs.Digits.{digit_value, is_digit, all_digits}
use Rattle.text_rules.proofs.Storing.{pair_digits}

pub digits_all : (s : List ℕ) → list_all (is_digit 16) s ≡ all_digits 16 s
unfolding all_digits
digits_all [] = refl
digits_all (b ∷ s) = ap (λ (t : Bool). is_digit 16 b && t) (digits_all s)

-- The pair i of a word, in front of those that are left: its bytes, both digits, and the pairs after it.
module _ (word left pair others : List ℕ) (i : ℕ) (digits : all_digits 16 word ≡ true) (rest : left ≡ drop (i * 2) word) (parts : left ≡ pair ++ others) (two : length pair ≡ 2) where
  pub pair_inside : i * 2 + 1 < length word
  pair_inside = omega (arith, ap length rest, ap length parts, length-append pair others, length-drop (i * 2) word)

  pub pair_first : get_or pair 0 0 ≡ get_or word (i * 2) 0
  pair_first = sym (get_or-append pair others 0 0 (omega arith)) ∙ ap (λ (s : List ℕ). get_or s 0 0) (sym parts ∙ rest) ∙ rw add-zero at (get_or-drop (i * 2) word 0 0)

  pub pair_second : get_or pair 1 0 ≡ get_or word (i * 2 + 1) 0
  pair_second = sym (get_or-append pair others 0 1 (omega arith)) ∙ ap (λ (s : List ℕ). get_or s 1 0) (sym parts ∙ rest) ∙ get_or-drop (i * 2) word 1 0

  pub pair_values : (digit_value (get_or pair 0 0) < 16) × (digit_value (get_or pair 1 0) < 16)
  pair_values = rw (pair_first, pair_second) (pair_digits word i digits pair_inside)

  pub pair_more : others ≡ drop ((i + 1) * 2) word
  pair_more =
      let next : i * 2 + 2 ≡ (i + 1) * 2 = omega arith in
      rw next at (sym (drop_at pair others 2 two) ∙ ap (drop 2) (sym parts ∙ rest) ∙ drop-drop 2 (i * 2) word)
