-- Decimal numbers. Quotes are of docs/REPLAY.md, "A script".
use Rattle.std.specs.Prelude.{ℕ, zero, suc, ◌+◌, ◌*◌, ◌/◌, ◌%◌, cond, ◌&&◌, List, [], ◌∷◌, ◌++◌, leb, ltb, eqb, length, None, Option, Some}
use Rattle.text_rules.specs.Digits.{digit_value, all_digits, digit_of}

-- The value of decimal digits that follow others of the value v. "Zeros in front change nothing": they leave v at 0.
unfoldable pub value_from : ℕ → List ℕ → ℕ
value_from v [] = v
value_from v (b ∷ s) = value_from (v * 10 + digit_value b) s

-- What follows digits of the value v: "decimal digits and nothing else", and the whole value "at most" the limit.
unfoldable pub number_from : ℕ → ℕ → List ℕ → Option ℕ
number_from most v s = cond (all_digits 10 s && leb (value_from v s) most) (Some (value_from v s)) None

-- "Numbers are one or more decimal digits": an empty word is none.
unfoldable pub number_of : ℕ → List ℕ → Option ℕ
number_of most w = cond (eqb (length w) 0) None (number_from most 0 w)

-- A number as it is printed: its decimal digits, without zeros in front. `turns` only ends the recursion, and more than n are enough.
unfoldable pub digits_in : ℕ → ℕ → List ℕ
digits_in zero n = []
digits_in (suc turns) n = cond (ltb n 10) (digit_of n ∷ []) (digits_in turns (n / 10) ++ (digit_of (n % 10) ∷ []))

unfoldable pub decimal : ℕ → List ℕ
decimal n = digits_in (suc n) n
