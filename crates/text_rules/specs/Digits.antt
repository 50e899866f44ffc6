-- The digits of numbers and byte strings. Quotes are of docs/REPLAY.md, "A script".
use Rattle.std.specs.Prelude.{ℕ, ◌+◌, ◌-◌, Bool, true, cond, ◌&&◌, List, [], ◌∷◌, leb, ltb}

-- A byte from lo to hi.
unfoldable pub from_to : ℕ → ℕ → ℕ → Bool
from_to lo hi b = leb lo b && leb b hi

-- `0` to `9`, and "capital letters in what is printed (small ones are read too)": `A` to `F` and `a` to `f` are 10 to 15.
-- 16 says that a byte is no digit.
unfoldable pub digit_value : ℕ → ℕ
digit_value b =
    cond (from_to 48 57 b) (b - 48)
    (cond (from_to 65 70 b) (b - 55)
    (cond (from_to 97 102 b) (b - 87)
    16))

-- A digit of decimal numbers, where the base is 10, or of hexadecimal strings, where it is 16.
unfoldable pub is_digit : ℕ → ℕ → Bool
is_digit base b = ltb (digit_value b) base

-- "Digits and nothing else": every byte is one.
unfoldable pub all_digits : ℕ → List ℕ → Bool
all_digits base [] = true
all_digits base (b ∷ s) = is_digit base b && all_digits base s

-- The digit of a number below 16: "capital letters in what is printed".
unfoldable pub digit_of : ℕ → ℕ
digit_of n = cond (ltb n 10) (48 + n) (55 + n)
