-- Byte strings as they are printed and read, and the answers of both. Quotes are of docs/REPLAY.md, "A script".
use Rattle.std.specs.Prelude.{ℕ, ◌+◌, ◌*◌, ◌/◌, ◌%◌, Bool, cond, ◌&&◌, not, List, [], ◌∷◌, ◌++◌, leb, eqb, length, get_or, drop, None, Option, Some}
use Rattle.text_rules.specs.Digits.{digit_value, digit_of, all_digits}

-- "Byte strings are hexadecimal, two digits a byte", the higher half first.
unfoldable pub hex_digits : List ℕ → List ℕ
hex_digits [] = []
hex_digits (b ∷ s) = digit_of (b / 16) ∷ digit_of (b % 16) ∷ hex_digits s

-- "`-` stands for the empty string wherever a byte string is read or printed": as it is printed.
unfoldable pub printed : List ℕ → List ℕ
printed s = cond (eqb (length s) 0) (45 ∷ []) (hex_digits s)

-- The bytes of hexadecimal digits, two by two.
unfoldable pub pairs : List ℕ → List ℕ
pairs [] = []
pairs (a ∷ []) = []
pairs (a ∷ b ∷ s) = (digit_value a * 16 + digit_value b) ∷ pairs s

-- The word `-`.
unfoldable pub is_dash : List ℕ → Bool
is_dash w = eqb (length w) 1 && eqb (get_or w 0 0) 45

-- "Two digits a byte": an even number of digits, some, and nothing else.
unfoldable pub is_hex : List ℕ → Bool
is_hex w = not (eqb (length w) 0) && eqb (length w % 2) 0 && all_digits 16 w

-- What reading or printing comes to: bytes, or none that could be read or handed over.
pub data Conversion : Type 0 where
  bad : Conversion
  converted : List ℕ → Conversion

-- The byte string that a word stands for.
unfoldable pub read_hex : List ℕ → Conversion
read_hex w = cond (is_dash w) (converted []) (cond (is_hex w) (converted (pairs w)) bad)

-- A lent output that is shorter than the bytes takes none of them.
unfoldable pub if_room : List ℕ → Conversion → Conversion
if_room out bad = bad
if_room out (converted b) = cond (leb (length b) (length out)) (converted b) bad

-- What the caller gets as an answer: how many bytes there are.
unfoldable pub hex_answer : Conversion → Option ℕ
hex_answer bad = None
hex_answer (converted b) = Some (length b)

-- The lent output afterwards: as it came where there are none; else the bytes, and past them what was there.
unfoldable pub hex_output : Conversion → List ℕ → List ℕ
hex_output bad out = out
hex_output (converted b) out = b ++ drop (length b) out
