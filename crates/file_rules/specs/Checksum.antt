-- The frame checksum (document 02, ticket 6): "the 16-bit check of CCSDS frame error control", by its rule for one bit.
use Rattle.std.specs.Prelude.{ℕ, zero, suc, ◌*◌, ◌/◌, ◌%◌, ◌^◌, List, [], ◌∷◌}
use Rattle.std.specs.Int.Bits.{bit_xor}

-- "Polynomial 0x1021": x^16 + x^12 + x^5 + 1, without its highest term.
abbrev pub polynomial : ℕ
polynomial = 0x1021

-- "All ones at the start": the sixteen bits of the shift register.
abbrev pub all_ones : ℕ
all_ones = 0xFFFF

-- A single-bit step: the register moves up by one bit, and where the bit that leaves it differs from the frame's bit, the polynomial is added
-- to it (exclusive or).
unfoldable pub bit_step : ℕ → ℕ → ℕ
bit_step register bit = bit_xor (bit_xor (register / 32768) bit % 2 * polynomial) (register * 2 % 65536)

unfoldable pub bit_steps : ℕ → List ℕ → ℕ
bit_steps register [] = register
bit_steps register (bit ∷ bits) = bit_steps (bit_step register bit) bits

-- "High bit first": the lowest n bits of a number, the highest of them first.
unfoldable pub high_first : ℕ → ℕ → List ℕ
high_first zero number = []
high_first (suc n) number = number / 2 ^ n % 2 ∷ high_first n number

-- A byte of the frame: eight single-bit steps.
unfoldable pub byte_step : ℕ → ℕ → ℕ
byte_step register byte = bit_steps register (high_first 8 byte)

unfoldable pub byte_steps : ℕ → List ℕ → ℕ
byte_steps register [] = register
byte_steps register (byte ∷ bytes) = byte_steps (byte_step register byte) bytes

-- "No final inversion": the register as the last bit leaves it.
unfoldable pub checksum : List ℕ → ℕ
checksum s = byte_steps all_ones s
