-- The values of the checksum that document 02 gives (ticket 6): carried by computing its definition.
use mathlib.Core.List.{[], ◌∷◌}
use mathlib.Core.Path.{◌≡◌, refl}
use Rattle.file_rules.specs.Checksum.{bit_step, bit_steps, high_first, byte_step, byte_steps, checksum}

-- "The check value of the ASCII digits 1 to 9 is 0x29B1."
pub check_value : checksum (0x31 ∷ 0x32 ∷ 0x33 ∷ 0x34 ∷ 0x35 ∷ 0x36 ∷ 0x37 ∷ 0x38 ∷ 0x39 ∷ []) ≡ 0x29B1
unfolding checksum byte_steps byte_step bit_steps high_first bit_step
check_value = refl

-- "The empty buffer's checksum becomes 0xFFFF."
pub empty_checksum : checksum [] ≡ 0xFFFF
unfolding checksum byte_steps
empty_checksum = refl
