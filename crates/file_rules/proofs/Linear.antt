-- The register's steps are linear and one to one: carried by the single-bit step. With a zero bit it takes nothing but 0 to 0, because the polynomial
-- is odd.
use Prim.Native.Nat.{ℕ, zero, suc, ◌+◌, ◌*◌, ◌/◌, ◌%◌, ◌^◌, ◌≤◌, ◌<◌}
use mathlib.Core.List.{List, [], ◌∷◌}
use mathlib.Core.Path.{◌≡◌, refl, sym, ap, ap₂, ◌∙◌}
use native.Mathlib.Nat.{mul-mod_left}
use native.Mathlib.Omega.{arith}
use lib.Bits.{bit_xor, xor_shr, xor_mod, xor_lt, xor_self}
use Rattle.file_rules.specs.Checksum.{polynomial, bit_step, bit_steps, high_first, byte_step, byte_steps}
use Rattle.file_rules.proofs.Xor.{bit_cases, xor_zero, xor_pairs, xor_shl}

-- The polynomial times a bit.
times-polynomial : (a b : ℕ) → a < 2 → b < 2 → bit_xor a b * polynomial ≡ bit_xor (a * polynomial) (b * polynomial)
times-polynomial a b ha hb =
    bit_cases (λ a. bit_xor a b * polynomial ≡ bit_xor (a * polynomial) (b * polynomial)) refl
    (bit_cases (λ b. bit_xor 1 b * polynomial ≡ bit_xor polynomial (b * polynomial)) refl refl b hb) a ha

-- Each step leaves a register of sixteen bits,
bit_below : (register bit : ℕ) → bit_step register bit < 65536
unfolding bit_step
bit_below register bit = xor_lt 16 (bit_xor (register / 32768) bit % 2 * polynomial) (register * 2 % 65536) (omega arith) (omega arith)

bits_below : (register : ℕ) (bits : List ℕ) → register < 65536 → bit_steps register bits < 65536
unfolding bit_steps
bits_below register [] h = h
bits_below register (bit ∷ bits) h = bits_below (bit_step register bit) bits (bit_below register bit)

pub byte_below : (register byte : ℕ) → byte_step register byte < 65536
unfolding byte_step bit_steps high_first
byte_below register byte = bits_below (bit_step register (byte / 128 % 2)) (high_first 7 byte) (bit_below register (byte / 128 % 2))

pub bytes_below : (register : ℕ) (bytes : List ℕ) → register < 65536 → byte_steps register bytes < 65536
unfolding byte_steps
bytes_below register [] h = h
bytes_below register (byte ∷ bytes) h = bytes_below (byte_step register byte) bytes (byte_below register byte)

-- and the step of an exclusive or, of registers and of bits, is the exclusive or of the steps.
module _ (r s a b : ℕ) where
  leaving_linear : bit_xor (bit_xor r s / 32768) (bit_xor a b) % 2 ≡ bit_xor (bit_xor (r / 32768) a % 2) (bit_xor (s / 32768) b % 2)
  leaving_linear =
      ap (λ (n : ℕ). bit_xor n (bit_xor a b) % 2) (xor_shr r s 15) ∙ ap (λ (n : ℕ). n % 2) (xor_pairs (r / 32768) (s / 32768) a b)
      ∙ xor_mod (bit_xor (r / 32768) a) (bit_xor (s / 32768) b) 1

  bit_linear : bit_step (bit_xor r s) (bit_xor a b) ≡ bit_xor (bit_step r a) (bit_step s b)
  unfolding bit_step
  bit_linear =
      let x = bit_xor (r / 32768) a % 2 in
      let y = bit_xor (s / 32768) b % 2 in
      ap₂ bit_xor (ap (λ (n : ℕ). n * polynomial) leaving_linear ∙ times-polynomial x y (omega arith) (omega arith))
      (ap (λ (n : ℕ). n % 65536) (xor_shl 1 r s) ∙ xor_mod (r * 2) (s * 2) 16)
      ∙ xor_pairs (x * polynomial) (y * polynomial) (r * 2 % 65536) (s * 2 % 65536)

bits_linear : (n r s a b : ℕ) → bit_steps (bit_xor r s) (high_first n (bit_xor a b)) ≡ bit_xor (bit_steps r (high_first n a)) (bit_steps s (high_first n b))
unfolding bit_steps high_first
bits_linear zero r s a b = refl
bits_linear (suc n) r s a b =
    let x = a / 2 ^ n % 2 in
    let y = b / 2 ^ n % 2 in
    ap (λ (bit : ℕ). bit_steps (bit_step (bit_xor r s) bit) (high_first n (bit_xor a b))) (ap (λ (q : ℕ). q % 2) (xor_shr a b n) ∙ xor_mod (a / 2 ^ n) (b / 2 ^ n) 1)
    ∙ ap (λ (q : ℕ). bit_steps q (high_first n (bit_xor a b))) (bit_linear r s x y)
    ∙ bits_linear n (bit_step r x) (bit_step s y) a b

pub byte_linear : (r s a b : ℕ) → byte_step (bit_xor r s) (bit_xor a b) ≡ bit_xor (byte_step r a) (byte_step s b)
unfolding byte_step
byte_linear r s a b = bits_linear 8 r s a b

-- A zero bit makes 0 of 0 alone: where no 1 leaves the register, that doubles it; where a 1 does, the polynomial is added to an even number.
none_left : (r : ℕ) → 0 ≡ r / 32768 → r * 2 % 65536 ≡ 0 → r ≡ 0
none_left r none e = let small : r < 32768 = omega arith in let within : r * 2 / 65536 ≡ 0 = omega arith in omega arith

one_left : (r : ℕ) → r < 65536 → 1 ≡ r / 32768 → r * 2 % 65536 ≡ polynomial → ⊥
one_left r h one e =
    let large : 32768 ≤ r = omega arith in
    let over : r * 2 / 65536 ≡ 1 = omega arith in
    let odd : r * 2 ≡ 65536 + polynomial = omega arith in
    omega (arith, sym (mul-mod_left r 2) ∙ ap (λ (n : ℕ). n % 2) odd)

bit_zero : (r : ℕ) → r < 65536 → bit_step r 0 ≡ 0 → r ≡ 0
unfolding bit_step
bit_zero r h e =
    let added = sym (xor_zero (bit_xor (r / 32768) 0 % 2 * polynomial) (r * 2 % 65536) e) in
    bit_cases (λ left. left ≡ r / 32768 → r ≡ 0) (λ none. none_left r none (rw (← none) at added)) (λ one. absurd (one_left r h one (rw (← one) at added)))
    (r / 32768) (omega arith) refl

-- So different registers stay different, whatever bits follow.
bit_injective : (r s bit : ℕ) → r < 65536 → s < 65536 → bit_step r bit ≡ bit_step s bit → r ≡ s
bit_injective r s bit hr hs e =
    xor_zero r s
    (bit_zero (bit_xor r s) (xor_lt 16 r s hr hs)
    (ap (bit_step (bit_xor r s)) (sym (xor_self bit)) ∙ bit_linear r s bit bit ∙ ap (λ (x : ℕ). bit_xor x (bit_step s bit)) e ∙ xor_self (bit_step s bit)))

bits_injective : (r s : ℕ) (bits : List ℕ) → r < 65536 → s < 65536 → bit_steps r bits ≡ bit_steps s bits → r ≡ s
unfolding bit_steps
bits_injective r s [] hr hs e = e
bits_injective r s (bit ∷ bits) hr hs e =
    bit_injective r s bit hr hs (bits_injective (bit_step r bit) (bit_step s bit) bits (bit_below r bit) (bit_below s bit) e)

pub byte_injective : (r s byte : ℕ) → r < 65536 → s < 65536 → byte_step r byte ≡ byte_step s byte → r ≡ s
unfolding byte_step
byte_injective r s byte hr hs e = bits_injective r s (high_first 8 byte) hr hs e

pub bytes_injective : (r s : ℕ) (bytes : List ℕ) → r < 65536 → s < 65536 → byte_steps r bytes ≡ byte_steps s bytes → r ≡ s
unfolding byte_steps
bytes_injective r s [] hr hs e = e
bytes_injective r s (byte ∷ bytes) hr hs e =
    byte_injective r s byte hr hs (bytes_injective (byte_step r byte) (byte_step s byte) bytes (byte_below r byte) (byte_below s byte) e)
