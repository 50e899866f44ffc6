-- Errors within two neighbouring bytes are detected: carried by the register's sixteen bits. Two bytes can be added to it beforehand, and its steps
-- are one to one.
use Prim.Native.Nat.{ℕ, ◌+◌, ◌*◌, ◌≤◌, ◌<◌}
use mathlib.Core.List.{List, [], ◌∷◌, ◌++◌}
use mathlib.Core.Path.{◌≡◌, refl, sym, ap, ap₂, ◌∙◌}
use native.Mathlib.Omega.{arith}
use lib.Bits.{bit_xor, xor_lt, xor_shifted}
use lib.ListN.{length}
use Rattle.little_endian_rules.specs.LittleEndian.{Bytes}
use Rattle.file_rules.specs.Checksum.{all_ones, bit_step, bit_steps, high_first, byte_step, byte_steps, checksum}
use Rattle.file_rules.specs.Detection.{register_bytes, NeighboursDetected}
use Rattle.file_rules.proofs.Xor.{xor_assoc, xor_injective}
use Rattle.file_rules.proofs.Linear.{byte_linear, byte_below, bytes_below, byte_injective, bytes_injective}
use Rattle.file_rules.proofs.Table.{low_half, frame_byte}
use Rattle.file_rules.proofs.Checksum.{bytes-append}

-- One byte of the frame, and two, added to the register beforehand.
one_byte : (r a c : ℕ) → r < 65536 → a < 256 → c < 256 → byte_step r a ≡ byte_step r c → a ≡ c
one_byte r a c hr ha hc e =
    let added = byte_injective (bit_xor r (a * 256)) (bit_xor r (c * 256)) 0 (xor_lt 16 r (a * 256) hr (omega arith)) (xor_lt 16 r (c * 256) hr (omega arith)) (sym (frame_byte r a ha) ∙ e ∙ frame_byte r c hc) in
    omega (arith, xor_injective r (a * 256) (c * 256) added)

both_added : (r a b : ℕ) → a < 256 → b < 256 → byte_step (byte_step r a) b ≡ byte_step (byte_step (bit_xor r (a * 256 + b)) 0) 0
both_added r a b ha hb =
    frame_byte (byte_step r a) b hb
    ∙ ap (λ (x : ℕ). byte_step x 0)
    (ap₂ bit_xor (frame_byte r a ha) (sym (low_half b hb)) ∙ sym (byte_linear (bit_xor r (a * 256)) b 0 0)
    ∙ ap (λ (x : ℕ). byte_step x 0) (xor_assoc r (a * 256) b ∙ ap (bit_xor r) (xor_shifted a 8 b hb)))

two_bytes : (r a b c d : ℕ) → r < 65536 → a < 256 → b < 256 → c < 256 → d < 256 → byte_step (byte_step r a) b ≡ byte_step (byte_step r c) d → (a ≡ c) × (b ≡ d)
two_bytes r a b c d hr ha hb hc hd e =
    let x = bit_xor r (a * 256 + b) in
    let y = bit_xor r (c * 256 + d) in
    let twice = byte_injective (byte_step x 0) (byte_step y 0) 0 (byte_below x 0) (byte_below y 0) (sym (both_added r a b ha hb) ∙ e ∙ both_added r c d hc hd) in
    let once = byte_injective x y 0 (xor_lt 16 r (a * 256 + b) hr (omega arith)) (xor_lt 16 r (c * 256 + d) hr (omega arith)) twice in
    let same = xor_injective r (a * 256 + b) (c * 256 + d) once in
    (omega arith, omega arith)

within : (r : ℕ) (these those : List ℕ) → r < 65536 → Bytes these → Bytes those → length these ≡ length those → length these ≤ register_bytes → byte_steps r these ≡ byte_steps r those → these ≡ those
unfolding byte_steps
within r [] [] hr h k l few e = refl
within r (a ∷ []) (c ∷ []) hr h k l few e = ap (λ (x : ℕ). x ∷ []) (one_byte r a c hr h.0 k.0 e)
within r (a ∷ b ∷ []) (c ∷ d ∷ []) hr h k l few e =
    let same = two_bytes r a b c d hr h.0 h.1.0 k.0 k.1.0 e in
    ap₂ (λ (x y : ℕ). x ∷ y ∷ []) same.0 same.1
within r (a ∷ b ∷ x ∷ s) (c ∷ t) hr h k l few e = absurd (omega arith)
within r (a ∷ []) (c ∷ d ∷ t) hr h k l few e = absurd (omega arith)
within r (a ∷ b ∷ []) (c ∷ []) hr h k l few e = absurd (omega arith)
within r (a ∷ b ∷ []) (c ∷ d ∷ x ∷ t) hr h k l few e = absurd (omega arith)
within r [] (c ∷ t) hr h k l few e = absurd (omega arith)
within r (a ∷ s) [] hr h k l few e = absurd (omega arith)

pub neighbours_detected : NeighboursDetected
unfolding checksum
neighbours_detected front these those back h k l few differ e =
    let r = byte_steps all_ones front in
    let hr : r < 65536 = bytes_below all_ones front (omega arith) in
    let parts : (s : List ℕ) → byte_steps all_ones (front ++ (s ++ back)) ≡ byte_steps (byte_steps r s) back =
    λ s. bytes-append all_ones front (s ++ back) ∙ bytes-append r s back in
    differ (within r these those hr h k l few
    (bytes_injective (byte_steps r these) (byte_steps r those) back (bytes_below r these hr) (bytes_below r those hr) (sym (parts these) ∙ e ∙ parts those)))

-- Not so within three.
pub three_undetected : checksum (0x00 ∷ 0x00 ∷ 0x00 ∷ []) ≡ checksum (0x01 ∷ 0x10 ∷ 0x21 ∷ [])
unfolding checksum byte_steps byte_step bit_steps high_first bit_step
three_undetected = refl
