-- A byte's eight steps, and a table of them: carried by what they make of each byte in the register's lower half, in its upper half and in the
-- frame, computed for all 256, and by linearity.
use Prim.Native.Nat.{ℕ, ◌+◌, ◌*◌, ◌/◌, ◌%◌, ◌<◌}
use mathlib.Core.List.{List}
use mathlib.Core.Path.{◌≡◌, refl, sym, ap, ap₂, ◌∙◌}
use native.Mathlib.Nat.{add-zero}
use native.Mathlib.Omega.{arith}
use lib.Bits.{bit_xor, xor_lt, xor_block, xor_shifted, xor_comm, xor_zero_r}
use lib.ListN.{get_or}
use Rattle.file_rules.specs.Checksum.{bit_step, bit_steps, high_first, byte_step}
use Rattle.file_rules.proofs.Linear.{byte_linear}
use Rattle.file_rules.proofs.Listed.{listed, at, same}

-- A byte in the lower half moves to the upper one,
moved : listed (λ b. byte_step b 0) 0 256 ≡ listed (λ b. b * 256) 0 256
unfolding byte_step bit_steps high_first bit_step
moved = refl

pub low_half : (b : ℕ) → b < 256 → byte_step b 0 ≡ b * 256
low_half = same (λ b. byte_step b 0) (λ b. b * 256) 256 moved

-- and a byte in the upper half does the same as one that comes from the frame.
entered : listed (λ b. byte_step (b * 256) 0) 0 256 ≡ listed (byte_step 0) 0 256
unfolding byte_step bit_steps high_first bit_step
entered = refl

pub high_half : (b : ℕ) → b < 256 → byte_step (b * 256) 0 ≡ byte_step 0 b
high_half = same (λ b. byte_step (b * 256) 0) (byte_step 0) 256 entered

-- So a byte of the frame may be added to the upper half beforehand.
pub frame_byte : (r b : ℕ) → b < 256 → byte_step r b ≡ byte_step (bit_xor r (b * 256)) 0
frame_byte r b h =
    ap (λ (x : ℕ). byte_step x b) (sym (xor_zero_r r)) ∙ byte_linear r 0 0 b ∙ ap (bit_xor (byte_step r 0)) (sym (high_half b h))
    ∙ sym (byte_linear r (b * 256) 0 0)

-- "A table of 256 numbers, each shown to be what eight single-bit steps give" (document 02, ticket 6): of a register of zeros, at each byte. A record, so
-- that the table is not written out where this is used.
pub record Entries (table : List ℕ) : Type 0 where
  pub entry : (b : ℕ) → b < 256 → get_or table b 0 ≡ byte_step 0 b

pub entries : (table : List ℕ) → table ≡ listed (byte_step 0) 0 256 → Entries table
entries table e = record { entry = at (byte_step 0) 256 table e }

module _ (r b : ℕ) (hr : r < 65536) (hb : b < 256) where
  pub place : bit_xor (r / 256) b < 256
  place = xor_lt 8 (r / 256) b (omega arith) hb

  halves : bit_xor r (b * 256) ≡ bit_xor (bit_xor (r / 256) b * 256) (r % 256)
  halves =
      let whole : r ≡ r / 256 * 256 + r % 256 = omega arith in
      ap₂ bit_xor whole (sym (add-zero (b * 256))) ∙ xor_block 8 (r / 256) b (r % 256) 0 (omega arith) (omega arith)
      ∙ ap (λ (x : ℕ). bit_xor (r / 256) b * 256 + x) (xor_zero_r (r % 256)) ∙ sym (xor_shifted (bit_xor (r / 256) b) 8 (r % 256) (omega arith))

  -- One step by a table is eight single-bit steps.
  pub by_table : (table : List ℕ) → Entries table → bit_xor (r * 256 % 65536) (get_or table (bit_xor (r / 256) b) 0) ≡ byte_step r b
  by_table table given =
      let k = bit_xor (r / 256) b in
      let low : r * 256 % 65536 ≡ byte_step (r % 256) 0 = sym (low_half (r % 256) (omega arith) ∙ omega arith) in
      ap₂ bit_xor low (given.entry k place ∙ sym (high_half k place)) ∙ xor_comm (byte_step (r % 256) 0) (byte_step (k * 256) 0)
      ∙ sym (byte_linear (k * 256) (r % 256) 0 0) ∙ ap (λ (x : ℕ). byte_step x 0) (sym halves) ∙ sym (frame_byte r b hb)
