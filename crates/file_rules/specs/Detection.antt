-- The errors that the checksum is sure to detect (document 02, ticket 6: "A byte sum misses two exchanged bytes.").
use Rattle.std.specs.Prelude.{ℕ, ◌≤◌, ◌<◌, List, ◌∷◌, ◌++◌, ◌≡◌, length}
use Rattle.little_endian_rules.specs.LittleEndian.{Bytes}
use Rattle.file_rules.specs.Checksum.{checksum}

-- As many bytes as the register has.
abbrev pub register_bytes : ℕ
register_bytes = 2

-- Two frames that differ only within two neighbouring bytes have different checksums: `these` and `those` are what one and the other have there.
abbrev pub NeighboursDetected : Type 0
NeighboursDetected =
    (front these those back : List ℕ) → Bytes these → Bytes those → length these ≡ length those → length these ≤ register_bytes
    → (these ≡ those → ⊥) → checksum (front ++ (these ++ back)) ≡ checksum (front ++ (those ++ back)) → ⊥

-- A frame with two of its bytes named.
abbrev pub with_two : List ℕ → ℕ → List ℕ → ℕ → List ℕ → List ℕ
with_two front a between b back = front ++ (a ∷ (between ++ (b ∷ back)))

-- Two different bytes of a frame of at most 256 bytes, exchanged wherever they stand, change its checksum.
abbrev pub ExchangedDetected : Type 0
ExchangedDetected =
    (front between back : List ℕ) (a b : ℕ) → a < 256 → b < 256 → length (with_two front a between b back) ≤ 256
    → (a ≡ b → ⊥) → checksum (with_two front a between b back) ≡ checksum (with_two front b between a back) → ⊥
