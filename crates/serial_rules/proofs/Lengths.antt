-- What a frame doubles: the scan undoes it. Then its length: its parts are doubled one by one.
use Prim.Native.Nat.{ℕ, ◌+◌}
use mathlib.Core.List.{List, [], ◌∷◌, ◌++◌, append_assoc}
use mathlib.Core.Path.{◌≡◌}
use native.Mathlib.Omega.{arith}
use lib.ListN.{length, drop, length-append}
use Rattle.message_rules.specs.Data.{error_bytes, data_bytes}
use Rattle.message_rules.specs.declared.Message.{Message}
use Rattle.serial_rules.specs.Stuffing.{doubled, scan}
use Rattle.serial_rules.specs.Frames.{start_byte, row_of, front_fields, frame_bytes}
use Rattle.serial_rules.specs.declared.SerialLink.{SerialLink}
use Rattle.serial_rules.proofs.Doubling.{doubled-append}
use Rattle.serial_rules.proofs.Scans.{scan-doubled}

module _ (l : SerialLink) (m : Message) (p : List ℕ) where
  -- "Every 0x1F between head and tail is doubled, the ID and (house) the addresses too": a scan finds all of it again, whatever it is.
  pub all_doubled : (scan (drop 2 (frame_bytes l m p))).body ≡ front_fields l (row_of m.kind) m ++ data_bytes m p
  unfolding frame_bytes
  all_doubled = rw (scan-doubled (front_fields l (row_of m.kind) m ++ data_bytes m p) [])

  pub frame_parts : frame_bytes l m p ≡ 0x1F ∷ start_byte l (row_of m.kind) ∷ (doubled ((front_fields l (row_of m.kind) m ++ error_bytes m) ++ p) ++ (0x1F ∷ 0xFF ∷ []))
  unfolding frame_bytes data_bytes
  frame_parts = rw append_assoc

  pub frame_size_lem : length (frame_bytes l m p) ≡ 4 + length (doubled (front_fields l (row_of m.kind) m)) + length (doubled (error_bytes m)) + length (doubled p)
  frame_size_lem = rw frame_parts (simp (length-append, doubled-append) (omega arith))
