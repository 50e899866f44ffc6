-- What a line says is what the reader says of that frame alone: a complete frame is found whole, whatever follows it, since a doubled body
-- scans to its own tail.
use Rattle.std.specs.Prelude.{None, Some}
use Prim.Native.Nat.{ℕ, ◌+◌, ◌≤◌}
use mathlib.Core.Bool.{false, true}
use mathlib.Core.List.{List, [], ◌∷◌, ◌++◌, append_assoc, append-nil}
use mathlib.Core.Path.{◌≡◌, refl, ap, ◌∙◌}
use native.Mathlib.Omega.{arith}
use lib.Dec.{eqb}
use lib.ListN.{length, take, drop, length-append}
use lib.Seq.{take-append_seam, drop-append_seam}
use Rattle.message_rules.proofs.Answers.{after-given, after-passed}
use Rattle.message_rules.proofs.Checks.{require-passed}
use Rattle.message_rules.specs.Answer.{refused, given, counted, passed, require, written}
use Rattle.message_rules.specs.Data.{data_bytes}
use Rattle.message_rules.specs.Checks.{writable, write_checks}
use Rattle.message_rules.specs.Kinds.{carried_on}
use Rattle.message_rules.specs.declared.Message.{Message}
use Rattle.serial_rules.proofs.Scans.{scan-doubled}
use Rattle.serial_rules.specs.Stuffing.{doubled, Scan, stopped, scan, escaped, frame_scan}
use Rattle.serial_rules.specs.declared.Stop.TheVariants.{Ended, Broken, Cut}
use Rattle.serial_rules.proofs.RoundTrip.{written-reads}
use Rattle.serial_rules.proofs.Tables.{row_of-start, written_row}
use Rattle.serial_rules.specs.Frames.{start_byte, start_row, row_of, front_fields, source_legal, frame_read, serial_carries, frame_bytes, checked_frame, frame_write}
use Rattle.serial_rules.specs.declared.StartRow.{StartRow}
use Rattle.serial_rules.specs.declared.SerialLink.TheVariants.{Uart}
use Rattle.listing_rules.specs.Lines.{line, line_text}
use Rattle.listing_rules.specs.Listing.{frame_length, said, frame_line, lines}
use Rattle.listing_rules.proofs.Walks.{lines-pair, lines_end, lines-frame, stops}

-- A complete frame: ESC, a start byte, a body with every ESC doubled, and the tail.
abbrev pub complete : ℕ → List ℕ → List ℕ
complete start body = 0x1F ∷ start ∷ (doubled body ++ (0x1F ∷ 0xFF ∷ []))

module _ (start : ℕ) (row : StartRow) (known : start_row Uart start ≡ Some row) (body later : List ℕ) where
  scanned : frame_scan (complete start body ++ later) ≡ record { stop = Ended; consumed = length (doubled body) + 2; body = body }
  scanned = rw append_assoc (scan-doubled body later)

  whole : frame_length (complete start body ++ later) ≡ length (complete start body)
  whole = rw (scanned, length-append) (omega arith)

  said-whole : said (frame_scan (complete start body ++ later)).stop (complete start body ++ later) ≡ frame_read Uart (complete start body)
  unfolding said
  said-whole =
      let alone : frame_read Uart (take (frame_length (complete start body ++ later)) (complete start body ++ later)) ≡ frame_read Uart (complete start body) = rw (whole, take-append_seam) in
      ap (λ (r : Scan). said r.stop (complete start body ++ later)) scanned ∙ alone

  -- The line of a complete frame is what the reader says of it alone, and the listing goes on after it.
  pub complete-listed : (n at : ℕ) → length (complete start body ++ later) ≤ n
      → lines n at (complete start body ++ later) ≡ line_text (line at (counted (frame_read Uart (complete start body)))) ++ lines n (at + length (complete start body)) later
  unfolding frame_line
  complete-listed n at h =
      lines-frame at (complete start body ++ later) start _ row refl known n h ∙ rw (said-whole, whole, drop-append_seam)

-- So a frame that was written is listed as the message that was written.
pub written_listed : (m : Message) (p b later : List ℕ) (n at : ℕ) → frame_write Uart m p ≡ written b → length (b ++ later) ≤ n
    → lines n at (b ++ later) ≡ line_text (line at (given (carried_on false true m) (length p))) ++ lines n (at + length b) later
unfolding frame_write checked_frame frame_bytes write_checks counted
written_listed m p b later n at e h =
    let w = after-passed (write_checks (serial_carries Uart) m (length p)) _ tt b e in
    let v = after-given (require (source_legal Uart m.source) 7 passed) tt tt (frame_bytes Uart m p) b w.1 in
    let r = row_of m.kind in
    let has = (written_row Uart m (require-passed (writable (serial_carries Uart) m) 9 _ w.0).0).0 in
    let read : counted (frame_read Uart b) ≡ given (carried_on false true m) (length p) = rw (written-reads Uart m p b e) in
    let body = front_fields Uart r m ++ data_bytes m p in
    rw (← read, ← v.2) (complete-listed (start_byte Uart r) r (row_of-start Uart r has) body later n at (rw (← v.2) at h))

-- "An ESC and start byte break the frame off (3) and begin a new one there; ESC with another wrong byte gives 3 and the hunt goes on after
-- the pair."
module _ (start : ℕ) (row : StartRow) (known : start_row Uart start ≡ Some row) (body : List ℕ) (x : ℕ) (later : List ℕ) (n at : ℕ) where
  module _ (no-esc : eqb x 0x1F ≡ false) (no-tail : eqb x 0xFF ≡ false) (long : length (0x1F ∷ start ∷ (doubled body ++ (0x1F ∷ x ∷ later))) ≤ n) where
    broken : lines n at (0x1F ∷ start ∷ (doubled body ++ (0x1F ∷ x ∷ later))) ≡ line_text (line at (refused 3)) ++ lines n (at + (2 + length (doubled body))) (0x1F ∷ x ∷ later)
    unfolding said counted scan escaped
    broken = stops start row known body (0x1F ∷ x ∷ later) n at Broken (rw (no-esc, no-tail)) long

    left : length (0x1F ∷ x ∷ later) ≤ n
    left = omega (arith, length-append (doubled body) (0x1F ∷ x ∷ later))

    pub broken_by_start : (row₂ : StartRow) → start_row Uart x ≡ Some row₂
        → let f : List ℕ = 0x1F ∷ x ∷ later in
        let there = at + (2 + length (doubled body)) in
        lines n at (0x1F ∷ start ∷ (doubled body ++ f)) ≡ line_text (line at (refused 3)) ++ (frame_line there f ++ lines n (there + frame_length f) (drop (frame_length f) f))
    broken_by_start row₂ e = broken ∙ rw (lines-frame (at + (2 + length (doubled body))) (0x1F ∷ x ∷ later) x later row₂ refl e n left)

    pub broken_by_other : start_row Uart x ≡ None → lines n at (0x1F ∷ start ∷ (doubled body ++ (0x1F ∷ x ∷ later))) ≡ line_text (line at (refused 3)) ++ lines n (at + (2 + length (doubled body)) + 2) later
    broken_by_other e = broken ∙ rw (lines-pair (at + (2 + length (doubled body))) n x later e)

-- "An unfinished last frame gives 1", also with a last ESC.
module _ (start : ℕ) (row : StartRow) (known : start_row Uart start ≡ Some row) (body : List ℕ) (n at : ℕ) where
  unfinished : (t : List ℕ) → scan t ≡ stopped Cut 0 → length t ≤ 1 → length (0x1F ∷ start ∷ (doubled body ++ t)) ≤ n → lines n at (0x1F ∷ start ∷ (doubled body ++ t)) ≡ line_text (line at (refused 1))
  unfolding said counted
  unfinished t e short long = stops start row known body t n at Cut e long ∙ rw (lines_end (at + (2 + length (doubled body))) n t short, append-nil)

  pub unfinished-body : length (0x1F ∷ start ∷ (doubled body ++ [])) ≤ n → lines n at (0x1F ∷ start ∷ (doubled body ++ [])) ≡ line_text (line at (refused 1))
  unfolding scan
  unfinished-body = unfinished [] refl (omega arith)

  pub unfinished-esc : length (0x1F ∷ start ∷ (doubled body ++ (0x1F ∷ []))) ≤ n → lines n at (0x1F ∷ start ∷ (doubled body ++ (0x1F ∷ []))) ≡ line_text (line at (refused 1))
  unfolding scan
  unfinished-esc = unfinished (0x1F ∷ []) refl (omega arith)
