-- The order of a reader's refusals: each law computes the definitions of Frames from what it supposes of the frame or its body.
use Prim.Native.Nat.{ℕ, ◌+◌, ◌≤◌, ◌<◌}
use mathlib.Core.List.{List, ◌∷◌, ◌++◌}
use mathlib.Core.Path.{◌≡◌, refl}
use native.Mathlib.Omega.{arith}
use borrow.Author.Tests.{le-leb, lt-leb, ne_eqb}
use lib.ListN.{length, get_or, length-append}
use Rattle.message_rules.specs.Answer.{refused, require, after}
use Rattle.serial_rules.specs.Stuffing.{doubled, scan}
use Rattle.serial_rules.specs.Frames.{start_byte, by_id, kind_of, front_length, id_field, identified, frame_body, closed, row_read, started, frame_read}
use Rattle.serial_rules.specs.declared.Stop.TheVariants.{Broken}
use Rattle.serial_rules.specs.declared.StartRow.{StartRow}
use Rattle.serial_rules.specs.declared.StartRow.TheVariants.{Request, Reply, Nack, Event}
use Rattle.serial_rules.specs.declared.SerialLink.{SerialLink}
use Rattle.serial_rules.proofs.Scans.{scan-doubled}
use Rattle.serial_rules.proofs.Tables.{Has, row_of-start}

-- After a start byte of the link the scan decides.
opened : (l : SerialLink) (r : StartRow) (s : List ℕ) → Has l r → frame_read l (0x1F ∷ start_byte l r ∷ s) ≡ row_read l r s
unfolding frame_read started require after
opened l r s has =
    let one : 1 ≤ length (0x1F ∷ start_byte l r ∷ s) = omega arith in
    let two : 2 ≤ length (0x1F ∷ start_byte l r ∷ s) = omega arith in
    rw (le-leb _ _ one, le-leb _ _ two, row_of-start l r has)

-- "3: inside a serial frame, ESC before any byte but ESC or FF", whatever follows it: "the first fault from the left among 1, 2, 3, 4".
pub broken_three : (l : SerialLink) (r : StartRow) (s : List ℕ) → Has l r → (scan s).stop ≡ Broken → frame_read l (0x1F ∷ start_byte l r ∷ s) ≡ refused 3
unfolding row_read closed
broken_three l r s has broken = rw (opened l r s has, broken)

-- "4: bytes after the message", whatever they and the body are.
pub trailing_four : (l : SerialLink) (r : StartRow) (d : List ℕ) (x : ℕ) (rest : List ℕ) → Has l r
    → frame_read l (0x1F ∷ start_byte l r ∷ (doubled d ++ (0x1F ∷ 0xFF ∷ x ∷ rest))) ≡ refused 4
unfolding row_read closed require after
trailing_four l r d x rest has =
    let s = doubled d ++ (0x1F ∷ 0xFF ∷ x ∷ rest) in
    let size : length s ≡ length (doubled d) + length (0x1F ∷ 0xFF ∷ x ∷ rest) = rw length-append in
    rw (opened l r s has, scan-doubled d (x ∷ rest), ne_eqb (length (doubled d) + 2) (length s) (λ e. omega arith))

-- "then 6 where ID or address bytes are missing, 5, 6, 7": 6 without them, whatever the ID is;
pub missing_six : (l : SerialLink) (r : StartRow) (d : List ℕ) → length d < front_length l r → frame_body l r d ≡ refused 6
unfolding frame_body require after
missing_six l r d short = rw (lt-leb _ _ short)

-- with them 5 for the ID that no kind has, whatever the length is.
pub unknown_five : (l : SerialLink) (r : StartRow) (d : List ℕ) → (r ≡ Event → ⊥) → front_length l r ≤ length d → get_or d 0 0 ≡ 255 → frame_body l r d ≡ refused 5
unfolding frame_body identified kind_of by_id id_field require after
unknown_five l Request d other long e = rw (le-leb _ _ long, e)
unknown_five l Reply d other long e = rw (le-leb _ _ long, e)
unknown_five l Nack d other long e = rw (le-leb _ _ long, e)
unknown_five l Event d other long e = absurd (other refl)
