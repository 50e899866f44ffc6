-- Both round trips of the serial links (demand 2): doubling undoes the scan, the fields in front of the data stand in their places, and
-- the data goes as on every link that carries the error byte.
use Rattle.std.specs.Prelude.{None, Option, Some}
use Prim.Native.Nat.{ℕ, ◌+◌, ◌≤◌}
use mathlib.Core.Bool.{Bool, true, false, cond}
use mathlib.Core.List.{List, [], ◌∷◌, ◌++◌}
use mathlib.Core.Path.{◌≡◌, refl, ap, sym, ◌∙◌}
use native.Mathlib.Omega.{arith}
use borrow.Author.Tests.{le-leb, eq-eqb, eqb-true, leb-true}
use lib.Dec.{leb, eqb}
use lib.ListN.{length, length-append}
use lib.Seq.{drop-length}
use Rattle.message_rules.specs.Answer.{Answer, refused, given, passed, require, after, written}
use Rattle.message_rules.specs.Data.{data_bytes, data_message, data_read}
use Rattle.message_rules.specs.Checks.{id_legal, payload_legal, writable, write_checks}
use Rattle.message_rules.specs.Kinds.{carried_on}
use Rattle.message_rules.specs.declared.Kind.{Kind}
use Rattle.message_rules.specs.declared.Message.{Message}
use Rattle.message_rules.proofs.Answers.{after-given, after-passed}
use Rattle.message_rules.proofs.Data.{data-written, data_read_lem}
use Rattle.message_rules.proofs.Checks.{require-passed, fields_passed}
use Rattle.serial_rules.specs.Stuffing.{doubled, scan}
use Rattle.serial_rules.specs.Frames.{start_byte, start_row, row_of, kind_of, has_addresses, front_length, id_field, front_fields, source_legal, source_checked, kind_read, identified, frame_body, closed, row_read, started, frame_read, serial_carries, frame_bytes, checked_frame, frame_write}
use Rattle.serial_rules.specs.declared.Stop.{Stop}
use Rattle.serial_rules.specs.declared.Stop.TheVariants.{Ended, Broken, Cut}
use Rattle.serial_rules.specs.declared.StartRow.{StartRow}
use Rattle.serial_rules.specs.declared.SerialLink.{SerialLink}
use Rattle.serial_rules.specs.declared.SerialLink.TheVariants.{Uart, Rs485}
use Rattle.serial_rules.proofs.Scans.{scan-doubled, doubled-scan}
use Rattle.serial_rules.proofs.Tables.{Has, row_of-start, start_of_row, fields_again, fields_length, id_carried, kind_of-id, row_of-kind, written_row, read-writable, body-again}

-- A frame around a doubled body reads as that body.
frame_around : (l : SerialLink) (r : StartRow) (d : List ℕ) → Has l r → frame_read l (0x1F ∷ start_byte l r ∷ (doubled d ++ (0x1F ∷ 0xFF ∷ []))) ≡ frame_body l r d
unfolding frame_read started row_read closed require after
frame_around l r d has =
    let s = doubled d ++ (0x1F ∷ 0xFF ∷ []) in
    let one : 1 ≤ length (0x1F ∷ start_byte l r ∷ s) = omega arith in
    let two : 2 ≤ length (0x1F ∷ start_byte l r ∷ s) = omega arith in
    let size : length (doubled d) + 2 ≡ length s = rw length-append in
    rw (le-leb _ _ one, le-leb _ _ two, row_of-start l r has, scan-doubled d [], eq-eqb _ _ size)

-- A body of the fields in front of the data and the data reads as the data.
body_around : (l : SerialLink) (m : Message) (q : List ℕ) → id_legal m.kind m.id ≡ true
    → frame_body l (row_of m.kind) (front_fields l (row_of m.kind) m ++ q)
    ≡ (let c = carried_on (has_addresses l) true m in source_checked l (data_read m.kind c.id c.source c.destination q))
unfolding frame_body identified kind_read carried_on require after
body_around l m q legal =
    let r = row_of m.kind in
    let f = fields_again l r m q in
    let id = f.0 ∙ id_carried m.kind m.id in
    let long : front_length l r ≤ length (front_fields l r m ++ q) = rw (length-append, fields_length l r m) (omega arith) in
    rw (le-leb _ _ long, id, kind_of-id m.kind m.id legal, id, f.1, f.2, f.3)

source_carried : (l : SerialLink) (s : ℕ) → source_legal l s ≡ true → source_legal l (cond (has_addresses l) s 0) ≡ true
unfolding source_legal
source_carried Uart s h = refl
source_carried Rs485 s h = h

-- Reading what was written returns every carried field and the payload.
pub written-reads : (l : SerialLink) (m : Message) (p b : List ℕ) → frame_write l m p ≡ written b → frame_read l b ≡ given (carried_on (has_addresses l) true m) p
unfolding frame_write checked_frame frame_bytes carried_on write_checks source_checked require after
written-reads l m p b e =
    let w = after-passed (write_checks (serial_carries l) m (length p)) _ tt b e in
    let v = after-given (require (source_legal l m.source) 7 passed) tt tt (frame_bytes l m p) b w.1 in
    let c = require-passed (writable (serial_carries l) m) 9 _ w.0 in
    let row = written_row l m c.0 in
    let h = fields_passed m (payload_legal m.kind (length p)) c.1 in
    let r = row_of m.kind in
    let source = source_carried l m.source (require-passed (source_legal l m.source) 7 passed v.0).0 in
    rw (← v.2, frame_around l r (front_fields l r m ++ data_bytes m p) row.0, body_around l m (data_bytes m p) h.0, data-written (has_addresses l) m p c.1 row.1, source)

source_checked-given : (l : SerialLink) (x : Answer Message (List ℕ)) (m : Message) (p : List ℕ) → source_checked l x ≡ given m p → (x ≡ given m p) × (source_legal l m.source ≡ true)
unfolding source_checked
source_checked-given l (refused n) m p e = absurd (let z : ◌≡◌ {A = ℕ} 0 1 = cc in omega arith)
source_checked-given l (given m' p') m p e =
    let g = after-given (require (source_legal l m'.source) 7 passed) m' m p' p e in
    (rw (g.1, g.2), rw (← g.1) (require-passed (source_legal l m'.source) 7 passed g.0).0)

-- Writing what was read returns the bytes: first from the kind that the ID decided for,
kind_writes : (l : SerialLink) (r : StartRow) (d : List ℕ) (m : Message) (p : List ℕ) (k : Kind) → Has l r → front_length l r ≤ length d → kind_of r (id_field r d) ≡ Some k
    → kind_read l r k d ≡ given m p
    → frame_write l m p ≡ written (0x1F ∷ start_byte l r ∷ (doubled d ++ (0x1F ∷ 0xFF ∷ [])))
unfolding kind_read frame_write checked_frame frame_bytes write_checks data_message require after
kind_writes l r d m p k has long q e =
    let y = source_checked-given l _ m p e in
    let z = data_read_lem k _ _ _ _ m p y.0 in
    let row : row_of m.kind ≡ r = ap (λ (c : Message). row_of c.kind) (sym z.0) ∙ row_of-kind r (id_field r d) k q in
    let able : writable (serial_carries l) m ≡ true = read-writable l m (rw row has) z.1 in
    let passes : write_checks (serial_carries l) m (length p) ≡ passed = rw able z.2 in
    let body : front_fields l r m ++ data_bytes m p ≡ d =
    rw z.3 (body-again l r d m long (ap (λ (c : Message). c.id) (sym z.0)) (ap (λ (c : Message). c.source) (sym z.0)) (ap (λ (c : Message). c.destination) (sym z.0))) in
    rw (passes, y.1, row, body)

-- then from the body,
body_writes : (l : SerialLink) (r : StartRow) (d : List ℕ) (m : Message) (p : List ℕ) → Has l r → frame_body l r d ≡ given m p
    → frame_write l m p ≡ written (0x1F ∷ start_byte l r ∷ (doubled d ++ (0x1F ∷ 0xFF ∷ [])))
unfolding frame_body identified
body_writes l r d m p has e = by (kind_of r (id_field r d)) refl
  where
    f : (require (leb (front_length l r) (length d)) 6 passed ≡ passed) × (identified l r (kind_of r (id_field r d)) d ≡ given m p)
    f = after-passed (require (leb (front_length l r) (length d)) 6 passed) _ m p e

    by : (x : Option Kind) → kind_of r (id_field r d) ≡ x → frame_write l m p ≡ written (0x1F ∷ start_byte l r ∷ (doubled d ++ (0x1F ∷ 0xFF ∷ [])))
    by None q = absurd (let z : ◌≡◌ {A = ℕ} 0 1 = cc (rw q at f.1) in omega arith)
    by (Some k) q =
        kind_writes l r d m p k has (leb-true _ _ (require-passed (leb (front_length l r) (length d)) 6 passed f.0).0) q (rw q at f.1)

-- then from a start byte of the link,
row_writes : (l : SerialLink) (r : StartRow) (s : List ℕ) (m : Message) (p : List ℕ) → Has l r → row_read l r s ≡ given m p
    → frame_write l m p ≡ written (0x1F ∷ start_byte l r ∷ s)
unfolding row_read closed
row_writes l r s m p has e = by (scan s).stop refl
  where
    by : (x : Stop) → (scan s).stop ≡ x → frame_write l m p ≡ written (0x1F ∷ start_byte l r ∷ s)
    by Cut q = absurd (let z : ◌≡◌ {A = ℕ} 0 1 = cc (rw q at e) in omega arith)
    by Broken q = absurd (let z : ◌≡◌ {A = ℕ} 0 1 = cc (rw q at e) in omega arith)
    by Ended q =
        let f = after-passed (require (eqb (scan s).consumed (length s)) 4 passed) (frame_body l r (scan s).body) m p (rw q at e) in
        let all : (scan s).consumed ≡ length s = eqb-true _ _ (require-passed (eqb (scan s).consumed (length s)) 4 passed f.0).0 in
        let tail : s ≡ doubled (scan s).body ++ (0x1F ∷ 0xFF ∷ []) =
        doubled-scan s q ∙ rw (all, drop-length) in
        body_writes l r (scan s).body m p has f.1 ∙ ap (λ (x : List ℕ). written (0x1F ∷ start_byte l r ∷ x)) (sym tail)

-- then from any bytes.
pub read_writes : (l : SerialLink) (b : List ℕ) (m : Message) (p : List ℕ) → frame_read l b ≡ given m p → frame_write l m p ≡ written b
unfolding frame_read started require after
read_writes l [] m p e = absurd (let z : ◌≡◌ {A = ℕ} 0 1 = cc in omega arith)
read_writes l (x ∷ []) m p e = by (eqb x 0x1F) refl
  where
    by : (t : Bool) → eqb x 0x1F ≡ t → frame_write l m p ≡ written (x ∷ [])
    by true q = absurd (let z : ◌≡◌ {A = ℕ} 0 1 = cc (rw q at e) in omega arith)
    by false q = absurd (let z : ◌≡◌ {A = ℕ} 0 1 = cc (rw q at e) in omega arith)
read_writes l (x ∷ y ∷ s) m p e = by (eqb x 0x1F) refl (start_row l y) refl
  where
    one : 1 ≤ length (x ∷ y ∷ s)
    one = omega arith

    two : 2 ≤ length (x ∷ y ∷ s)
    two = omega arith

    by : (t : Bool) → eqb x 0x1F ≡ t → (w : Option StartRow) → start_row l y ≡ w → frame_write l m p ≡ written (x ∷ y ∷ s)
    by false q w v = absurd (let z : ◌≡◌ {A = ℕ} 0 1 = cc (rw (le-leb _ _ one, q) at e) in omega arith)
    by true q None v = absurd (let z : ◌≡◌ {A = ℕ} 0 1 = cc (rw (le-leb _ _ one, q, le-leb _ _ two, v) at e) in omega arith)
    by true q (Some r) v =
        let g = start_of_row l y r v in
        rw (eqb-true x 0x1F q, ← g.0) (row_writes l r s m p g.1 (rw (le-leb _ _ one, q, le-leb _ _ two, v) at e))
