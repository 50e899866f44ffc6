-- What a caller needs to know of a link, whichever it is: carried by each link's checks, which come before its bytes.
use Prim.Native.Nat.{ℕ, ◌+◌, ◌≤◌, ◌<◌}
use mathlib.Core.Bool.{true, false, not, or-true}
use mathlib.Core.List.{List, [], ◌++◌}
use mathlib.Core.Path.{◌≡◌, refl}
use native.Mathlib.Omega.{arith}
use borrow.Author.Tests.{leb-true, lt-ltb}
use lib.Dec.{leb}
use lib.ListN.{length, length-append, length-take}
use Rattle.message_rules.specs.Answer.{Answer, refused, given, passed, require, within, after, written}
use Rattle.message_rules.specs.Data.{error_bytes}
use Rattle.message_rules.specs.Checks.{payload_legal, field_checks, error_told, writable, write_checks}
use Rattle.message_rules.specs.Kinds.{inside, payload_range, error_length, is_event}
use Rattle.message_rules.specs.declared.Carries.{Carries}
use Rattle.message_rules.specs.declared.Kind.{Kind}
use Rattle.message_rules.specs.declared.Kind.TheVariants.{Telecommand, TelecommandAck, TelecommandNack, TelemetryRequest, TelemetryResponse, TelemetryNack, Event}
use Rattle.message_rules.specs.declared.Message.{Message}
use Rattle.message_rules.proofs.Answers.{after-given, after-passed}
use Rattle.message_rules.proofs.Checks.{require-passed, both_true, fields_passed}
use Rattle.message_rules.proofs.Checks as checks
use Rattle.can_rules.specs.Can.{can_bytes, can_carries, can_write, all_frames, complete, can_read}
use Rattle.can_rules.proofs.Lengths.{written-most}
use Rattle.csp_rules.specs.Csp.{csp_head, csp_carries, csp_read, csp_write}
use Rattle.serial_rules.specs.Frames.{row_of, front_length, front_fields, source_legal, serial_carries, frame_bytes, checked_frame, frame_read, frame_write}
use Rattle.serial_rules.specs.declared.StartRow.{StartRow}
use Rattle.serial_rules.specs.declared.StartRow.TheVariants as StartRowOf
use Rattle.serial_rules.specs.declared.SerialLink.{SerialLink}
use Rattle.serial_rules.specs.declared.SerialLink.TheVariants as SerialLinkOf
use Rattle.serial_rules.proofs.Doubling.{doubled-most}
use Rattle.serial_rules.proofs.Tables.{front_length_three, fields_length}
use Rattle.serial_rules.proofs.Lengths.{frame_size_lem}
use Rattle.link_rules.specs.Link.{link_read, link_write, most_bytes}
use Rattle.link_rules.specs.declared.Link.{Link}
use Rattle.link_rules.specs.declared.Link.TheVariants.{Uart, Rs485, Can, Csp}

-- What fits into an output is the answer itself.
pub within-given : {A : Type 0} (out : List ℕ) (x : Answer A (List ℕ)) (a : A) (b : List ℕ) → within out x ≡ given a b → (x ≡ given a b) × (length b ≤ length out)
unfolding within
within-given out (refused n) a b e = absurd (let z : ◌≡◌ {A = ℕ} 0 1 = cc in omega arith)
within-given out (given a' b') a b e =
    let g = after-given (require (leb (length b') (length out)) 8 passed) a' a b' b e in
    (rw (g.1, g.2), rw (← g.2) (leb-true _ _ (require-passed (leb (length b') (length out)) 8 passed g.0).0))

-- What tells the error and the payload have at most 256 bytes together.
data_range : (k : Kind) → error_length k + (payload_range k).1 ≤ 256
data_range Telecommand = omega arith
data_range TelecommandAck = omega arith
data_range TelecommandNack = omega arith
data_range TelemetryRequest = omega arith
data_range TelemetryResponse = omega arith
data_range TelemetryNack = omega arith
data_range Event = omega arith

data-most : (c : Carries) (m : Message) (p : List ℕ) → write_checks c m (length p) ≡ passed → length (error_bytes m) + length p ≤ 256
unfolding write_checks payload_legal inside error_bytes
data-most c m p e =
    let fields = fields_passed m (payload_legal m.kind (length p)) (require-passed (writable c m) 9 _ e).1 in
    let range = payload_range m.kind in
    let most = leb-true (length p) range.1 (both_true (leb range.0 (length p)) (leb (length p) range.1) fields.1).1 in
    simp length-take (omega (arith, most, data_range m.kind))

-- A serial frame: head and tail, and every byte between them at most twice.
frame-most : (l : SerialLink) (m : Message) (p : List ℕ) → length (error_bytes m) + length p ≤ 256
    → length (frame_bytes l m p) ≤ 516 + front_length l (row_of m.kind) + front_length l (row_of m.kind)
frame-most l m p h =
    let r = row_of m.kind in
    rw (frame_size_lem l m p) (omega (arith, fields_length l r m, doubled-most (front_fields l r m), doubled-most (error_bytes m), doubled-most p))

uart_front : (r : StartRow) → front_length SerialLinkOf.Uart r ≤ 1
uart_front StartRowOf.Request = omega arith
uart_front StartRowOf.Reply = omega arith
uart_front StartRowOf.Nack = omega arith
uart_front StartRowOf.Event = omega arith

serial_most : (l : SerialLink) (m : Message) (p b : List ℕ) → frame_write l m p ≡ written b → length b ≤ 516 + front_length l (row_of m.kind) + front_length l (row_of m.kind)
unfolding frame_write checked_frame
serial_most l m p b e =
    let w = after-passed (write_checks (serial_carries l) m (length p)) _ tt b e in
    let g = after-given (require (source_legal l m.source) 7 passed) tt tt (frame_bytes l m p) b w.1 in
    rw (← g.2) (frame-most l m p (data-most (serial_carries l) m p w.0))

-- What writing gives is never longer than the link's bound.
pub bytes_most : (l : Link) (m : Message) (p b : List ℕ) → link_write l m p ≡ written b → length b ≤ most_bytes l
unfolding link_write can_write csp_write csp_head
bytes_most Uart m p b e = omega (arith, serial_most SerialLinkOf.Uart m p b e, uart_front (row_of m.kind))
bytes_most Rs485 m p b e = omega (arith, serial_most SerialLinkOf.Rs485 m p b e, front_length_three SerialLinkOf.Rs485 (row_of m.kind))
bytes_most Can m p b e = written-most m p b e
bytes_most Csp m p b e =
    let g = after-given (write_checks csp_carries m (length p)) tt tt (csp_head m ++ p) b e in
    rw (← g.2) (simp length-append (omega (arith, data-most csp_carries m p g.0)))

-- What is written has a payload of at most 256 bytes.
pub payload-most : (l : Link) (m : Message) (p b : List ℕ) → link_write l m p ≡ written b → length p ≤ 256
unfolding link_write frame_write can_write csp_write
payload-most Uart m p b e = checks.payload-most _ m _ (after-passed (write_checks (serial_carries SerialLinkOf.Uart) m (length p)) _ tt b e).0
payload-most Rs485 m p b e = checks.payload-most _ m _ (after-passed (write_checks (serial_carries SerialLinkOf.Rs485) m (length p)) _ tt b e).0
payload-most Can m p b e = checks.payload-most _ m _ (after-passed (write_checks can_carries m (length p)) _ tt b e).0
payload-most Csp m p b e = checks.payload-most _ m _ (after-passed (write_checks csp_carries m (length p)) _ tt b e).0

-- A message that every link can write: no event, its error told if it is a nack, its fields legal for its kind; and on RS485 a source,
-- which is not 0.
abbrev SourceLegal : Link → ℕ → Type 0
SourceLegal Uart s = Unit
SourceLegal Rs485 s = 0 < s
SourceLegal Can s = Unit
SourceLegal Csp s = Unit

pub record LegalMessage (l : Link) (m : Message) (p : List ℕ) : Type 0 where
  pub plain : is_event m.kind ≡ false
  pub tells : error_told m.kind m.error ≡ true
  pub fields : field_checks m (payload_legal m.kind (length p)) ≡ passed
  pub source : SourceLegal l m.source

legal_checks : (c : Carries) (l : Link) (m : Message) (p : List ℕ) → LegalMessage l m p → write_checks c m (length p) ≡ passed
unfolding write_checks writable require
legal_checks c l m p h = rw (h.plain, h.tells, or-true (not c.errors), h.fields)

-- The bytes of a legal message.
pub legal_writes : (l : Link) (m : Message) (p : List ℕ) → LegalMessage l m p → (b : List ℕ) × (link_write l m p ≡ written b)
unfolding link_write frame_write checked_frame can_write csp_write source_legal require after
legal_writes Uart m p h = (frame_bytes SerialLinkOf.Uart m p, rw (legal_checks (serial_carries SerialLinkOf.Uart) Uart m p h))
legal_writes Rs485 m p h = (frame_bytes SerialLinkOf.Rs485 m p, rw (legal_checks (serial_carries SerialLinkOf.Rs485) Rs485 m p h, lt-ltb _ _ h.source))
legal_writes Can m p h = (can_bytes m p, rw (legal_checks can_carries Can m p h))
legal_writes Csp m p h = (csp_head m ++ p, rw (legal_checks csp_carries Csp m p h))

-- No bytes are no message.
pub no_bytes : (l : Link) → link_read l [] ≡ refused 1
unfolding link_read frame_read can_read all_frames complete csp_read require after
no_bytes Uart = refl
no_bytes Rs485 = refl
no_bytes Can = refl
no_bytes Csp = refl
