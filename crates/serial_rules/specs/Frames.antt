-- Frames of UART and RS485 (document 01, "The two serial links" and "Refusal numbers"): one set of definitions for both.
use Rattle.std.specs.Prelude.{ℕ, ◌+◌, Bool, true, false, cond, List, [], ◌∷◌, ◌++◌, leb, ltb, eqb, length, get_or, drop, None, Option, Some}
use Rattle.message_rules.specs.Answer.{Answer, refused, given, passed, require, after, written}
use Rattle.message_rules.specs.Data.{data_read, data_bytes}
use Rattle.message_rules.specs.Checks.{write_checks}
use Rattle.message_rules.specs.declared.Carries.{Carries}
use Rattle.message_rules.specs.declared.Kind.{Kind}
use Rattle.message_rules.specs.declared.Kind.TheVariants as KindOf
use Rattle.message_rules.specs.declared.Message.{Message}
use Rattle.serial_rules.specs.Stuffing.{esc, tail_byte, doubled, scan}
use Rattle.serial_rules.specs.declared.Stop.{Stop}
use Rattle.serial_rules.specs.declared.Stop.TheVariants.{Ended, Broken, Cut}
use Rattle.serial_rules.specs.declared.StartRow.{StartRow}
use Rattle.serial_rules.specs.declared.StartRow.TheVariants.{Request, Reply, Nack, Event}
use Rattle.serial_rules.specs.declared.SerialLink.{SerialLink}
use Rattle.serial_rules.specs.declared.SerialLink.TheVariants.{Uart, Rs485}

-- The table of start bytes. RS485 has no event: 0 stands for what is never written.
abbrev pub start_byte : SerialLink → StartRow → ℕ
start_byte Uart Request = 0x7F
start_byte Uart Reply = 0x07
start_byte Uart Nack = 0x0F
start_byte Uart Event = 0x2F
start_byte Rs485 Request = 0x80
start_byte Rs485 Reply = 0x08
start_byte Rs485 Nack = 0x10
start_byte Rs485 Event = 0

-- The row of a start byte of the link.
unfoldable pub start_row : SerialLink → ℕ → Option StartRow
start_row Uart b =
    cond (eqb b 0x7F) (Some Request)
    (cond (eqb b 0x07) (Some Reply)
    (cond (eqb b 0x0F) (Some Nack)
    (cond (eqb b 0x2F) (Some Event)
    None)))
start_row Rs485 b =
    cond (eqb b 0x80) (Some Request)
    (cond (eqb b 0x08) (Some Reply)
    (cond (eqb b 0x10) (Some Nack)
    None))

-- The row of a kind.
abbrev pub row_of : Kind → StartRow
row_of KindOf.Telecommand = Request
row_of KindOf.TelecommandAck = Reply
row_of KindOf.TelecommandNack = Nack
row_of KindOf.TelemetryRequest = Request
row_of KindOf.TelemetryResponse = Reply
row_of KindOf.TelemetryNack = Nack
row_of KindOf.Event = Event

-- An ID of a row: 0..127 is a telecommand kind's, 128..254 a telemetry kind's, 255 no kind's.
unfoldable pub by_id : ℕ → Kind → Kind → Option Kind
by_id id tc tlm = cond (leb id 127) (Some tc) (cond (leb id 254) (Some tlm) None)

-- "The ID decides between the two kinds of a row." An event has no ID.
unfoldable pub kind_of : StartRow → ℕ → Option Kind
kind_of Request id = by_id id KindOf.Telecommand KindOf.TelemetryRequest
kind_of Reply id = by_id id KindOf.TelecommandAck KindOf.TelemetryResponse
kind_of Nack id = by_id id KindOf.TelecommandNack KindOf.TelemetryNack
kind_of Event id = Some KindOf.Event

-- In front of the data stand "the ID (none for an event), on RS485 source and destination": the row decides on the ID,
abbrev pub has_id : StartRow → Bool
has_id Request = true
has_id Reply = true
has_id Nack = true
has_id Event = false

-- and the link on the addresses.
abbrev pub has_addresses : SerialLink → Bool
has_addresses Uart = false
has_addresses Rs485 = true

-- How many bytes each of the two takes, and both.
abbrev pub id_length : StartRow → ℕ
id_length r = cond (has_id r) 1 0

abbrev pub address_length : SerialLink → ℕ
address_length l = cond (has_addresses l) 2 0

abbrev pub front_length : SerialLink → StartRow → ℕ
front_length l r = id_length r + address_length l

-- Reading: the ID, which "reads as 255" for an event, and the addresses after it, source 0 and destination 1. "Fields that a link or a kind
-- doesn't carry read as 0".
unfoldable pub id_field : StartRow → List ℕ → ℕ
id_field r d = cond (has_id r) (get_or d 0 0) 255

unfoldable pub address_field : SerialLink → StartRow → List ℕ → ℕ → ℕ
address_field l r d i = cond (has_addresses l) (get_or d (id_length r + i) 0) 0

-- Writing: the ID, the addresses, and the one after the other.
unfoldable pub id_bytes : StartRow → Message → List ℕ
id_bytes r m = cond (has_id r) (m.id ∷ []) []

unfoldable pub address_bytes : SerialLink → Message → List ℕ
address_bytes l m = cond (has_addresses l) (m.source ∷ m.destination ∷ []) []

unfoldable pub front_fields : SerialLink → StartRow → Message → List ℕ
front_fields l r m = id_bytes r m ++ address_bytes l m

-- 7: RS485 source 0.
unfoldable pub source_legal : SerialLink → ℕ → Bool
source_legal Uart s = true
source_legal Rs485 s = ltb 0 s

unfoldable pub source_checked : SerialLink → Answer Message (List ℕ) → Answer Message (List ℕ)
source_checked l (refused n) = refused n
source_checked l (given m p) = after (require (source_legal l m.source) 7 passed) (given m p)

-- 6, 7 of a body whose ID decided for a kind: its fields, and the data after them.
unfoldable pub kind_read : SerialLink → StartRow → Kind → List ℕ → Answer Message (List ℕ)
kind_read l r k d =
    source_checked l (data_read k (id_field r d) (address_field l r d 0) (address_field l r d 1) (drop (front_length l r) d))

-- 5: the ID of no kind.
unfoldable pub identified : SerialLink → StartRow → Option Kind → List ℕ → Answer Message (List ℕ)
identified l r None d = refused 5
identified l r (Some k) d = kind_read l r k d

-- 6 where ID or address bytes are missing, then 5, 6, 7.
unfoldable pub frame_body : SerialLink → StartRow → List ℕ → Answer Message (List ℕ)
frame_body l r d =
    after (require (leb (front_length l r) (length d)) 6 passed) (identified l r (kind_of r (id_field r d)) d)

-- 1 the input ends inside the frame, 3 ESC before any byte but ESC or FF, 4 bytes after the tail.
unfoldable pub closed : SerialLink → StartRow → Stop → ℕ → ℕ → List ℕ → Answer Message (List ℕ)
closed l r Cut n size d = refused 1
closed l r Broken n size d = refused 3
closed l r Ended n size d = after (require (eqb n size) 4 passed) (frame_body l r d)

-- After a start byte of a row, the scan decides.
unfoldable pub row_read : SerialLink → StartRow → List ℕ → Answer Message (List ℕ)
row_read l r s = closed l r (scan s).stop (scan s).consumed (length s) (scan s).body

-- 2: no start byte of this link.
unfoldable pub started : SerialLink → Option StartRow → List ℕ → Answer Message (List ℕ)
started l None s = refused 2
started l (Some r) s = row_read l r s

-- "Reading a serial frame: the first fault from the left among 1, 2, 3, 4; then 6 where ID or address bytes are missing, 5, 6, 7."
unfoldable pub frame_read : SerialLink → List ℕ → Answer Message (List ℕ)
frame_read l b =
    after (require (leb 1 (length b)) 1 (require (eqb (get_or b 0 0) esc) 2 (require (leb 2 (length b)) 1 passed)))
    (started l (start_row l (get_or b 1 0)) (drop 2 b))

-- 9: an event on RS485; a nack that is "not told" on both.
abbrev pub serial_carries : SerialLink → Carries
serial_carries Uart = record { events = true; errors = true }
serial_carries Rs485 = record { events = false; errors = true }

-- "A frame is ESC, a start byte, the ID, on RS485 source and destination, then data, then ESC 0xFF."
unfoldable pub frame_bytes : SerialLink → Message → List ℕ → List ℕ
frame_bytes l m p =
    esc ∷ start_byte l (row_of m.kind) ∷ (doubled (front_fields l (row_of m.kind) m ++ data_bytes m p) ++ (esc ∷ tail_byte ∷ []))

-- 7, which these links alone have, then the frame.
unfoldable pub checked_frame : SerialLink → Message → List ℕ → Answer Unit (List ℕ)
checked_frame l m p = after (require (source_legal l m.source) 7 passed) (written (frame_bytes l m p))

-- "Refusal numbers", writing: 9, 5, 6, 7.
unfoldable pub frame_write : SerialLink → Message → List ℕ → Answer Unit (List ℕ)
frame_write l m p = after (write_checks (serial_carries l) m (length p)) (checked_frame l m p)
