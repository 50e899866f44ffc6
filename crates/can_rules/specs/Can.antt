-- CAN (document 01, "CAN and CSP" and "Refusal numbers"): frames of 13 bytes, single or in a series.
use Rattle.std.specs.Prelude.{ℕ, zero, suc, ◌+◌, ◌-◌, ◌*◌, ◌/◌, Bool, true, false, cond, ◌&&◌, ◌||◌, List, [], ◌∷◌, ◌++◌, leb, ltb, eqb, length, get_or, take, drop, replicate, None, Option, Some}
use Rattle.message_rules.specs.Answer.{Answer, Check, refused, given, passed, require, after, written}
use Rattle.message_rules.specs.Checks.{id_legal, payload_legal, write_checks}
use Rattle.message_rules.specs.Kinds.{is_event, is_nack, type_number, type_kind}
use Rattle.message_rules.specs.declared.Carries.{Carries}
use Rattle.message_rules.specs.declared.Kind.{Kind}
use Rattle.message_rules.specs.declared.Kind.TheVariants.{Telecommand, TelemetryResponse, Event}
use Rattle.message_rules.specs.declared.Message.{Message}

-- "A CAN frame is kept as 13 bytes: identifier (4), DLC, eight data bytes": the bytes of a frame, and of its data.
abbrev pub frame_size : ℕ
frame_size = 13

abbrev pub data_size : ℕ
data_size = 8

-- "Each frame's last used byte is the count of frames still to come": the payload bytes before it in a full frame of a series.
abbrev pub part_size : ℕ
part_size = 7

-- "The number of frames is the whole part of L/7, plus one", and L is at most 256: the most frames still to come, and the bytes of all.
abbrev pub most_later : ℕ
most_later = 36

abbrev pub longest_series : ℕ
longest_series = frame_size * (most_later + 1)

-- "Types 1..6 are tc, tcack, tcnack, tlmreq, tlmrsp, tlmnack; 7 is a long tc, 8 a long tlmrsp, 9 an event": the first type of a series, and
-- the type in a series for a kind's type: a tc's 1 becomes 7, a tlmrsp's 5 becomes 8, an event's 9 stays. The other kinds are never in one.
abbrev pub first_series : ℕ
first_series = 7

unfoldable pub series_type : ℕ → ℕ
series_type t = cond (eqb t 1) 7 (cond (eqb t 5) 8 t)

-- The kind of a type 1..9: that of a single frame, or else of a series.
unfoldable pub series_kind : ℕ → Kind
series_kind t = cond (eqb t 7) Telecommand (cond (eqb t 8) TelemetryResponse Event)

unfoldable pub kind_or : Kind → Option Kind → Kind
kind_or k (Some single) = single
kind_or k None = k

unfoldable pub kind_of_type : ℕ → Kind
kind_of_type t = kind_or (series_kind t) (type_kind t)

-- "The identifier is type in bits 28..24, ID 23..16, source 15..8, destination 7..0", its bytes lowest first. An event is written
-- with ID 255.
unfoldable pub identifier : ℕ → Message → List ℕ
identifier t m = m.destination ∷ m.source ∷ cond (is_event m.kind) 255 m.id ∷ t ∷ []

-- "Identifier (4), DLC, eight data bytes, those past the DLC zero."
unfoldable pub can_frame : List ℕ → List ℕ → List ℕ
can_frame i d = i ++ (length d ∷ (d ++ replicate (data_size - length d) 0))

-- "A payload of 9..256 bytes, or an event, goes as a series."
unfoldable pub in_series : Kind → ℕ → Bool
in_series k n = is_event k || ltb data_size n

-- "Each frame's last used byte is the count of frames still to come." Seven payload bytes in each frame but the last, which has
-- what is left.
unfoldable pub series : List ℕ → ℕ → List ℕ → List ℕ
series i zero p = can_frame i (p ++ (0 ∷ []))
series i (suc n) p = can_frame i (take part_size p ++ (suc n ∷ [])) ++ series i n (drop part_size p)

-- "The number of frames is the whole part of L/7, plus one": so many come after the first.
unfoldable pub frames_after : ℕ → ℕ
frames_after n = n / part_size

-- A message as a series, and as one frame.
abbrev pub series_bytes : Message → List ℕ → List ℕ
series_bytes m p = series (identifier (series_type (type_number m.kind)) m) (frames_after (length p)) p

abbrev pub single_bytes : Message → List ℕ → List ℕ
single_bytes m p = can_frame (identifier (type_number m.kind) m) p

-- The 13-byte form of a message.
unfoldable pub can_bytes : Message → List ℕ → List ℕ
can_bytes m p = cond (in_series m.kind (length p)) (series_bytes m p) (single_bytes m p)

-- 9: CAN carries events and nacks that are "not told".
abbrev pub can_carries : Carries
can_carries = record { events = true; errors = false }

-- "Refusal numbers", writing: 9, 5, 6, 7.
unfoldable pub can_write : Message → List ℕ → Answer Unit (List ℕ)
can_write m p = after (write_checks can_carries m (length p)) (written (can_bytes m p))

-- The parts of a frame.
abbrev pub type_field : List ℕ → ℕ
type_field f = get_or f 3 0

abbrev pub dlc : List ℕ → ℕ
dlc f = get_or f 4 0

abbrev pub data_field : List ℕ → List ℕ
data_field f = drop 5 f

-- 2: no identifier of this link. Types are 1..9 and higher bits zero.
unfoldable pub type_legal : ℕ → Bool
type_legal t = leb 1 t && leb t 9

-- 7: a byte past the DLC is not 0.
unfoldable pub zeros : List ℕ → Bool
zeros [] = true
zeros (b ∷ s) = eqb b 0 && zeros s

-- "Types 1 and 5 have DLC 0..8; 2, 3, 4 and 6 have DLC 0." The first frame of a series has DLC 8 and a count of 1..36.
unfoldable pub first_fits : ℕ → ℕ → ℕ → Bool
first_fits t n count =
    cond (eqb t 1 || eqb t 5) (leb n data_size)
    (cond (leb first_series t) (eqb n data_size && (leb 1 count && leb count most_later))
    (eqb n 0))

-- "Within it 2, 6, 7, 10", of a frame at any place: whether its DLC fits there, and what only a later frame is asked.
abbrev pub frame_checks : List ℕ → Bool → Check → Check
frame_checks f fits matches =
    require (type_legal (type_field f)) 2
    (require fits 6
    (require (zeros (drop (dlc f) (data_field f))) 7
    matches))

-- "The first frame of a series has no count to match."
unfoldable pub first_checks : List ℕ → Check
first_checks f = frame_checks f (first_fits (type_field f) (dlc f) (get_or (data_field f) part_size 0)) passed

-- "Inside a series the DLC is judged by the frame's place in it": 8, or 1..7 in the last, with n frames still to come.
unfoldable pub later_fits : ℕ → ℕ → Bool
later_fits zero d = leb 1 d && leb d part_size
later_fits (suc n) d = eqb d data_size

-- Two identifiers are the same.
unfoldable pub same_bytes : List ℕ → List ℕ → Bool
same_bytes [] [] = true
same_bytes [] (b ∷ s) = false
same_bytes (a ∷ r) [] = false
same_bytes (a ∷ r) (b ∷ s) = eqb a b && same_bytes r s

-- A later frame, with n frames still to come. 10: another identifier or a wrong count.
unfoldable pub later_checks : List ℕ → ℕ → List ℕ → Check
later_checks i n f =
    frame_checks f (later_fits n (dlc f)) (require (same_bytes (take 4 f) i && eqb (get_or (data_field f) (dlc f - 1) 0) n) 10 passed)

-- Payload bytes in front of what the later frames give.
unfoldable pub prepend : List ℕ → Answer (List ℕ) (List ℕ) → Answer (List ℕ) (List ℕ)
prepend d (refused n) = refused n
prepend d (given rest p) = given rest (d ++ p)

-- The later frames of a series, so many: what is left of the input, with their payload. "A missing or partial frame is 1."
unfoldable pub later_frames : List ℕ → ℕ → List ℕ → Answer (List ℕ) (List ℕ)
later_frames i zero b = given b []
later_frames i (suc n) b =
    after (require (leb frame_size (length b)) 1 (later_checks i n (take frame_size b)))
    (prepend (take (dlc b - 1) (data_field b)) (later_frames i n (drop frame_size b)))

-- All frames of a message: what is left of the input, with the payload. "The first faulty frame from the left decides."
unfoldable pub all_frames : List ℕ → Answer (List ℕ) (List ℕ)
all_frames b =
    after (require (leb frame_size (length b)) 1 (first_checks (take frame_size b)))
    (cond (leb first_series (type_field b))
    (prepend (take part_size (data_field b)) (later_frames (take 4 b) (get_or (data_field b) part_size 0) (drop frame_size b)))
    (given (drop frame_size b) (take (dlc b) (data_field b))))

-- "A CAN nack has no error byte: it reads as 'not told' with index 0."
unfoldable pub can_error : Kind → Option ℕ
can_error k = cond (is_nack k) None (Some 0)

-- The message that the first frame's identifier tells; what CAN does not carry reads as 0.
unfoldable pub can_message : List ℕ → Message
can_message b =
    record {
      kind = kind_of_type (type_field b);
      id = get_or b 2 0;
      source = get_or b 1 0;
      destination = get_or b 0 0;
      error = can_error (kind_of_type (type_field b));
      index = 0;
    }

-- 5: the ID is not of the kind's range; an event's is 255.
unfoldable pub can_id_legal : Kind → ℕ → Bool
can_id_legal k id = cond (is_event k) (eqb id 255) (id_legal k id)

-- 6: the kind cannot have so many bytes; and "a series whose payload would be 8 bytes or fewer is refused".
unfoldable pub can_fits : ℕ → Kind → ℕ → Bool
can_fits t k n = payload_legal k n && (ltb t first_series || ltb data_size n)

-- "Then 5, 6", of a message that came with type t and a payload of n bytes.
unfoldable pub message_checks : ℕ → Message → ℕ → Check
message_checks t m n =
    require (can_id_legal m.kind m.id) 5
    (require (can_fits t m.kind n) 6
    passed)

-- "Anything after a complete message 4; then 5, 6."
unfoldable pub complete : List ℕ → Answer (List ℕ) (List ℕ) → Answer Message (List ℕ)
complete b (refused n) = refused n
complete b (given rest p) =
    after (require (eqb (length rest) 0) 4 (message_checks (type_field b) (can_message b) (length p)))
    (given (can_message b) p)

-- "Refusal numbers", reading CAN: the frames in their order, then the message.
unfoldable pub can_read : List ℕ → Answer Message (List ℕ)
can_read b = complete b (all_frames b)
