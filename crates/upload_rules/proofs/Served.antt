-- What an exchange does at each stage, in each situation of the unit: the unit afterwards, and what its answer means to the sender. Carried
-- by the faults of `Faults` and by the exchange over the link.
use Rattle.std.specs.Prelude.{Option, ℕ, None}
use Prim.Native.Nat.{ℕ, ◌+◌, ◌*◌, ◌-◌, ◌/◌, ◌%◌, ◌≤◌, ◌<◌, min}
use mathlib.Core.Bool.{Bool, true, false, cond}
use mathlib.Core.List.{List, [], ◌++◌}
use mathlib.Core.Path.{◌≡◌, refl, ◌∙◌}
use native.Mathlib.Omega.{arith}
use borrow.Author.Tests.{eq-eqb, ne_eqb}
use lib.Dec.{eqb}
use lib.ListN.{length, take, drop}
use Rattle.message_rules.specs.Answer.{given, require, about}
use Rattle.message_rules.specs.Checks.{id_legal, payload_legal, error_legal, field_checks, error_told}
use Rattle.message_rules.specs.Kinds.{inside, is_event, carried_on}
use Rattle.message_rules.specs.declared.Kind.{Kind}
use Rattle.message_rules.specs.declared.Kind.TheVariants.{TelecommandAck, TelecommandNack, TelemetryResponse}
use Rattle.message_rules.specs.declared.Message.{Message}
use Rattle.little_endian_rules.specs.LittleEndian.{to_bytes}
use Rattle.file_rules.specs.File.{frame_count, file_frame}
use Rattle.file_rules.specs.Setup.{setup_read, announced}
use Rattle.link_rules.specs.Link.{link_carried, link_read, link_write}
use Rattle.link_rules.specs.declared.Link.{Link}
use Rattle.link_rules.proofs.RoundTrip.{Underway, id-arrives}
use Rattle.device_rules.specs.Device.{is_finished, buffered_frame, empty_buffer}
use Rattle.device_rules.specs.declared.Device.{Device}
use Rattle.device_rules.specs.declared.Transfer.{Transfer}
use Rattle.device_rules.specs.declared.Phase.TheVariants.{Open, Finished}
use Rattle.device_rules.specs.Commands.{setup_done, take_done, frame_done, transfer_done, command_done, after_command}
use Rattle.device_rules.specs.Faults.{setup_fault, command_fault}
use Rattle.device_rules.specs.Receive.{answers, answer_to, info_bytes, command_answer, command_reply, telemetry_reply, kind_reply, receive}
use Rattle.sender_rules.specs.Hearing.{fits, taken_error, ack_meaning, nack_meaning, info_meaning, kind_meaning, meaning}
use Rattle.sender_rules.specs.Sender.{request_kind, request_id}
use Rattle.sender_rules.specs.declared.Meaning.{Meaning}
use Rattle.sender_rules.specs.declared.Meaning.TheVariants.{Stay, Forward}
use Rattle.sender_rules.specs.declared.Sender.{Sender}
use Rattle.sender_rules.specs.declared.Stage.{Stage}
use Rattle.sender_rules.specs.declared.Stage.TheVariants.{Setup, Frame, Back, Compare, Take, Confirm}
use Rattle.round_rules.specs.declared.State.TheVariants.{Running}
use Rattle.upload_rules.proofs.Exchange.{Addressed, request_of, request_read, Plain, answer-arrives, request-own, answer-fits}
use Rattle.sender_rules.proofs.Infos.{info_length, info_compared, info_confirmed}
use Rattle.sender_rules.proofs.Stages.{taken_on}
use Rattle.device_rules.proofs.Receive.{own-replied}
use Rattle.device_rules.proofs.Replies.{answer_of}
use Rattle.device_rules.proofs.Faults.{transfer_at, unit_at, setup-unit, setup-again, frame-taken, take-taken, take-pending, take-stored}
use Rattle.sender_rules.proofs.Situations.{sender_at}

-- Bytes arrive at a unit: it becomes another, and its answer means something to the sender.
pub record Served (file : List ℕ) (s : Sender) (d : Device) (store : ℕ) (b : List ℕ) (d' : Device) (x : Meaning) : Type 0 where
  pub answer : Message
  pub payload : List ℕ
  pub bytes : List ℕ
  pub underway : Underway s.link answer payload bytes
  pub gives : receive d store b ≡ given (answers d') bytes
  pub means : meaning s file (link_read s.link bytes) ≡ x

-- The error bit of a unit's flags is never set.
abbrev flags : Bool → ℕ
flags b = cond (is_finished (cond b Finished Open)) 1 0

flags-clear : (b : Bool) → eqb (flags b / 2 % 2) 1 ≡ false
flags-clear true = refl
flags-clear false = refl

no_event : (stage : Stage) → is_event (request_kind stage) ≡ false
no_event Setup = refl
no_event Frame = refl
no_event Back = refl
no_event Compare = refl
no_event Take = refl
no_event Confirm = refl

-- A unit with a transfer of a file of n bytes for a job, and a sender at frame i of it.
module _ (d : Device) (s t : ℕ) (a : Addressed d.link s t d.own) (file : List ℕ) (n number : ℕ) (job : Option ℕ) (i store : ℕ) where
  abbrev l : Link
  l = d.link

  abbrev own : ℕ
  own = d.own

  -- Of the unit only its transfer and its last finished job change.
  abbrev with : Transfer → Option ℕ → Device
  with transfer finished = record { link = d.link; own = d.own; transfer = transfer; finished = finished }

  abbrev unit : ℕ → List ℕ → ℕ → Bool → Device
  unit j buffer buffered pending = unit_at d n number j buffer buffered pending

  abbrev asked : Stage → Message
  asked stage = request_read l s t stage

  -- An answer to it.
  abbrev answer_to_lem : Stage → Kind → ℕ → ℕ → Message
  answer_to_lem stage k e index = answer_of l own (asked stage) k e index

  module _ (stage : Stage) (since rounds : ℕ) (b p : List ℕ) (reads : link_read l b ≡ given (asked stage) p) where
    served : (transfer : Transfer) (finished : Option ℕ) (d' : Device) (k : Kind) (e index : ℕ) (q : List ℕ) (x : Meaning)
        → kind_reply (request_kind stage) (with transfer finished) store (asked stage) p ≡ about (answers d') (link_write l (answer_to_lem stage k e index) q)
        → Plain (answer_to_lem stage k e index) q
        → kind_meaning k (sender_at l s t n job i stage since rounds Running) file (link_carried l (answer_to_lem stage k e index)) q ≡ x
        → Served file (sender_at l s t n job i stage since rounds Running) (with transfer finished) store b d' x
    unfolding about meaning fits link_carried carried_on
    served transfer finished d' k e index q x reply plain means =
        let back = answer-arrives l s t own (asked stage) k e index q a plain in
        let id : (link_carried l (answer_to_lem stage k e index)).id ≡ request_id stage =
        id-arrives l (answer_to_lem stage k e index) plain.plain ∙ id-arrives l (request_of (request_kind stage) (request_id stage) s t) (no_event stage) in
        record {
          answer = answer_to_lem stage k e index;
          payload = q;
          bytes = back.0;
          underway = back.1;
          gives = own-replied (with transfer finished) store b (asked stage) p reads (request-own l s t own (request_id stage) (request_kind stage) a) ∙ rw (reply, back.1.wrote);
          means = rw (back.1.reads, eq-eqb (link_carried l (answer_to_lem stage k e index)).id (request_id stage) id, answer-fits l s t own (request_id stage) (request_kind stage) k e index a) means;
        }

  module _ (since rounds : ℕ) (b buffer : List ℕ) (buffered : ℕ) where
    abbrev sender : Stage → Sender
    sender stage = sender_at l s t n job i stage since rounds Running

    -- Before A: the setup opens a transfer, and is acked;
    pub served_setup : (p : List ℕ) → link_read l b ≡ given (asked Setup) p → setup_read p ≡ announced n number → setup_fault d store (announced n number) ≡ None
        → 1 ≤ frame_count n → Served file (sender Setup) d store b (unit 0 empty_buffer 0 false) Forward
    unfolding link_carried carried_on kind_reply command_reply command_answer after_command command_fault command_done transfer_done setup_done answer_to error_told field_checks id_legal payload_legal error_legal inside require kind_meaning ack_meaning
    served_setup p reads says taken some =
        served Setup since rounds b p reads d.transfer d.finished _ TelecommandAck 0 0 [] Forward (rw (says, taken, says, ← setup-unit d n number some)) (record { plain = refl; tells = refl; fields = refl }) refl

    -- as its repeat is, which changes nothing.
    pub served_repeat : (p : List ℕ) → link_read l b ≡ given (asked Setup) p → setup_read p ≡ announced n number → i < frame_count n
        → Served file (sender Setup) (unit i buffer buffered false) store b (unit i buffer buffered false) Forward
    unfolding link_carried carried_on kind_reply command_reply command_answer after_command command_fault answer_to error_told field_checks id_legal payload_legal error_legal inside require kind_meaning ack_meaning
    served_repeat p reads says h =
        served Setup since rounds b p reads _ _ _ TelecommandAck 0 0 [] Forward (rw (says, setup-again d n number i store buffer buffered false h)) (record { plain = refl; tells = refl; fields = refl }) refl

    -- A: the frame replaces what is in the buffer, and is acked.
    pub served_frame : (p : List ℕ) → link_read l b ≡ given (asked Frame) p → i < frame_count n → 1 ≤ length p → length p ≤ 256
        → Served file (sender Frame) (unit i buffer buffered false) store b (unit i (p ++ drop (length p) empty_buffer) (length p) false) Forward
    unfolding link_carried carried_on kind_reply command_reply command_answer after_command command_done transfer_done frame_done answer_to error_told field_checks id_legal payload_legal error_legal inside require kind_meaning ack_meaning
    served_frame p reads h some most =
        served Frame since rounds b p reads _ _ _ TelecommandAck 0 0 [] Forward (rw (frame-taken d n number i store buffer buffered p h some most)) (record { plain = refl; tells = refl; fields = refl }) refl

    -- B: frame info tells the size and the checksum of the frame in the buffer.
    pub served_compare : (p : List ℕ) → link_read l b ≡ given (asked Compare) p → take buffered buffer ≡ file_frame file i → length (file_frame file i) ≤ 256
        → Served file (sender Compare) (unit i buffer buffered false) store b (unit i buffer buffered false) Forward
    unfolding link_carried carried_on kind_reply telemetry_reply answer_to error_told field_checks id_legal payload_legal error_legal inside require info_bytes buffered_frame kind_meaning info_meaning
    served_compare p reads loaded most =
        served Compare since rounds b p reads _ _ _ TelemetryResponse 0 0 (info_bytes (transfer_at n number i buffer buffered false)) Forward refl
        (record { plain = refl; tells = refl; fields = rw (info_length _ _ _ _) })
        (rw loaded (info_compared ((i + 65535) % 65536) (file_frame file i) (flags (eqb i (frame_count n))) most (flags-clear (eqb i (frame_count n)))))

    -- C: take frame i makes it pending, and is acked;
    pub served_take : link_read l b ≡ given (asked Take) (to_bytes 2 i) → i < frame_count n → i < 65535 → 1 ≤ length (take buffered buffer) → length (take buffered buffer) ≤ n - min (256 * i) n
        → Served file (sender Take) (unit i buffer buffered false) store b (unit i buffer buffered true) Forward
    unfolding link_carried carried_on kind_reply command_reply command_answer after_command command_done transfer_done take_done answer_to error_told field_checks id_legal payload_legal error_legal inside require kind_meaning ack_meaning
    served_take reads h small some fits =
        served Take since rounds b (to_bytes 2 i) reads _ _ _ TelecommandAck 0 0 [] Forward (rw (take-taken d n number i store buffer buffered h small some fits)) (record { plain = refl; tells = refl; fields = refl }) refl

    -- while it is pending the repeat gets nack 6,
    pub served_pending : link_read l b ≡ given (asked Take) (to_bytes 2 i) → Served file (sender Take) (unit i buffer buffered true) store b (unit i buffer buffered true) Forward
    unfolding link_carried carried_on kind_reply command_reply command_answer after_command answer_to error_told field_checks id_legal payload_legal error_legal inside require kind_meaning nack_meaning taken_error
    served_pending reads =
        served Take since rounds b (to_bytes 2 i) reads _ _ _ TelecommandNack 6 0 [] Forward (rw (take-pending d n number i store buffer buffered)) (record { plain = refl; tells = refl; fields = refl }) (rw (taken_on l 6 refl))

    -- and once it is stored nack 3, whose index the sender does not look at.
    pub served_stored : link_read l b ≡ given (asked Take) (to_bytes 2 i) → i < 65535 → Served file (sender Take) (unit (i + 1) buffer buffered false) store b (unit (i + 1) buffer buffered false) Forward
    unfolding link_carried carried_on kind_reply command_reply command_answer after_command answer_to error_told field_checks id_legal payload_legal error_legal inside require kind_meaning nack_meaning taken_error
    served_stored reads small =
        served Take since rounds b (to_bytes 2 i) reads _ _ _ TelecommandNack 3 (cond (eqb (i + 1) (frame_count n)) 2 1) [] Forward (rw (take-stored d n number i store buffer buffered small)) (record { plain = refl; tells = refl; fields = refl }) (rw (taken_on l 3 refl))

    -- D: while it is pending frame info tells the number before it,
    pub served_waiting : (p : List ℕ) → link_read l b ≡ given (asked Confirm) p → i < 65535 → Served file (sender Confirm) (unit i buffer buffered true) store b (unit i buffer buffered true) Stay
    unfolding link_carried carried_on kind_reply telemetry_reply answer_to error_told field_checks id_legal payload_legal error_legal inside require info_bytes buffered_frame kind_meaning info_meaning
    served_waiting p reads small =
        served Confirm since rounds b p reads _ _ _ TelemetryResponse 0 0 (info_bytes (transfer_at n number i buffer buffered true)) Stay refl
        (record { plain = refl; tells = refl; fields = rw (info_length _ _ _ _) })
        (info_confirmed ((i + 65535) % 65536) _ _ i (flags (eqb i (frame_count n))) (omega arith) (flags-clear (eqb i (frame_count n))) ∙ rw (ne_eqb ((i + 65535) % 65536) i (omega arith)))

    -- and once it is stored its own.
    pub served_confirmed : (p : List ℕ) → link_read l b ≡ given (asked Confirm) p → i < 65535 → Served file (sender Confirm) (unit (i + 1) buffer buffered false) store b (unit (i + 1) buffer buffered false) Forward
    unfolding link_carried carried_on kind_reply telemetry_reply answer_to error_told field_checks id_legal payload_legal error_legal inside require info_bytes buffered_frame kind_meaning info_meaning
    served_confirmed p reads small =
        served Confirm since rounds b p reads _ _ _ TelemetryResponse 0 0 (info_bytes (transfer_at n number (i + 1) buffer buffered false)) Forward refl
        (record { plain = refl; tells = refl; fields = rw (info_length _ _ _ _) })
        (info_confirmed ((i + 1 + 65535) % 65536) _ _ i (flags (eqb (i + 1) (frame_count n))) (omega arith) (flags-clear (eqb (i + 1) (frame_count n))) ∙ rw (eq-eqb ((i + 1 + 65535) % 65536) i (omega arith)))
