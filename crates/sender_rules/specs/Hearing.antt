-- What an answer means to the sender, and what a round does to it (document 01, "The sender and its rounds").
use Rattle.std.specs.Prelude.{ℕ, ◌+◌, ◌*◌, ◌/◌, ◌%◌, min, Bool, true, false, cond, not, ◌&&◌, ◌||◌, List, ltb, eqb, length, get_or, take, drop, None, Option, Some}
use Rattle.message_rules.specs.Answer.{Answer, refused, given, after}
use Rattle.message_rules.specs.declared.Kind.{Kind}
use Rattle.message_rules.specs.declared.Kind.TheVariants as KindOf
use Rattle.message_rules.specs.declared.Message.{Message}
use Rattle.little_endian_rules.specs.LittleEndian.{from_bytes}
use Rattle.file_rules.specs.Checksum.{checksum}
use Rattle.file_rules.specs.File.{frame_count, file_frame}
use Rattle.link_rules.specs.Link.{link_read, carries_addresses}
use Rattle.sender_rules.specs.Sender.{request_id, same_file}
use Rattle.round_rules.specs.Requester.{is_running}
use Rattle.sender_rules.specs.declared.Meaning.{Meaning}
use Rattle.sender_rules.specs.declared.Meaning.TheVariants.{Stay, Forward, Differs, Flagged}
use Rattle.sender_rules.specs.declared.Sender.{Sender}
use Rattle.sender_rules.specs.declared.Stage.{Stage}
use Rattle.sender_rules.specs.declared.Stage.TheVariants.{Setup, Frame, Back, Compare, Take, Confirm}
use Rattle.round_rules.specs.declared.State.{State}
use Rattle.round_rules.specs.declared.State.TheVariants.{Running, Finished, GivenUp}

-- "An answer fits only with the request's ID and, where the link carries addresses, the request's source as destination and its destination
-- as source."
unfoldable pub fits : Sender → Message → Bool
fits s m =
    eqb m.id (request_id s.stage)
    && (not (carries_addresses s.link) || (eqb m.destination s.source && eqb m.source s.destination))

-- C: "ack, nack 3, nack 6 or 'not told' nack".
unfoldable pub taken_error : Option ℕ → Bool
taken_error (Some e) = eqb e 3 || eqb e 6
taken_error None = true

-- The parts of a frame info of seven bytes.
abbrev pub info_number : List ℕ → ℕ
info_number p = from_bytes (take 2 p)

abbrev pub info_size : List ℕ → ℕ
info_size p = from_bytes (take 2 (drop 2 p))

abbrev pub info_checksum : List ℕ → ℕ
info_checksum p = from_bytes (take 2 (drop 4 p))

-- "Bit 1 error": the other bits aren't looked at.
abbrev pub info_error : List ℕ → Bool
info_error p = eqb (get_or p 6 0 / 2 % 2) 1

-- B: "Size and checksum equal: C. Differing: back to A." The checksum "replaces the sum [..] at stage B" (document 02, ticket 6).
unfoldable pub compared : List ℕ → List ℕ → Meaning
compared frame p = cond (eqb (info_size p) (length frame) && eqb (info_checksum p) (checksum frame)) Forward Differs

-- D: "Number i: A for the next frame, or finished after the last." Any other: stays.
unfoldable pub confirmed : ℕ → List ℕ → Meaning
confirmed i p = cond (eqb (info_number p) i) Forward Stay

-- "The error flag at B or D: given up at once." A frame info not of seven bytes is any other answer.
unfoldable pub informed : List ℕ → Meaning → Meaning
informed p m = cond (eqb (length p) 7) (cond (info_error p) Flagged m) Stay

-- What a fitting answer of each kind means at a stage. At the first "ack: A" (document 02, ticket 5), and no nack leads on.
unfoldable pub ack_meaning : Stage → Meaning
ack_meaning Setup = Forward
ack_meaning Frame = Forward
ack_meaning Back = Forward
ack_meaning Compare = Stay
ack_meaning Take = Forward
ack_meaning Confirm = Stay

unfoldable pub nack_meaning : Stage → Option ℕ → Meaning
nack_meaning Setup e = Stay
nack_meaning Frame e = Stay
nack_meaning Back e = Stay
nack_meaning Compare e = Stay
nack_meaning Take e = cond (taken_error e) Forward Stay
nack_meaning Confirm e = Stay

unfoldable pub info_meaning : Stage → List ℕ → ℕ → List ℕ → Meaning
info_meaning Setup file i p = Stay
info_meaning Frame file i p = Stay
info_meaning Back file i p = Stay
info_meaning Compare file i p = informed p (compared (file_frame file i) p)
info_meaning Take file i p = Stay
info_meaning Confirm file i p = informed p (confirmed i p)

unfoldable pub kind_meaning : Kind → Sender → List ℕ → Message → List ℕ → Meaning
kind_meaning KindOf.Telecommand s file m p = Stay
kind_meaning KindOf.TelecommandAck s file m p = ack_meaning s.stage
kind_meaning KindOf.TelecommandNack s file m p = nack_meaning s.stage m.error
kind_meaning KindOf.TelemetryRequest s file m p = Stay
kind_meaning KindOf.TelemetryResponse s file m p = info_meaning s.stage file s.frame p
kind_meaning KindOf.TelemetryNack s file m p = Stay
kind_meaning KindOf.Event s file m p = Stay

-- "Any other answer, or none: stays." No bytes are no answer.
unfoldable pub meaning : Sender → List ℕ → Answer Message (List ℕ) → Meaning
meaning s file (refused n) = Stay
meaning s file (given m p) = cond (fits s m) (kind_meaning m.kind s file m p) Stay

-- The stage that `Forward` leads to; after D it is A of the next frame.
abbrev pub next_stage : Stage → Stage
next_stage Setup = Frame
next_stage Frame = Compare
next_stage Back = Compare
next_stage Compare = Take
next_stage Take = Confirm
next_stage Confirm = Frame

-- D is the last stage of a frame.
abbrev pub is_last_stage : Stage → Bool
is_last_stage Setup = false
is_last_stage Frame = false
is_last_stage Back = false
is_last_stage Compare = false
is_last_stage Take = false
is_last_stage Confirm = true

-- "A step forward is the first arrival at a stage of frame i, or the finish": every one but that from A again to B.
abbrev pub is_step : Stage → Bool
is_step Setup = true
is_step Frame = true
is_step Back = false
is_step Compare = true
is_step Take = true
is_step Confirm = true

-- The steps forward in front of frame 0's A: with a job the arrival there is one.
abbrev pub job_steps : Option ℕ → ℕ
job_steps None = 0
job_steps (Some n) = 1

-- Those, and the steps forward in a frame before each stage of it. A again comes after B.
abbrev pub stage_steps : Option ℕ → Stage → ℕ
stage_steps job Setup = 0
stage_steps job Frame = job_steps job
stage_steps job Back = job_steps job + 1
stage_steps job Compare = job_steps job + 1
stage_steps job Take = job_steps job + 2
stage_steps job Confirm = job_steps job + 3

abbrev pub finish_steps : State → ℕ
finish_steps Running = 0
finish_steps Finished = 1
finish_steps GivenUp = 0

-- All steps forward so far: four a frame, with a job one more, and the finish is one.
unfoldable pub steps : Sender → ℕ
steps s = 4 * s.frame + stage_steps s.job s.stage + finish_steps s.state

-- A sender with these in place of its own, and one round more: "rounds used (all it had)". An upload has at most 200 * 65,535 + 50, which 32 bits hold.
abbrev pub changed : Sender → ℕ → Stage → ℕ → State → Sender
changed s frame stage since state =
    record {
      link = s.link;
      source = s.source;
      destination = s.destination;
      size = s.size;
      job = s.job;
      frame = frame;
      stage = stage;
      since = since;
      rounds = (s.rounds + 1) % 4294967296;
      state = state;
    }

-- "The fiftieth round in a row without a step forward: given up."
abbrev pub most_waits : ℕ
most_waits = 50

-- The rounds since the last step forward, with this one: fifty at most. The round in which it gives up counts too.
unfoldable pub one_more : Sender → ℕ
one_more s = min (s.since + 1) most_waits

-- A round without a step forward.
unfoldable pub waited : Sender → Stage → Sender
waited s stage = changed s s.frame stage (one_more s) (cond (ltb (s.since + 1) most_waits) Running GivenUp)

-- The file has a frame after this one.
unfoldable pub has_next : Sender → Bool
has_next s = ltb (s.frame + 1) (frame_count s.size)

-- The first arrival at a stage; past D that is A of the next frame, or the finish after the last.
unfoldable pub advanced : Sender → Sender
advanced s =
    cond (is_last_stage s.stage)
    (cond (has_next s)
    (changed s (s.frame + 1) Frame 0 Running)
    (changed s s.frame Confirm 0 Finished))
    (changed s s.frame (next_stage s.stage) 0 Running)

-- A round with an answer that means this.
unfoldable pub round_over : Sender → Meaning → Sender
round_over s Stay = waited s s.stage
round_over s Forward = cond (is_step s.stage) (advanced s) (waited s (next_stage s.stage))
round_over s Differs = waited s Back
round_over s Flagged = changed s s.frame s.stage (one_more s) GivenUp

-- A sender that has ended stays as it is, whatever it is handed.
unfoldable pub hear : Sender → List ℕ → List ℕ → Answer Sender Unit
hear s file b =
    cond (is_running s.state)
    (after (same_file s file) (given (round_over s (meaning s file (link_read s.link b))) tt))
    (given s tt)
