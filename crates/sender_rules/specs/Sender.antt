-- The sender's state, how it starts and what it asks (document 01, "The sender and its rounds").
use Rattle.message_rules.specs.declared.Refusal.{Refusal}
use Rattle.std.specs.Prelude.{ℕ, ◌+◌, Bool, true, cond, ◌&&◌, List, [], ltb, eqb, length, None, Option, Some, Err, Ok, Result}
use Rattle.message_rules.specs.Answer.{Answer, Check, refused, given, refusal_number, passed, require, after, about}
use Rattle.message_rules.specs.declared.Kind.{Kind}
use Rattle.message_rules.specs.declared.Kind.TheVariants as KindOf
use Rattle.message_rules.specs.declared.Message.{Message}
use Rattle.little_endian_rules.specs.LittleEndian.{to_bytes}
use Rattle.file_rules.specs.File.{size_legal, file_frame}
use Rattle.file_rules.specs.Setup.{setup_payload}
use Rattle.link_rules.specs.Link.{link_write}
use Rattle.link_rules.specs.declared.Link.{Link}
use Rattle.link_rules.specs.declared.Link.TheVariants.{Uart, Rs485, Can, Csp}
use Rattle.sender_rules.specs.declared.Sender.{Sender}
use Rattle.sender_rules.specs.declared.Stage.{Stage}
use Rattle.sender_rules.specs.declared.Stage.TheVariants.{Setup, Frame, Back, Compare, Take, Confirm}
use Rattle.round_rules.specs.Requester.{is_running, Sent, sent, nothing}
use Rattle.round_rules.specs.declared.State.{State}
use Rattle.round_rules.specs.declared.State.TheVariants.{Running, Finished, GivenUp}

-- "A sender started with a job number has one stage before frame 0's A" (document 02, ticket 5). One without begins there.
abbrev pub first_stage : Option ℕ → Stage
first_stage None = Frame
first_stage (Some n) = Setup

-- A sender at first: no rounds.
unfoldable pub new_sender : Link → ℕ → ℕ → ℕ → Option ℕ → Sender
new_sender l source destination n job =
    record {
      link = l;
      source = source;
      destination = destination;
      size = n;
      job = job;
      frame = 0;
      stage = first_stage job;
      since = 0;
      rounds = 0;
      state = Running;
    }

-- 7: "on RS485 [..] a source or destination of 0".
unfoldable pub addresses_legal : Link → ℕ → ℕ → Bool
addresses_legal Uart s t = true
addresses_legal Rs485 s t = ltb 0 s && ltb 0 t
addresses_legal Can s t = true
addresses_legal Csp s t = true

-- "Starting a sender is refused with 11, then on RS485 with 7 for a source or destination of 0."
unfoldable pub start : Link → ℕ → ℕ → ℕ → Option ℕ → Answer Sender Unit
start l source destination n job =
    after (require (size_legal n) 11 (require (addresses_legal l source destination) 7 passed)) (given (new_sender l source destination n job) tt)

-- What it sends at each stage: "sends setup" (document 02, ticket 5); "A: sends frame. B: asks frame info. C: sends take frame i. D: asks frame info."
abbrev pub request_kind : Stage → Kind
request_kind Setup = KindOf.Telecommand
request_kind Frame = KindOf.Telecommand
request_kind Back = KindOf.Telecommand
request_kind Compare = KindOf.TelemetryRequest
request_kind Take = KindOf.Telecommand
request_kind Confirm = KindOf.TelemetryRequest

abbrev pub request_id : Stage → ℕ
request_id Setup = 20
request_id Frame = 22
request_id Back = 22
request_id Compare = 150
request_id Take = 21
request_id Confirm = 150

unfoldable pub request_payload : Stage → Option ℕ → List ℕ → ℕ → List ℕ
request_payload Setup job file i = setup_payload (length file) job
request_payload Frame job file i = file_frame file i
request_payload Back job file i = file_frame file i
request_payload Compare job file i = []
request_payload Take job file i = to_bytes 2 i
request_payload Confirm job file i = []

unfoldable pub request_message : Sender → Message
request_message s =
    record {
      kind = request_kind s.stage;
      id = request_id s.stage;
      source = s.source;
      destination = s.destination;
      error = Some 0;
      index = 0;
    }

-- 11: "a sender that hasn't ended [..] if the file's length has changed". The 8 comes with the lent output, "11 (before 8)".
unfoldable pub same_file : Sender → List ℕ → Check
same_file s file = require (eqb (length file) s.size) 11 passed

-- The request of its stage, or nothing: "finished or given up, it sends nothing more".
unfoldable pub request : Sender → List ℕ → Answer Sent (List ℕ)
request s file =
    cond (is_running s.state)
    (after (same_file s file) (about sent (link_write s.link (request_message s) (request_payload s.stage s.job file s.frame))))
    (given nothing [])

-- What the code's answer to asking for a request says (document 01, "Forms we want to see": "this paper's number and values for each case").
unfoldable pub request_result : Result (Option ℕ) Refusal → Answer Sent ℕ
request_result (Err r) = refused (refusal_number r)
request_result (Ok (Some n)) = given sent n
request_result (Ok None) = given nothing 0

-- "It reports frames known stored (those past D)": all before the one that it is at, and that one too once it has finished.
unfoldable pub frames_known : Sender → ℕ
frames_known s = known s.state
  where
    known : State → ℕ
    known Running = s.frame
    known Finished = s.frame + 1
    known GivenUp = s.frame
