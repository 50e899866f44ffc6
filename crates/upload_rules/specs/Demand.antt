-- Demand 3 (document 01, "The sender and its rounds"): the owner's sentence of rounds that are run, and the same claim of every list of calls.
-- Quotations that document 01 does not have are the demand's own words, or document 02's where that is said.
use Rattle.std.specs.Prelude.{ℕ, ◌+◌, ◌*◌, ◌≤◌, ◌<◌, min, Bool, true, false, List, ◌++◌, ◌≡◌, length, take, drop, None, Some}
use Rattle.message_rules.specs.Answer.{given, passed, within}
use Rattle.message_rules.specs.declared.Kind.TheVariants.{Telecommand}
use Rattle.message_rules.specs.declared.Message.{Message}
use Rattle.link_rules.specs.Link.{link_read}
use Rattle.link_rules.specs.declared.Link.TheVariants.{Rs485}
use Rattle.file_rules.specs.File.{frame_count}
use Rattle.file_rules.specs.Setup.{setup_read, announced}
use Rattle.device_rules.specs.Device.{is_open}
use Rattle.device_rules.specs.declared.Device.{Device}
use Rattle.device_rules.specs.declared.Phase.TheVariants as PhaseOf
use Rattle.device_rules.specs.Faults.{command_fault}
use Rattle.device_rules.specs.Answers.{after_receive}
use Rattle.device_rules.specs.Receive.{Reply, addressing, receive}
use Rattle.device_rules.specs.declared.Addressing.TheVariants.{Other}
use Rattle.round_rules.specs.Good.{good_rounds, NoFiftyWithout}
use Rattle.round_rules.specs.Legal.{Legal, between, Beginning}
use Rattle.round_rules.specs.Requester.{is_running}
use Rattle.round_rules.specs.Rounds.{rounds_made, rounds_refusal}
use Rattle.round_rules.specs.Schedule.{goods, scheduled, Realised}
use Rattle.round_rules.specs.World.{World, Call, run}
use Rattle.round_rules.specs.declared.Round.{Round}
use Rattle.round_rules.specs.declared.State.TheVariants.{Finished, GivenUp}
use Rattle.sender_rules.specs.Hearing.{job_steps}
use Rattle.sender_rules.specs.Sender.{start, frames_known}
use Rattle.sender_rules.specs.Sending.{sending}
use Rattle.upload_rules.specs.SetUp.{setup_arrived}
use Rattle.upload_rules.specs.Stored.{frames_stored}
use Rattle.sender_rules.specs.declared.Sender.{Sender}

-- "It starts as the accepted setup (a telecommand 20, carried out) left unit and store, with the sender new", "with a sender started without a job
-- number" (document 02, ticket 5).
pub record AcceptedSetup (file : List ℕ) (w : World Sender) : Type 0 where
  -- Some unit, in any state, and bytes that arrive at it while the store is lent, with some output:
  pub unit : Device
  pub bytes : List ℕ
  pub output : List ℕ
  -- they read on its link as telecommand 20 with the file's length and some job's number, for the unit or a broadcast (document 02, ticket 2);
  pub message : Message
  pub payload : List ℕ
  pub reads : link_read unit.link bytes ≡ given message payload
  pub command : message.kind ≡ Telecommand
  pub setup : message.id ≡ 20
  pub number : ℕ
  pub announces : setup_read payload ≡ announced (length file) number
  pub for_unit : addressing unit.link unit.own message ≡ Other → ⊥
  -- no fault kept the unit from carrying it out, and it was no repeat: "an acked repeat doesn't count as its accepted setup" (document 02,
  -- ticket 5); the call was not refused (the reply says whether it was answered, and the answer has the bytes, none in silence), and w has the unit
  -- that it left;
  pub no_fault : command_fault unit (length w.store) message.id payload ≡ None
  pub reply : Reply
  pub answer : List ℕ
  pub unrefused : within output (receive unit (length w.store) bytes) ≡ given reply answer
  pub leaves : after_receive unit (given reply answer) ≡ w.device
  -- and a sender was started on the same link for a file of this length, on RS485 to the unit's own address.
  pub source : ℕ
  pub destination : ℕ
  pub started : start unit.link source destination (length file) None ≡ given w.requester tt
  pub addressed : unit.link ≡ Rs485 → destination ≡ unit.own

-- Document 02, ticket 5: "Demand 3 may then begin there, its premises running from that sender's start,
pub record StartedJob (file : List ℕ) (w : World Sender) : Type 0 where
  -- for a unit that is idle or finished with nothing pending and no job open", everything else of it free,
  pub not_open : is_open w.device.transfer.phase ≡ false
  pub still : w.device.transfer.pending ≡ false
  pub none_open : w.device.transfer.job ≡ None
  -- "a size that fits its store,
  pub fits : length file ≤ length w.store
  -- and a job number", of four bytes, "that isn't the last finished one";
  pub number : ℕ
  pub small : number < 4294967296
  pub unfinished : w.device.finished ≡ Some number → ⊥
  -- a sender was started with it on the unit's link for a file of this length, on RS485 to the unit's own address.
  pub source : ℕ
  pub destination : ℕ
  pub started : start w.device.link source destination (length file) (Some number) ≡ given w.requester tt
  pub addressed : w.device.link ≡ Rs485 → destination ≡ w.device.own

-- The two beginnings of demand 3: it "begins as before", or it "may then begin there" (document 02, ticket 5).
pub data Start (file : List ℕ) (w : World Sender) : Type 0 where
  after_setup : AcceptedSetup file w → Start file w
  with_job : StartedJob file w → Start file w

-- What unit, store and sender of a moment have, where k frames are stored and the setup has arrived or not; the beginning had this store.
pub record Holds (file firstStore : List ℕ) (set_up : Bool) (k : ℕ) (v : World Sender) : Type 0 where
  -- "The store holds a beginning of the file in whole frames, each stored once": "the file's first 256 times k bytes, or all if it has fewer, and
  -- its other bytes stay";
  pub beginning : v.store ≡ take (256 * k) file ++ drop (min (256 * k) (length file)) firstStore
  -- "the store as it was, at a giving up too, until the setup first arrives unrefused" (document 02, ticket 5);
  pub untouched : set_up ≡ false → v.store ≡ firstStore
  -- from then on so many bytes count as stored;
  pub counts : set_up ≡ true → v.device.transfer.stored ≡ min (256 * k) (length file)
  -- "when it has finished, the store holds the file": at its start, the unit is finished and all frames are known;
  pub whole : v.requester.state ≡ Finished
      → (take (length file) v.store ≡ file) × (v.device.transfer.phase ≡ PhaseOf.Finished) × (frames_known v.requester ≡ frame_count (length file))
  -- "it reports frames known stored": they are k or one fewer, so that "on giving up [..] the store holds the frames known, or one more".
  pub known : (frames_known v.requester ≤ k) × (k ≤ frames_known v.requester + 1)

-- What is claimed of it, after these rounds, from the world w on. A sender with a job has a step in front of frame 0:
pub record Claim (file : List ℕ) (w : World Sender) (set_up : Bool) (k : ℕ) (v : World Sender) (rounds : List Bool) : Type 0 where
  pub holds : Holds file w.store set_up k v
  -- "after 200 rounds a frame the sender has ended", "50 more rounds in its bound" (document 02, ticket 5);
  pub ended : 200 * frame_count (length file) + 50 * job_steps w.requester.job ≤ length rounds → is_running v.requester.state ≡ false
  -- "where no fifty rounds in a row lack a good one it doesn't give up,
  pub persists : NoFiftyWithout rounds → v.requester.state ≡ GivenUp → ⊥
  -- and has finished after four good rounds a frame", "one more good round" (document 02, ticket 5).
  pub finishes : NoFiftyWithout rounds → 4 * frame_count (length file) + job_steps w.requester.job ≤ good_rounds rounds → v.requester.state ≡ Finished
  -- When it has finished, its job is the unit's "last finished one" (document 02, ticket 5).
  pub remembered : v.requester.state ≡ Finished → (n : ℕ) → w.requester.job ≡ Some n → v.device.finished ≡ Some n

-- The claim of a moment that calls h lead to: whether the setup has arrived, and k, are told from them.
abbrev pub ClaimAfter : List ℕ → World Sender → List Call → World Sender → List Bool → Type 0
ClaimAfter file w h v rounds =
    let a = sending file in
    Claim file w (setup_arrived a w h w.requester.job) (frames_stored a w h (frame_count (length file))) v rounds

-- The rounds that a sender had of these: "its rounds are over" with its end.
abbrev pub own_rounds : Sender → List Round → List Bool
own_rounds s rs = take s.rounds (goods rs)

-- The claim of rounds that are run one after the other, and of the sender's own among them.
pub record Uploaded (file : List ℕ) (w : World Sender) (rs : List Round) : Type 0 where
  pub claim : let v = rounds_made (sending file) w rs in ClaimAfter file w (scheduled (sending file) w rs) v (own_rounds v.requester rs)
  -- "And rounds used (all it had)": while it runs they are all of these.
  pub used : let s = (rounds_made (sending file) w rs).requester in (s.rounds ≤ length rs) × (is_running s.state ≡ true → s.rounds ≡ length rs)
  -- No call of theirs is refused.
  pub unrefused : rounds_refusal (sending file) w rs ≡ passed

-- The owner's sentence: after an accepted setup, or from the start of a job, whatever rounds follow. Every beginning of a sequence is one, so it holds after every round.
abbrev pub EveryUpload : Type 0
EveryUpload = (file : List ℕ) (w : World Sender) → Start file w → (rs : List Round) → Uploaded file w rs

-- The claim of a list of calls h with its rounds: "rounds used (all it had)" are those.
pub record Upheld (file : List ℕ) (w : World Sender) (h : List Call) (rounds : List Bool) : Type 0 where
  pub claim : ClaimAfter file w h (run (sending file) w h) rounds
  pub used : (run (sending file) w h).requester.rounds ≡ length rounds

-- "One claim about the whole list": it holds at its end, and "after every call".
pub record Throughout (file : List ℕ) (w : World Sender) (h : List Call) (rounds : List Bool) : Type 0 where
  pub end : Upheld file w h rounds
  pub every : (past rest : List Call) → h ≡ past ++ rest → (b : Beginning (sending file) w between rounds past) × Upheld file w past b.first

abbrev pub Demand : Type 0
Demand = (file : List ℕ) (w : World Sender) → Start file w → (h : List Call) (rounds : List Bool) → Legal (sending file) w between h rounds → Throughout file w h rounds

-- Every sequence of rounds gives such a list.
abbrev pub EverySchedule : Type 0
EverySchedule = (file : List ℕ) (w : World Sender) → Start file w → (rs : List Round) → Realised (sending file) w rs
