-- The table of situations: where unit and sender stand while the setup or frame f is under way, at every place of a round.
use Rattle.file_rules.specs.Setup.{announced}
use Rattle.std.specs.Prelude.{None, Option, Some, ℕ}
use Prim.Native.Nat.{ℕ, ◌+◌, ◌*◌, ◌≤◌, ◌<◌, min}
use mathlib.Core.Bool.{Bool, true, false, cond, ◌&&◌}
use mathlib.Core.List.{List, ◌++◌}
use mathlib.Core.Path.{◌≡◌}
use lib.Dec.{ltb, eqb}
use native.Mathlib.Omega.{arith}
use lib.ListN.{length, take, drop}
use Rattle.message_rules.specs.declared.Message.{Message}
use Rattle.file_rules.specs.File.{size_legal, frame_count, file_frame}
use Rattle.link_rules.specs.Link.{link_read}
use Rattle.device_rules.specs.Faults.{setup_fault}
use Rattle.device_rules.specs.declared.Device.{Device}
use Rattle.sender_rules.specs.Hearing.{meaning, job_steps, stage_steps}
use Rattle.sender_rules.specs.Sender.{request_payload}
use Rattle.sender_rules.specs.declared.Meaning.{Meaning}
use Rattle.sender_rules.specs.declared.Meaning.TheVariants.{Stay, Forward, Differs, Flagged}
use Rattle.sender_rules.specs.declared.Sender.{Sender}
use Rattle.sender_rules.specs.declared.Stage.{Stage}
use Rattle.sender_rules.specs.declared.Stage.TheVariants.{Setup, Frame, Back, Compare, Take, Confirm}
use Rattle.round_rules.specs.declared.State.{State}
use Rattle.round_rules.specs.declared.State.TheVariants.{Running, Finished, GivenUp}
use Rattle.round_rules.specs.Legal.{Place, begun, asked, arrived, repeated, between}
use Rattle.upload_rules.specs.Stored.{Mark, waiting, taken, stored}
use Rattle.round_rules.specs.World.{World}
use Rattle.round_rules.proofs.Counting.{NoneGood, Tally}
use Rattle.link_rules.proofs.RoundTrip.{Underway}
use Rattle.upload_rules.proofs.Exchange.{Addressed, request_at}
use Rattle.device_rules.proofs.Faults.{unit_at}
use Rattle.sender_rules.proofs.Situations.{sender_at}
use Rattle.sender_rules.proofs.Steps.{JobAt}
use Rattle.round_rules.proofs.Steady.{Either}

-- A sender with a job announces this number.
abbrev pub Announces : Option ℕ → ℕ → Type 0
Announces None number = Unit
Announces (Some n) number = (n ≡ number) × (number < 4294967296)

-- What stays the same all along: the file, the store as the setup found it, the unit before it, which takes it, the number of the transfer's job, and
-- the sender's job and addresses.
pub record Upload : Type 0 where
  pub file : List ℕ
  pub start : List ℕ
  pub unit : Device
  pub number : ℕ
  pub taken : setup_fault unit (length start) (announced (length file) number) ≡ None
  pub job : Option ℕ
  pub announces : Announces job number
  pub source : ℕ
  pub destination : ℕ
  pub addressed : Addressed unit.link source destination unit.own
  pub legal : size_legal (length file) ≡ true
  pub room : length file ≤ length start

-- The unit's situation: as it was before the setup; or set up, and its buffer has nothing that is asked about, the next frame, or the next frame and
-- pending.
pub data Situation : Type 0 where
  closed : Situation
  free : Situation
  loaded : Situation
  pending : Situation

abbrev pub is_set_up : Situation → Bool
is_set_up closed = false
is_set_up free = true
is_set_up loaded = true
is_set_up pending = true

abbrev pub is_pending : Situation → Bool
is_pending closed = false
is_pending free = false
is_pending loaded = false
is_pending pending = true

-- The table: at each stage of frame f, how many frames the unit has stored in each situation.
abbrev pub Stands : Stage → Situation → ℕ → ℕ → Type 0
Stands Setup closed f i = (f ≡ 0) × (i ≡ 0)
Stands Setup free f i = (f ≡ 0) × (i ≡ 0)
Stands Setup loaded f i = ⊥
Stands Setup pending f i = ⊥
Stands Frame closed f i = ⊥
Stands Frame free f i = i ≡ f
Stands Frame loaded f i = i ≡ f
Stands Frame pending f i = ⊥
Stands Back b f i = ⊥
Stands Compare closed f i = ⊥
Stands Compare free f i = ⊥
Stands Compare loaded f i = i ≡ f
Stands Compare pending f i = ⊥
Stands Take closed f i = ⊥
Stands Take free f i = i ≡ f + 1
Stands Take loaded f i = i ≡ f
Stands Take pending f i = i ≡ f
Stands Confirm closed f i = ⊥
Stands Confirm free f i = i ≡ f + 1
Stands Confirm loaded f i = ⊥
Stands Confirm pending f i = i ≡ f

pub few_steps : (job : Option ℕ) (stage : Stage) → stage_steps job stage ≤ job_steps job + 3
few_steps job Setup = omega arith
few_steps job Frame = omega arith
few_steps job Back = omega arith
few_steps job Compare = omega arith
few_steps job Take = omega arith
few_steps job Confirm = omega arith

pub job-most : (job : Option ℕ) → job_steps job ≤ 1
job-most None = omega arith
job-most (Some n) = omega arith

-- A round whose work step was done does not find the unit still pending at D.
abbrev pub Quiet : Bool → Stage → Situation → Type 0
Quiet false stage b = Unit
Quiet true Setup b = Unit
Quiet true Frame b = Unit
Quiet true Back b = Unit
Quiet true Compare b = Unit
Quiet true Take b = Unit
Quiet true Confirm closed = Unit
Quiet true Confirm free = Unit
Quiet true Confirm loaded = Unit
Quiet true Confirm pending = ⊥

-- The situations from which the sender goes forward.
abbrev pub Goes : Stage → Situation → Type 0
Goes Setup closed = ⊥
Goes Setup free = Unit
Goes Setup loaded = ⊥
Goes Setup pending = ⊥
Goes Frame closed = ⊥
Goes Frame free = ⊥
Goes Frame loaded = Unit
Goes Frame pending = ⊥
Goes Back b = ⊥
Goes Compare b = Unit
Goes Take closed = ⊥
Goes Take free = Unit
Goes Take loaded = ⊥
Goes Take pending = Unit
Goes Confirm closed = ⊥
Goes Confirm free = Unit
Goes Confirm loaded = ⊥
Goes Confirm pending = ⊥

-- What an answer under way means: forward, from such a situation, or stay, in a round that is not good.
abbrev pub Leads : Meaning → Bool → Stage → Situation → Type 0
Leads Stay d stage b = d ≡ false
Leads Forward d stage b = Goes stage b
Leads Differs d stage b = ⊥
Leads Flagged d stage b = ⊥

-- What the calls so far tell: whether the setup has arrived, and each frame's mark.
pub record Told : Type 0 where
  pub set_up : Bool
  pub marks : ℕ → Mark

-- Each frame's mark: those stored, the one pending, the others.
unfoldable pub mark_of : ℕ → Situation → ℕ → Mark
mark_of i b j = cond (ltb j i) stored (cond (is_pending b && eqb j i) taken waiting)

module _ (u : Upload) where
  abbrev pub frames : ℕ
  frames = frame_count (length u.file)

  -- What is in the buffer, where something is asked about it.
  abbrev pub Holding : Situation → ℕ → List ℕ → Type 0
  Holding closed i content = i ≡ 0
  Holding free i content = i ≤ frames
  Holding loaded i content = (i < frames) × (content ≡ file_frame u.file i)
  Holding pending i content = (i < frames) × (content ≡ file_frame u.file i)

  -- The unit that has stored i frames, and in each situation.
  abbrev pub stored_unit : ℕ → List ℕ → ℕ → Bool → Device
  stored_unit i buffer buffered p = unit_at u.unit (length u.file) u.number i buffer buffered p

  abbrev pub unit_in : Situation → ℕ → List ℕ → ℕ → Device
  unit_in closed i buffer buffered = u.unit
  unit_in free i buffer buffered = stored_unit i buffer buffered false
  unit_in loaded i buffer buffered = stored_unit i buffer buffered false
  unit_in pending i buffer buffered = stored_unit i buffer buffered true

  -- The unit is in a situation with i frames stored, and the calls so far tell so.
  pub record UnitAt (i : ℕ) (b : Situation) (d : Device) (store : List ℕ) (told : Told) : Type 0 where
    pub buffer : List ℕ
    pub buffered : ℕ
    pub device : d ≡ unit_in b i buffer buffered
    pub holding : Holding b i (take buffered buffer)
    pub stores : store ≡ take (256 * i) u.file ++ drop (min (256 * i) (length u.file)) u.start
    pub set_up : told.set_up ≡ is_set_up b
    pub marked : (j : ℕ) → told.marks j ≡ mark_of i b j

  abbrev pub sender : ℕ → Stage → ℕ → ℕ → State → Sender
  sender f stage since rounds state = sender_at u.unit.link u.source u.destination (length u.file) u.job f stage since rounds state

  -- The request that is under way.
  abbrev pub Asked : World Sender → Stage → ℕ → Type 0
  Asked w stage f = Underway u.unit.link (request_at u.source u.destination stage) (request_payload stage u.job u.file f) w.request

  -- The answer that is under way, and what it means to the sender.
  pub record Answered (w : World Sender) (d : Bool) (stage : Stage) (b : Situation) : Type 0 where
    pub answer : Message
    pub payload : List ℕ
    pub underway : Underway u.unit.link answer payload w.answer
    pub meant : Meaning
    pub means : meaning w.requester u.file (link_read u.unit.link w.answer) ≡ meant
    pub leads : Leads meant d stage b

  abbrev pub AtPlace : Place → World Sender → Stage → Situation → ℕ → Type 0
  AtPlace (begun d) w stage b f = Quiet d stage b
  AtPlace (asked d) w stage b f = Quiet d stage b × Asked w stage f
  AtPlace (arrived d) w stage b f = Quiet d stage b × Asked w stage f × Answered w d stage b
  AtPlace (repeated d) w stage b f = Quiet d stage b × Asked w stage f × Answered w d stage b

  -- A row of the table: the frame and the stage that the sender is at, and the unit.
  pub record Row (d : Device) (store : List ℕ) (told : Told) : Type 0 where
    pub stage : Stage
    pub frame : ℕ
    pub stored : ℕ
    pub situation : Situation
    pub unit : UnitAt stored situation d store told
    pub stands : Stands stage situation frame stored
    pub job : JobAt stage u.job

  -- The whole invariant of a list so far, with its rounds and marks: the sender runs,
  pub record RunningState (w : World Sender) (past : List Bool) (told : Told) (p : Place) : Type 0 where
    pub row : Row w.device w.store told
    pub since : ℕ
    pub sends : w.requester ≡ sender row.frame row.stage since (length past) Running
    pub place : AtPlace p w row.stage row.situation row.frame
    pub below : row.frame < frames
    pub tally : Tally (4 * row.frame + stage_steps u.job row.stage) since past

  -- has given up,
  pub record GivenUpState (d : Device) (store : List ℕ) (s : Sender) (past : List Bool) (told : Told) : Type 0 where
    pub row : Row d store told
    pub since : ℕ
    pub sends : s ≡ sender row.frame row.stage since (length past) GivenUp
    pub none_good : NoneGood past 50

  -- or has finished.
  pub record FinishedState (d : Device) (store : List ℕ) (s : Sender) (past : List Bool) (told : Told) : Type 0 where
    pub frame : ℕ
    pub since : ℕ
    pub unit : UnitAt frames free d store told
    pub sends : s ≡ sender frame Confirm since (length past) Finished
    pub last : frame + 1 ≡ frames

  pub data Ended (d : Device) (store : List ℕ) (s : Sender) (past : List Bool) (told : Told) : Type 0 where
    gave_up : GivenUpState d store s past told → Ended d store s past told
    done : FinishedState d store s past told → Ended d store s past told

  abbrev pub RunsOrEnded : World Sender → List Bool → Told → Type 0
  RunsOrEnded w past told = Either (RunningState w past told) (Ended w.device w.store w.requester past told) between
