-- Demand 3: the invariant says each clause of the claim, at the end of a legal list and so of every beginning of it. Rounds that are run make
-- what their calls make, and those are a legal list.
use Rattle.std.specs.Prelude.{None, Option, Some, ℕ}
use Prim.Native.Nat.{ℕ, zero, suc, ◌+◌, ◌*◌, ◌≤◌, ◌<◌, min}
use mathlib.Core.Bool.{Bool, true, false, cond, ◌&&◌}
use mathlib.Core.List.{List, []}
use mathlib.Core.Path.{◌≡◌, refl, sym, ap, ◌∙◌}
use native.Mathlib.Omega.{arith}
use borrow.Author.Tests.{eq-eqb, lt-ltb, le-ltb}
use lib.Dec.{eqb}
use lib.ListN.{length, take, length-append}
use lib.Seq.{take_at}
use Rattle.file_rules.specs.File.{frame_count}
use Rattle.device_rules.specs.declared.Device.{Device}
use Rattle.device_rules.specs.declared.Phase.TheVariants as PhaseOf
use Rattle.round_rules.specs.Good.{Bounded}
use Rattle.round_rules.specs.Legal.{Place, between, Legal}
use Rattle.round_rules.specs.Requester.{Requester}
use Rattle.round_rules.specs.Schedule.{scheduled, Realised}
use Rattle.round_rules.specs.World.{World, Call, works, asks, arrives, hears, makes, starts, run, told}
use Rattle.round_rules.specs.declared.Round.{Round}
use Rattle.round_rules.specs.declared.State.TheVariants.{Running, Finished, GivenUp}
use Rattle.round_rules.proofs.Counting.{still_runs, gave_up as gave_up', finished, bounded}
use Rattle.round_rules.proofs.Lists.{every-beginning, told_part}
use Rattle.round_rules.proofs.Runs.{Same, runs as made-runs}
use Rattle.round_rules.proofs.Schedules.{goods-length, schedules}
use Rattle.round_rules.proofs.Steady.{runs, ended, Invariant, note, keeps}
use Rattle.upload_rules.specs.Demand.{Holds, Claim, EveryUpload, Upheld, Demand, EverySchedule}
use Rattle.upload_rules.specs.SetUp.{set_up_call}
use Rattle.sender_rules.specs.Hearing.{job_steps}
use Rattle.sender_rules.specs.Sender.{frames_known}
use Rattle.sender_rules.specs.Sending.{sending}
use Rattle.upload_rules.specs.Stored.{Mark, waiting, taken, is_stored, count_stored, mark_call, frames_stored}
use Rattle.sender_rules.specs.declared.Sender.{Sender}
use Rattle.sender_rules.specs.declared.Stage.{Stage}
use Rattle.sender_rules.specs.declared.Stage.TheVariants.{Setup, Frame, Back, Compare, Take, Confirm}
use Rattle.upload_rules.proofs.Begin.{upload, told_first, Begun, begun}
use Rattle.upload_rules.proofs.Counting.{count_below}
use Rattle.upload_rules.proofs.Files.{store-first, whole-file}
use Rattle.upload_rules.proofs.Keeps.{shape, steady, steady_free}
use Rattle.upload_rules.proofs.Table.{Announces, Upload, Situation, closed, free, loaded, pending, is_set_up, is_pending, Stands, Told, mark_of, frames, Holding, unit_in, UnitAt, Row, gave_up, done, few_steps}

stored_mark : (i : ℕ) (b : Situation) (j : ℕ) → j < i → is_stored (mark_of i b j) ≡ true
unfolding mark_of is_stored
stored_mark i b j h = rw (lt-ltb j i h)

other_mark : (i : ℕ) (b : Situation) (j : ℕ) → i ≤ j → is_stored (mark_of i b j) ≡ false
unfolding mark_of is_stored
other_mark i b j h = rw (le-ltb j i h) (by (is_pending b && eqb j i))
  where
    by : (t : Bool) → is_stored (cond t taken waiting) ≡ false
    by true = refl
    by false = refl

stored-most : (u : Upload) (i : ℕ) (b : Situation) (content : List ℕ) → Holding u b i content → i ≤ frames u
stored-most u i closed content h = omega (arith, h)
stored-most u i free content h = h
stored-most u i loaded content h = omega (arith, h.0)
stored-most u i pending content h = omega (arith, h.0)

-- The frames that are stored are those known, or one more.
known-between : (stage : Stage) (b : Situation) (f i : ℕ) → Stands stage b f i → (f ≤ i) × (i ≤ f + 1)
known-between Setup closed f i e = (omega (arith, e.0, e.1), omega (arith, e.0, e.1))
known-between Setup free f i e = (omega (arith, e.0, e.1), omega (arith, e.0, e.1))
known-between Frame free f i e = (omega arith, omega arith)
known-between Frame loaded f i e = (omega arith, omega arith)
known-between Compare loaded f i e = (omega arith, omega arith)
known-between Take free f i e = (omega arith, omega arith)
known-between Take loaded f i e = (omega arith, omega arith)
known-between Take pending f i e = (omega arith, omega arith)
known-between Confirm free f i e = (omega arith, omega arith)
known-between Confirm pending f i e = (omega arith, omega arith)
known-between Setup loaded f i e = elim e [ ]
known-between Setup pending f i e = elim e [ ]
known-between Frame closed f i e = elim e [ ]
known-between Frame pending f i e = elim e [ ]
known-between Back b f i e = elim e [ ]
known-between Compare closed f i e = elim e [ ]
known-between Compare free f i e = elim e [ ]
known-between Compare pending f i e = elim e [ ]
known-between Take closed f i e = elim e [ ]
known-between Confirm closed f i e = elim e [ ]
known-between Confirm loaded f i e = elim e [ ]

-- The store is as it was before the setup, and counts what is stored from then on.
unopened : (u : Upload) (i : ℕ) (b : Situation) (content : List ℕ) → Holding u b i content → is_set_up b ≡ false → i ≡ 0
unopened u i closed content h e = h
unopened u i free content h e = absurd (let z : ◌≡◌ {A = ℕ} 0 1 = cc in omega arith)
unopened u i loaded content h e = absurd (let z : ◌≡◌ {A = ℕ} 0 1 = cc in omega arith)
unopened u i pending content h e = absurd (let z : ◌≡◌ {A = ℕ} 0 1 = cc in omega arith)

opened : (u : Upload) (i : ℕ) (b : Situation) (buffer : List ℕ) (buffered : ℕ) → is_set_up b ≡ true → (unit_in u b i buffer buffered).transfer.stored ≡ min (256 * i) (length u.file)
opened u i closed buffer buffered e = absurd (let z : ◌≡◌ {A = ℕ} 0 1 = cc in omega arith)
opened u i free buffer buffered e = refl
opened u i loaded buffer buffered e = refl
opened u i pending buffer buffered e = refl

module _ (u : Upload) (w : World Sender) (past : List Bool) (told : Told) where
  -- k, counted from the calls, is the number of frames that the unit has stored.
  counted : (i : ℕ) (b : Situation) → UnitAt u i b w.device w.store told → count_stored told.marks (frames u) ≡ i
  counted i b h = count_below told.marks i (frames u) (stored-most u i b _ h.holding) (λ j k. rw (h.marked j) (stored_mark i b j k)) (λ j k. rw (h.marked j) (other_mark i b j k))

  abbrev Whole : Type 0
  Whole = w.requester.state ≡ Finished
      → (take (length u.file) w.store ≡ u.file) × (w.device.transfer.phase ≡ PhaseOf.Finished) × (frames_known w.requester ≡ frames u)

  abbrev HoldsNow : Type 0
  HoldsNow = Holds u.file u.start told.set_up (count_stored told.marks (frames u)) w

  holds_at : (i : ℕ) (b : Situation) → UnitAt u i b w.device w.store told → (frames_known w.requester ≤ i) × (i ≤ frames_known w.requester + 1) → Whole → HoldsNow
  holds_at i b h known whole =
      rw (counted i b h) (record {
        beginning = h.stores;
        untouched = λ e. h.stores ∙ rw (unopened u i b _ h.holding (sym h.set_up ∙ e)) (store-first u.file u.start);
        counts = λ e. ap (λ (d : Device). d.transfer.stored) h.device ∙ opened u i b h.buffer h.buffered (sym h.set_up ∙ e);
        whole = whole;
        known = known;
      })

  -- A row of the table, where the sender runs or has given up,
  row-holds : (h : Row u w.device w.store told) → frames_known w.requester ≡ h.frame → Whole → HoldsNow
  row-holds h known whole =
      let k = known-between h.stage h.situation h.frame h.stored h.stands in
      holds_at h.stored h.situation h.unit (rw known k) whole

  -- or all of it, where it has finished.
  holds : {p : Place} → Invariant (shape u) w past told p → HoldsNow
  unfolding frames_known
  holds (runs h) = row-holds h.row (rw h.sends) (λ e. absurd (let z : ◌≡◌ {A = ℕ} 0 1 = cc (rw h.sends at e) in omega arith))
  holds (ended (gave_up h)) = row-holds h.row (rw h.sends) (λ e. absurd (let z : ◌≡◌ {A = ℕ} 0 1 = cc (rw h.sends at e) in omega arith))
  holds (ended (done h)) =
      holds_at (frames u) free h.unit (rw h.sends (omega (arith, h.last)), rw h.sends (omega (arith, h.last)))
      (λ e. (rw h.unit.stores (whole-file u.file u.start), rw (h.unit.device, eq-eqb (frames u) (frames u) refl), rw h.sends h.last))

  -- Four steps a frame, and one in front of them with a job.
  abbrev steps : ℕ
  steps = 4 * frames u + job_steps u.job

  bounds : {p : Place} → Invariant (shape u) w past told p → Bounded steps past w.requester.state
  bounds (runs h) = rw h.sends (bounded steps past Running (still_runs _ h.since h.tally (omega (arith, h.below, few_steps u.job h.row.stage))))
  bounds (ended (gave_up h)) = rw h.sends (bounded steps past GivenUp (gave_up' h.none_good))
  bounds (ended (done h)) = rw h.sends (bounded steps past Finished finished)

  used : {p : Place} → Invariant (shape u) w past told p → w.requester.rounds ≡ length past
  used (runs h) = rw h.sends
  used (ended (gave_up h)) = rw h.sends
  used (ended (done h)) = rw h.sends

  -- A sender that has finished has its job remembered.
  remembers : (job : Option ℕ) → Announces job u.number → (n : ℕ) → job ≡ Some n → u.number ≡ n
  remembers None a n e = absurd (let z : ◌≡◌ {A = ℕ} 0 1 = cc in omega arith)
  remembers (Some m) a n e = let same : m ≡ n = cc in sym a.0 ∙ same

  job-kept : {p : Place} → Invariant (shape u) w past told p → w.requester.state ≡ Finished → w.device.finished ≡ Some u.number
  job-kept (runs h) e = absurd (let z : ◌≡◌ {A = ℕ} 0 1 = cc (rw h.sends at e) in omega arith)
  job-kept (ended (gave_up h)) e = absurd (let z : ◌≡◌ {A = ℕ} 0 1 = cc (rw h.sends at e) in omega arith)
  job-kept (ended (done h)) e = rw (h.unit.device, eq-eqb (frames u) (frames u) refl)

  same-job : {p : Place} → Invariant (shape u) w past told p → w.requester.job ≡ u.job
  same-job (runs h) = rw h.sends
  same-job (ended (gave_up h)) = rw h.sends
  same-job (ended (done h)) = rw h.sends

-- What the calls tell of each frame and of the setup are the parts of what they tell together.
module _ (u : Upload) where
  abbrev a : Requester Sender
  a = sending u.file

  notes_marks : (w : World Sender) (h : List Call) (first : Told) (j : ℕ) → (told a (note a (shape u)) w h first).marks j ≡ told a (mark_call j) w h (first.marks j)
  unfolding note mark_call
  notes_marks w h first j = told_part a (note a (shape u)) (mark_call j) (λ (t : Told). t.marks j) one w h first
    where
      one : (v : World Sender) (c : Call) (t : Told) → (note a (shape u) v c t).marks j ≡ mark_call j v c (t.marks j)
      one v (works l) t = refl
      one v (asks l out) t = refl
      one v (arrives b l out) t = refl
      one v (hears l b) t = refl
      one v (makes l own) t = refl
      one v (starts s) t = refl

  notes_set_up : (w : World Sender) (h : List Call) (first : Told) → (told a (note a (shape u)) w h first).set_up ≡ told a set_up_call w h first.set_up
  unfolding note set_up_call
  notes_set_up w h first = told_part a (note a (shape u)) set_up_call (λ (t : Told). t.set_up) one w h first
    where
      one : (v : World Sender) (c : Call) (t : Told) → (note a (shape u) v c t).set_up ≡ set_up_call v c t.set_up
      one v (works l) t = refl
      one v (asks l out) t = refl
      one v (arrives b l out) t = refl
      one v (hears l b) t = refl
      one v (makes l own) t = refl
      one v (starts s) t = refl

same_count : (f g : ℕ → Mark) (n : ℕ) → ((j : ℕ) → f j ≡ g j) → count_stored f n ≡ count_stored g n
unfolding count_stored
same_count f g zero e = refl
same_count f g (suc n) e = rw (e n, same_count f g n e)

module _ (file : List ℕ) (w : World Sender) (b : Begun file w) where
  abbrev this : Upload
  this = upload file w b.grounds

  abbrev first : Told
  first = told_first file w

  reached : {h : List Call} {rounds : List Bool} → Legal (sending file) w between h rounds
      → (p : Place) × Invariant (shape this) (run (sending file) w h) rounds (told (sending file) (note (sending file) (shape this)) w h first) p
  reached legal = keeps (steady this) legal [] first b.first

  -- The claim, of unit, store and sender as some moment has them.
  claims : {set_up : Bool} {k : ℕ} {v : World Sender} {rounds : List Bool} → Holds file w.store set_up k v
      → Bounded (4 * frame_count (length file) + job_steps b.grounds.job) rounds v.requester.state
      → (v.requester.state ≡ Finished → v.device.finished ≡ Some b.grounds.number) → Claim file w set_up k v rounds
  claims {v = v} h bound kept =
      let g = b.grounds in
      let job = same-job this w [] first b.first in
      record {
        holds = h;
        ended = λ most. bound.ended (omega (arith, rw job at most));
        persists = bound.persists;
        finishes = λ none most. bound.finishes none (rw job at most);
        remembered = λ e n is. kept e ∙ ap Some (remembers this w [] first g.job g.announces n (sym job ∙ is));
      }

  bound : {h : List Call} {rounds : List Bool} → Legal (sending file) w between h rounds
      → Bounded (4 * frame_count (length file) + job_steps b.grounds.job) rounds (run (sending file) w h).requester.state
  bound legal = bounds this _ _ _ (reached legal).1

  kept-job : {h : List Call} {rounds : List Bool} → Legal (sending file) w between h rounds
      → let v = run (sending file) w h in v.requester.state ≡ Finished → v.device.finished ≡ Some b.grounds.number
  kept-job legal = job-kept this _ _ _ (reached legal).1

  upheld : (h : List Call) (rounds : List Bool) → Legal (sending file) w between h rounds → Upheld file w h rounds
  unfolding frames_stored
  upheld h rounds legal =
      let i = (reached legal).1 in
      let k = same_count _ _ (frames this) (notes_marks this w h first) in
      record { claim = claims (rw (k, notes_set_up this w h first) at (holds this _ _ _ i)) (bound legal) (kept-job legal); used = used this _ _ _ i }

  schedule : (rs : List Round) → Realised (sending file) w rs
  schedule rs = schedules (steady this) (steady_free this) rs w [] first b.first

pub demand : Demand
demand file w st h rounds legal =
    let b = begun file w st in
    record {
      end = upheld file w b h rounds legal;
      every = λ past rest e. let part = every-beginning Sender (sending file) w between past rest rounds (rw e at legal) in (part, upheld file w b past part.first part.legal);
    }

pub every_schedule : EverySchedule
every_schedule file w st rs = schedule file w (begun file w st) rs

same-holds : (file start : List ℕ) (set_up : Bool) (k : ℕ) (v v' : World Sender) → Same v v' → Holds file start set_up k v' → Holds file start set_up k v
same-holds file start set_up k v v' s h =
    record {
      beginning = rw s.store h.beginning;
      untouched = rw s.store h.untouched;
      counts = rw s.device h.counts;
      whole = rw (s.store, s.device, s.requester) h.whole;
      known = rw s.requester h.known;
    }

pub every-upload : EveryUpload
every-upload file w st rs =
    let b = begun file w st in
    let u = upload file w b.grounds in
    let run-rounds = made-runs (steady u) (steady_free u) rs w w [] (told_first file w) (record { device = refl; store = refl; requester = refl }) b.first in
    let s = run-rounds.1 in
    let r = schedule file w b rs in
    let last = upheld file w b (scheduled (sending file) w rs) r.rounds r.legal in
    let own = take_at r.rounds r.later (length r.rounds) refl in
    let lengths : length rs ≡ length r.rounds + length r.later = sym (goods-length rs) ∙ ap length r.same ∙ length-append r.rounds r.later in
    record {
      claim = claims file w b (same-holds file w.store _ _ _ _ s last.claim.holds) (rw (s.requester, last.used, r.same, own) (bound file w b r.legal)) (λ e. rw s.device (kept-job file w b r.legal (rw s.requester at e)));
      used = (rw (s.requester, last.used) (omega (arith, lengths)), λ e. rw (s.requester, last.used) (omega (arith, lengths, ap length (r.over (rw s.requester at e)))));
      unrefused = run-rounds.0;
    }
