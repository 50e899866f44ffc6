-- What a work step does to the table: a pending frame is stored, anything else stays.
use Prim.Native.Nat.{ℕ, ◌+◌, ◌*◌, ◌%◌, ◌≤◌, ◌<◌, min}
use mathlib.Core.Bool.{Bool, true, false}
use mathlib.Core.List.{List}
use mathlib.Core.Path.{◌≡◌, refl, ◌∙◌, ap}
use native.Mathlib.Nat.{add-zero}
use native.Mathlib.Omega.{arith}
use borrow.Author.Tests.{ne_eqb, le-leb, lt-ltb, le-ltb, ltb-true, ltb-false, eqb-true, eqb-false}
use lib.Dec.{ltb, eqb}
use lib.ListN.{length, take, take-append-drop}
use Rattle.message_rules.specs.Answer.{given, require, after}
use Rattle.file_rules.specs.File.{file_frame}
use Rattle.device_rules.specs.Device.{buffered_frame, empty_buffer}
use Rattle.device_rules.specs.declared.Device.{Device}
use Rattle.device_rules.specs.Work.{is_last_frame, frame_stored, finished_job, unit_stored, has_room, work, store_after, after_work}
use Rattle.device_rules.proofs.Faults.{setup-passed}
use Rattle.device_rules.proofs.Works.{rests as work-rests}
use Rattle.sender_rules.specs.declared.Stage.{Stage}
use Rattle.sender_rules.specs.declared.Stage.TheVariants.{Setup, Frame, Back, Compare, Take, Confirm}
use Rattle.upload_rules.specs.Stored.{mark_worked}
use Rattle.round_rules.specs.World.{answer_check, is_failed}
use Rattle.upload_rules.proofs.Files.{stored_next, size_reached, beginning-length, store-next}
use Rattle.upload_rules.proofs.Table.{Upload, Situation, closed, free, loaded, pending, is_pending, Stands, Quiet, Told, mark_of, frames, stored_unit, unit_in, UnitAt}

-- How many frames are stored after a work step, and the situation then.
abbrev pub worked_count : Situation → ℕ → ℕ
worked_count closed i = i
worked_count free i = i
worked_count loaded i = i
worked_count pending i = i + 1

abbrev pub worked_situation : Situation → Situation
worked_situation closed = closed
worked_situation free = free
worked_situation loaded = loaded
worked_situation pending = free

-- The sender stands in the table as before,
pub worked_stands : (stage : Stage) (b : Situation) (f i : ℕ) → Stands stage b f i → Stands stage (worked_situation b) f (worked_count b i)
worked_stands Setup closed f i h = h
worked_stands Setup free f i h = h
worked_stands Frame free f i h = h
worked_stands Frame loaded f i h = h
worked_stands Compare loaded f i h = h
worked_stands Take free f i h = h
worked_stands Take loaded f i h = h
worked_stands Take pending f i h = rw h
worked_stands Confirm free f i h = h
worked_stands Confirm pending f i h = rw h
worked_stands Setup loaded f i h = elim h [ ]
worked_stands Setup pending f i h = elim h [ ]
worked_stands Frame closed f i h = elim h [ ]
worked_stands Frame pending f i h = elim h [ ]
worked_stands Back b f i h = elim h [ ]
worked_stands Compare closed f i h = elim h [ ]
worked_stands Compare free f i h = elim h [ ]
worked_stands Compare pending f i h = elim h [ ]
worked_stands Take closed f i h = elim h [ ]
worked_stands Confirm closed f i h = elim h [ ]
worked_stands Confirm loaded f i h = elim h [ ]

-- and nothing is pending then.
pub worked_quiet : (stage : Stage) (b : Situation) → Quiet true stage (worked_situation b)
worked_quiet Setup b = tt
worked_quiet Frame b = tt
worked_quiet Back b = tt
worked_quiet Compare b = tt
worked_quiet Take b = tt
worked_quiet Confirm closed = tt
worked_quiet Confirm free = tt
worked_quiet Confirm loaded = tt
worked_quiet Confirm pending = tt

-- The pending frame's mark becomes stored.
worked_mark : (i : ℕ) (b : Situation) (j : ℕ) → mark_worked (mark_of i b j) ≡ mark_of (worked_count b i) (worked_situation b) j
unfolding mark_of mark_worked
worked_mark i closed j = by (ltb j i) refl
  where
    by : (t : Bool) → ltb j i ≡ t → mark_worked (mark_of i closed j) ≡ mark_of i closed j
    by true e = rw e
    by false e = rw e
worked_mark i free j = by (ltb j i) refl
  where
    by : (t : Bool) → ltb j i ≡ t → mark_worked (mark_of i free j) ≡ mark_of i free j
    by true e = rw e
    by false e = rw e
worked_mark i loaded j = by (ltb j i) refl
  where
    by : (t : Bool) → ltb j i ≡ t → mark_worked (mark_of i loaded j) ≡ mark_of i loaded j
    by true e = rw e
    by false e = rw e
worked_mark i pending j = by (ltb j i) refl (eqb j i) refl
  where
    by : (t : Bool) → ltb j i ≡ t → (v : Bool) → eqb j i ≡ v → mark_worked (mark_of i pending j) ≡ mark_of (i + 1) free j
    by true e v f = rw (e, lt-ltb j (i + 1) (omega (arith, ltb-true j i e)))
    by false e true f = rw (e, f, lt-ltb j (i + 1) (omega (arith, eqb-true j i f)))
    by false e false f = rw (e, f, le-ltb j (i + 1) (omega (arith, ltb-false j i e, eqb-false j i f)))

-- What the calls tell then.
abbrev pub told_worked : Told → Told
told_worked told = record { set_up = told.set_up; marks = λ j. mark_worked (told.marks j) }

module _ (u : Upload) where
  -- The work step of a unit with frame i pending.
  work_stores : (i : ℕ) (buffer : List ℕ) (buffered store : ℕ) → i < frames u → take buffered buffer ≡ file_frame u.file i → length u.file ≤ store
      → work (stored_unit u i buffer buffered true) store ≡ given (stored_unit u (i + 1) empty_buffer 0 false) (file_frame u.file i)
  unfolding work has_room unit_stored frame_stored is_last_frame finished_job buffered_frame require after
  work_stores i buffer buffered store h content room =
      let next : ((i + 65535) % 65536 + 1) % 65536 ≡ (i + 1 + 65535) % 65536 = omega arith in
      let n = length u.file in
      rw (content, le-leb n store room, stored_next u.file i, le-leb (min (256 * (i + 1)) n) n (omega arith), size_reached u.file i h, ne_eqb i (frames u) (omega arith), next)

  -- Nothing is pending before the setup: a unit with a frame pending would not take it.
  none-pending : u.unit.transfer.pending ≡ false
  none-pending = (setup-passed u.unit (length u.start) (length u.file) u.number u.taken).0

  still : (b : Situation) (i : ℕ) (buffer : List ℕ) (buffered : ℕ) → is_pending b ≡ false → (unit_in u b i buffer buffered).transfer.pending ≡ false
  still closed i buffer buffered e = none-pending
  still free i buffer buffered e = refl
  still loaded i buffer buffered e = refl
  still pending i buffer buffered e = absurd (let z : ◌≡◌ {A = ℕ} 0 1 = cc in omega arith)

  waits : (i : ℕ) (b : Situation) (d : Device) (store : List ℕ) (told : Told) → is_pending b ≡ false → UnitAt u i b d store told → d.transfer.pending ≡ false
  waits i b d store told none h = rw h.device (still b i h.buffer h.buffered none)

  -- The unit and its store after a work step with nothing pending,
  rests : (i : ℕ) (b : Situation) (d : Device) (store : List ℕ) (told : Told) → is_pending b ≡ false → worked_count b i ≡ i → worked_situation b ≡ b → UnitAt u i b d store told
      → UnitAt u i b (after_work d (work d (length store))) (store_after d (work d (length store)) store) (told_worked told)
  unfolding after_work store_after
  rests i b d store told none count situation h =
      rw (work-rests d (length store) (waits i b d store told none h))
      (record {
        buffer = h.buffer;
        buffered = h.buffered;
        device = h.device;
        holding = h.holding;
        stores = rw (add-zero, take-append-drop) h.stores;
        set_up = h.set_up;
        marked = λ j. ap mark_worked (h.marked j) ∙ (rw (count, situation) at (worked_mark i b j));
      })

  -- and with frame i pending.
  stores_frame : (i : ℕ) (d : Device) (store : List ℕ) (told : Told) → UnitAt u i pending d store told
      → UnitAt u (i + 1) free (after_work d (work d (length store))) (store_after d (work d (length store)) store) (told_worked told)
  unfolding after_work store_after
  stores_frame i d store told h =
      let n = length u.file in
      let long : length u.file ≤ length store = rw (h.stores, beginning-length u.file u.start i u.room) u.room in
      let does = work_stores i h.buffer h.buffered (length store) h.holding.0 h.holding.1 long in
      rw (h.device, does)
      (record {
        buffer = empty_buffer;
        buffered = 0;
        device = refl;
        holding = omega (arith, h.holding.0);
        stores = rw h.stores (store-next u.file u.start i);
        set_up = h.set_up;
        marked = λ j. ap mark_worked (h.marked j) ∙ worked_mark i pending j;
      })

  pub work-unit : (i : ℕ) (b : Situation) (d : Device) (store : List ℕ) (told : Told) → UnitAt u i b d store told
      → UnitAt u (worked_count b i) (worked_situation b) (after_work d (work d (length store))) (store_after d (work d (length store)) store) (told_worked told)
  work-unit i closed d store told h = rests i closed d store told refl refl refl h
  work-unit i free d store told h = rests i free d store told refl refl refl h
  work-unit i loaded d store told h = rests i loaded d store told refl refl refl h
  work-unit i pending d store told h = stores_frame i d store told h

  -- It is never refused: the store has room for the file.
  pub work_free : (i : ℕ) (b : Situation) (d : Device) (store : List ℕ) (told : Told) → UnitAt u i b d store told → is_failed (answer_check (work d (length store))) ≡ false
  unfolding is_failed answer_check
  work_free i closed d store told h = rw (work-rests d (length store) (waits i closed d store told refl h))
  work_free i free d store told h = rw (work-rests d (length store) (waits i free d store told refl h))
  work_free i loaded d store told h = rw (work-rests d (length store) (waits i loaded d store told refl h))
  work_free i pending d store told h =
      let long : length u.file ≤ length store = rw (h.stores, beginning-length u.file u.start i u.room) u.room in
      rw (h.device, work_stores i h.buffer h.buffered (length store) h.holding.0 h.holding.1 long)
