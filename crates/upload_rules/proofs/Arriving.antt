-- What an arrival of the sender's request does to the table, and what the unit's answer to it means. One line for each situation.
use Rattle.std.specs.Prelude.{None, Option, Some, ℕ}
use Prim.Native.Nat.{ℕ, ◌+◌, ◌<◌}
use mathlib.Core.Bool.{Bool, true, false, ◌||◌}
use mathlib.Core.List.{List, ◌++◌}
use mathlib.Core.Path.{◌≡◌, refl, sym}
use native.Mathlib.Omega.{arith}
use borrow.Author.Tests.{eq-eqb, ne_eqb, lt-ltb, le-ltb, eqb-true, eqb-false}
use lib.Dec.{eqb}
use lib.ListN.{length, take, drop}
use lib.Seq.{take_at}
use Rattle.message_rules.specs.Answer.{given}
use Rattle.message_rules.specs.Kinds.{carried_on}
use Rattle.little_endian_rules.proofs.Laws.{to-length, from_to_lem}
use Rattle.file_rules.specs.File.{file_frame}
use Rattle.file_rules.specs.Setup.{setup_read, setup_payload, announced}
use Rattle.file_rules.proofs.Frames.{frame-most}
use Rattle.file_rules.proofs.Setup.{written_read}
use Rattle.link_rules.specs.Link.{link_carried, link_read}
use Rattle.device_rules.specs.Device.{empty_buffer}
use Rattle.device_rules.specs.declared.Device.{Device}
use Rattle.sender_rules.specs.Sender.{request_payload}
use Rattle.sender_rules.specs.declared.Meaning.{Meaning}
use Rattle.sender_rules.specs.declared.Meaning.TheVariants.{Stay, Forward}
use Rattle.sender_rules.specs.declared.Stage.{Stage}
use Rattle.sender_rules.specs.declared.Stage.TheVariants.{Setup, Frame, Back, Compare, Take, Confirm}
use Rattle.round_rules.specs.declared.State.TheVariants.{Running}
use Rattle.upload_rules.specs.SetUp.{is_setup}
use Rattle.upload_rules.specs.Stored.{is_take, mark_taken}
use Rattle.upload_rules.proofs.Exchange.{request_read}
use Rattle.sender_rules.proofs.Sizes.{count-legal}
use Rattle.sender_rules.proofs.Steps.{JobAt}
use Rattle.upload_rules.proofs.Files.{frame-some, remains}
use Rattle.upload_rules.proofs.Served.{Served, served_setup, served_repeat, served_frame, served_compare, served_take, served_pending, served_stored, served_waiting, served_confirmed}
use Rattle.upload_rules.proofs.Table.{Announces, Upload, Situation, closed, free, loaded, pending, is_set_up, Stands, Quiet, Leads, mark_of, frames, Holding, stored_unit, unit_in, sender}

-- The situation after the arrival of a stage's request.
abbrev pub arrived_situation : Stage → Situation → Situation
arrived_situation Setup b = free
arrived_situation Frame b = loaded
arrived_situation Back b = b
arrived_situation Compare b = b
arrived_situation Take closed = closed
arrived_situation Take free = free
arrived_situation Take loaded = pending
arrived_situation Take pending = pending
arrived_situation Confirm b = b

-- The sender stands in the table as before,
pub arrived_stands : (stage : Stage) (b : Situation) (f i : ℕ) → Stands stage b f i → Stands stage (arrived_situation stage b) f i
arrived_stands Setup closed f i h = h
arrived_stands Setup free f i h = h
arrived_stands Frame free f i h = h
arrived_stands Frame loaded f i h = h
arrived_stands Compare loaded f i h = h
arrived_stands Take free f i h = h
arrived_stands Take loaded f i h = h
arrived_stands Take pending f i h = h
arrived_stands Confirm free f i h = h
arrived_stands Confirm pending f i h = h
arrived_stands Setup loaded f i h = elim h [ ]
arrived_stands Setup pending f i h = elim h [ ]
arrived_stands Frame closed f i h = elim h [ ]
arrived_stands Frame pending f i h = elim h [ ]
arrived_stands Back b f i h = elim h [ ]
arrived_stands Compare closed f i h = elim h [ ]
arrived_stands Compare free f i h = elim h [ ]
arrived_stands Compare pending f i h = elim h [ ]
arrived_stands Take closed f i h = elim h [ ]
arrived_stands Confirm closed f i h = elim h [ ]
arrived_stands Confirm loaded f i h = elim h [ ]

pub arrived_quiet : (d : Bool) (stage : Stage) (b : Situation) → Quiet d stage b → Quiet d stage (arrived_situation stage b)
arrived_quiet false stage b h = tt
arrived_quiet true Setup b h = tt
arrived_quiet true Frame b h = tt
arrived_quiet true Back b h = tt
arrived_quiet true Compare b h = tt
arrived_quiet true Take b h = tt
arrived_quiet true Confirm closed h = tt
arrived_quiet true Confirm free h = tt
arrived_quiet true Confirm loaded h = tt
arrived_quiet true Confirm pending h = elim h [ ]

-- At D a pending frame makes the sender stay, which is no good round.
waits : (d : Bool) → Quiet d Confirm pending → d ≡ false
waits false h = refl
waits true h = elim h [ ]

module _ (u : Upload) (b : List ℕ) (f since rounds : ℕ) (h : f < frames u) where
  -- The store is as long as at the start.
  abbrev store : ℕ
  store = length u.start

  small : f < 65535
  small = omega (arith, h, (count-legal (length u.file) u.legal).1)

  -- The unit and its answer after the arrival.
  pub record Arrival (d : Bool) (stage : Stage) (before : Device) (i : ℕ) (after : Situation) : Type 0 where
    pub buffer : List ℕ
    pub buffered : ℕ
    pub meant : Meaning
    pub serves : Served u.file (sender u f stage since rounds Running) before store b (unit_in u after i buffer buffered) meant
    pub holding : Holding u after i (take buffered buffer)
    pub leads : Leads meant d stage after

  abbrev Reads : Stage → Type 0
  Reads stage = link_read u.unit.link b ≡ given (request_read u.unit.link u.source u.destination stage) (request_payload stage u.job u.file f)

  loads : (d : Bool) (buffer : List ℕ) (buffered : ℕ) → Reads Frame → Arrival d Frame (stored_unit u f buffer buffered false) f loaded
  unfolding request_payload
  loads d buffer buffered r =
      let p = file_frame u.file f in
      record {
        buffer = p ++ drop (length p) empty_buffer;
        buffered = length p;
        meant = Forward;
        serves = served_frame u.unit u.source u.destination u.addressed u.file (length u.file) u.number u.job f store since rounds b buffer buffered p r h (frame-some u.file f h) (frame-most u.file f);
        holding = (h, take_at p (drop (length p) empty_buffer) (length p) refl);
        leads = tt;
      }

  -- What the setup says, where the sender has a job.
  says : (job : Option ℕ) → Announces job u.number → JobAt Setup job → setup_read (setup_payload (length u.file) job) ≡ announced (length u.file) u.number
  unfolding setup_payload
  says (Some n) a j = rw a.0 (written_read (length u.file) u.number (omega (arith, (count-legal (length u.file) u.legal).2)) a.1)
  says None a j = elim j [ ]

  pub arrival : (d : Bool) (stage : Stage) (c : Situation) (i : ℕ) (buffer : List ℕ) (buffered : ℕ) → Reads stage → JobAt stage u.job → Stands stage c f i → Quiet d stage c
      → Holding u c i (take buffered buffer) → Arrival d stage (unit_in u c i buffer buffered) i (arrived_situation stage c)
  unfolding request_payload
  arrival d Setup closed i buffer buffered r j e q c =
      rw e.1 (record {
        buffer = empty_buffer;
        buffered = 0;
        meant = Forward;
        serves = served_setup u.unit u.source u.destination u.addressed u.file (length u.file) u.number u.job f store since rounds b buffer buffered _ r (says u.job u.announces j) u.taken (count-legal (length u.file) u.legal).0;
        holding = omega arith;
        leads = tt;
      })
  arrival d Setup free i buffer buffered r j e q c =
      let same : i ≡ f = omega (arith, e.0, e.1) in
      rw same (record {
        buffer = buffer;
        buffered = buffered;
        meant = Forward;
        serves = served_repeat u.unit u.source u.destination u.addressed u.file (length u.file) u.number u.job f store since rounds b buffer buffered _ r (says u.job u.announces j) h;
        holding = rw (← same) c;
        leads = tt;
      })
  arrival d Frame free i buffer buffered r j e q c = rw e (loads d buffer buffered r)
  arrival d Frame loaded i buffer buffered r j e q c = rw e (loads d buffer buffered r)
  arrival d Compare loaded i buffer buffered r j e q c =
      rw e (record {
        buffer = buffer;
        buffered = buffered;
        meant = Forward;
        serves = served_compare u.unit u.source u.destination u.addressed u.file (length u.file) u.number u.job f store since rounds b buffer buffered _ r (rw (← e) c.1) (frame-most u.file f);
        holding = rw (← e) c;
        leads = tt;
      })
  arrival d Take free i buffer buffered r j e q c =
      rw e (record {
        buffer = buffer;
        buffered = buffered;
        meant = Forward;
        serves = served_stored u.unit u.source u.destination u.addressed u.file (length u.file) u.number u.job f store since rounds b buffer buffered r small;
        holding = rw (← e) c;
        leads = tt;
      })
  arrival d Take loaded i buffer buffered r j e q c =
      let content : take buffered buffer ≡ file_frame u.file f = rw (← e) c.1 in
      rw e (record {
        buffer = buffer;
        buffered = buffered;
        meant = Forward;
        serves = served_take u.unit u.source u.destination u.addressed u.file (length u.file) u.number u.job f store since rounds b buffer buffered r h small (rw content (frame-some u.file f h)) (rw content (remains u.file f));
        holding = rw (← e) c;
        leads = tt;
      })
  arrival d Take pending i buffer buffered r j e q c =
      rw e (record {
        buffer = buffer;
        buffered = buffered;
        meant = Forward;
        serves = served_pending u.unit u.source u.destination u.addressed u.file (length u.file) u.number u.job f store since rounds b buffer buffered r;
        holding = rw (← e) c;
        leads = tt;
      })
  arrival d Confirm free i buffer buffered r j e q c =
      rw e (record {
        buffer = buffer;
        buffered = buffered;
        meant = Forward;
        serves = served_confirmed u.unit u.source u.destination u.addressed u.file (length u.file) u.number u.job f store since rounds b buffer buffered _ r small;
        holding = rw (← e) c;
        leads = tt;
      })
  arrival d Confirm pending i buffer buffered r j e q c =
      rw e (record {
        buffer = buffer;
        buffered = buffered;
        meant = Stay;
        serves = served_waiting u.unit u.source u.destination u.addressed u.file (length u.file) u.number u.job f store since rounds b buffer buffered _ r small;
        holding = rw (← e) c;
        leads = waits d q;
      })
  arrival d Setup loaded i buffer buffered r j e q c = elim e [ ]
  arrival d Setup pending i buffer buffered r j e q c = elim e [ ]
  arrival d Frame closed i buffer buffered r j e q c = elim e [ ]
  arrival d Frame pending i buffer buffered r j e q c = elim e [ ]
  arrival d Back _ i buffer buffered r j e q c = elim e [ ]
  arrival d Compare closed i buffer buffered r j e q c = elim e [ ]
  arrival d Compare free i buffer buffered r j e q c = elim e [ ]
  arrival d Compare pending i buffer buffered r j e q c = elim e [ ]
  arrival d Take closed i buffer buffered r j e q c = elim e [ ]
  arrival d Confirm closed i buffer buffered r j e q c = elim e [ ]
  arrival d Confirm loaded i buffer buffered r j e q c = elim e [ ]

-- What arrives is take frame f at stage C alone.
abbrev pub takes : Stage → ℕ → ℕ → Bool
takes Setup f j = false
takes Frame f j = false
takes Back f j = false
takes Compare f j = false
takes Take f j = eqb f j
takes Confirm f j = false

pub read-takes : (u : Upload) (stage : Stage) (f j : ℕ) → f < 65536
    → is_take j (given (request_read u.unit.link u.source u.destination stage) (request_payload stage u.job u.file f)) ≡ takes stage f j
unfolding is_take link_carried carried_on request_payload
read-takes u Setup f j h = refl
read-takes u Frame f j h = refl
read-takes u Back f j h = refl
read-takes u Compare f j h = refl
read-takes u Take f j h = rw (to-length 2 f, from_to_lem 2 f h)
read-takes u Confirm f j h = refl

-- So the marks are those of the table.
pub arrived_mark : (stage : Stage) (b : Situation) (f i j : ℕ) → Stands stage b f i → mark_taken (takes stage f j) (mark_of i b j) ≡ mark_of i (arrived_situation stage b) j
unfolding mark_taken mark_of
arrived_mark Setup closed f i j h = refl
arrived_mark Setup free f i j h = refl
arrived_mark Frame free f i j h = refl
arrived_mark Frame loaded f i j h = refl
arrived_mark Compare loaded f i j h = refl
arrived_mark Take free f i j h = rw h (by (eqb f j) refl)
  where
    by : (t : Bool) → eqb f j ≡ t → mark_taken t (mark_of (f + 1) free j) ≡ mark_of (f + 1) free j
    by true e = rw (lt-ltb j (f + 1) (omega (arith, eqb-true f j e)))
    by false e = refl
arrived_mark Take loaded f i j h = rw h (by (eqb f j) refl)
  where
    by : (t : Bool) → eqb f j ≡ t → mark_taken t (mark_of f loaded j) ≡ mark_of f pending j
    by true e = rw (le-ltb j f (omega (arith, eqb-true f j e)), eq-eqb j f (sym (eqb-true f j e)))
    by false e = rw (ne_eqb j f (λ q. eqb-false f j e (sym q)))
arrived_mark Take pending f i j h = rw h (by (eqb f j) refl)
  where
    by : (t : Bool) → eqb f j ≡ t → mark_taken t (mark_of f pending j) ≡ mark_of f pending j
    by true e = rw (le-ltb j f (omega (arith, eqb-true f j e)), eq-eqb j f (sym (eqb-true f j e)))
    by false e = refl
arrived_mark Confirm free f i j h = refl
arrived_mark Confirm pending f i j h = refl
arrived_mark Setup loaded f i j h = elim h [ ]
arrived_mark Setup pending f i j h = elim h [ ]
arrived_mark Frame closed f i j h = elim h [ ]
arrived_mark Frame pending f i j h = elim h [ ]
arrived_mark Back b f i j h = elim h [ ]
arrived_mark Compare closed f i j h = elim h [ ]
arrived_mark Compare free f i j h = elim h [ ]
arrived_mark Compare pending f i j h = elim h [ ]
arrived_mark Take closed f i j h = elim h [ ]
arrived_mark Confirm closed f i j h = elim h [ ]
arrived_mark Confirm loaded f i j h = elim h [ ]

-- And a setup is what arrives at the first stage alone.
abbrev pub sets : Stage → Bool
sets Setup = true
sets Frame = false
sets Back = false
sets Compare = false
sets Take = false
sets Confirm = false

pub read-sets : (u : Upload) (stage : Stage) (f : ℕ) → is_setup (given (request_read u.unit.link u.source u.destination stage) (request_payload stage u.job u.file f)) ≡ sets stage
unfolding is_setup link_carried carried_on
read-sets u Setup f = refl
read-sets u Frame f = refl
read-sets u Back f = refl
read-sets u Compare f = refl
read-sets u Take f = refl
read-sets u Confirm f = refl

pub arrived-sets : (stage : Stage) (b : Situation) (f i : ℕ) → Stands stage b f i → (is_set_up b || sets stage) ≡ is_set_up (arrived_situation stage b)
arrived-sets Setup closed f i h = refl
arrived-sets Setup free f i h = refl
arrived-sets Frame free f i h = refl
arrived-sets Frame loaded f i h = refl
arrived-sets Compare loaded f i h = refl
arrived-sets Take free f i h = refl
arrived-sets Take loaded f i h = refl
arrived-sets Take pending f i h = refl
arrived-sets Confirm free f i h = refl
arrived-sets Confirm pending f i h = refl
arrived-sets Setup loaded f i h = elim h [ ]
arrived-sets Setup pending f i h = elim h [ ]
arrived-sets Frame closed f i h = elim h [ ]
arrived-sets Frame pending f i h = elim h [ ]
arrived-sets Back b f i h = elim h [ ]
arrived-sets Compare closed f i h = elim h [ ]
arrived-sets Compare free f i h = elim h [ ]
arrived-sets Compare pending f i h = elim h [ ]
arrived-sets Take closed f i h = elim h [ ]
arrived-sets Confirm closed f i h = elim h [ ]
arrived-sets Confirm loaded f i h = elim h [ ]
