-- The work step: that a pending frame is stored, by the two tests and the seam of the store; then what is told of a step, and what unit
-- and store are then, in each case.
use Rattle.message_rules.specs.declared.Refusal.{Refusal}
use Rattle.std.specs.Prelude.{None, Some, Err, Ok, Result}
use Prim.Native.Nat.{ℕ, ◌+◌, ◌%◌, ◌≤◌}
use mathlib.Core.Bool.{true, false}
use mathlib.Core.List.{List, [], ◌++◌, append_assoc}
use mathlib.Core.Path.{◌≡◌, refl, sym}
use native.Mathlib.Nat.{add-zero}
use native.Mathlib.Omega.{arith}
use borrow.Author.Tests.{leb-true, le-leb}
use lib.Dec.{leb}
use lib.ListN.{length, take, drop, replicate, length-append, take-append-drop}
use lib.Seq.{length-take-le, take-append_seam, drop-append_seam}
use Rattle.message_rules.specs.Answer.{refused, given, require, after, value_result}
use Rattle.message_rules.specs.declared.Refusal.TheVariants.{OutputTooShort}
use Rattle.message_rules.proofs.Checks.{both_true}
use Rattle.device_rules.specs.Device.{buffered_frame}
use Rattle.device_rules.specs.Work.{is_last_frame, frame_stored, finished_job, unit_stored, has_room, work, without_bytes, after_work, store_after}
use Rattle.device_rules.specs.declared.Device.{Device}

-- "The work step stores a pending frame after what is stored": the store then holds one frame more and is else as it was, and the unit waits
-- for the next.
pub record Stored (d d' : Device) (s s' : List ℕ) : Type 0 where
  pub count : d'.transfer.stored ≡ d.transfer.stored + length (buffered_frame d.transfer)
  pub holds : take d'.transfer.stored s' ≡ take d.transfer.stored s ++ buffered_frame d.transfer
  pub rest : drop d'.transfer.stored s' ≡ drop d'.transfer.stored s
  pub number : d'.transfer.number ≡ (d.transfer.number + 1) % 65536
  pub emptied : buffered_frame d'.transfer ≡ []
  pub zeros : d'.transfer.buffer ≡ replicate 256 0
  pub waits : d'.transfer.pending ≡ false

-- A list that is put after the first bytes of another.
seam : (at : ℕ) (s f r : List ℕ) → at ≤ length s → (take (at + length f) (take at s ++ (f ++ r)) ≡ take at s ++ f) × (drop (at + length f) (take at s ++ (f ++ r)) ≡ r)
seam at s f r h =
    let size : length (take at s ++ f) ≡ at + length f = rw (length-append, length-take-le at s h) in
    rw (← append_assoc (take at s) f r, ← size) (take-append_seam (take at s ++ f) r, drop-append_seam (take at s ++ f) r)

pub frame_stored_lem : (d : Device) (s : List ℕ) → let t = d.transfer in t.pending ≡ true → t.size ≤ length s → t.stored + length (buffered_frame t) ≤ t.size
    → Stored d (after_work d (work d (length s))) s (store_after d (work d (length s)) s)
unfolding work has_room unit_stored frame_stored buffered_frame after_work store_after require after
frame_stored_lem d s pending long fits =
    let t = d.transfer in
    let parts = seam t.stored s (buffered_frame t) (drop (t.stored + length (buffered_frame t)) s) (omega arith) in
    rw (le-leb t.size (length s) long, le-leb (t.stored + length (buffered_frame t)) t.size fits, pending)
    (record { count = refl; holds = parts.0; rest = parts.1; number = refl; emptied = refl; zeros = refl; waits = refl })

-- Document 02, ticket 5: "Storing the last frame makes the open job the last finished one, and none is open then."
module _ (d : Device) where
  pub last-finishes : (n : ℕ) → d.transfer.job ≡ Some n → is_last_frame d.transfer ≡ true → ((unit_stored d).finished ≡ Some n) × ((unit_stored d).transfer.job ≡ None)
  unfolding unit_stored frame_stored finished_job
  last-finishes n job last = rw (last, job) (refl, refl)

  -- No other frame does.
  pub earlier_keeps : is_last_frame d.transfer ≡ false → ((unit_stored d).finished ≡ d.finished) × ((unit_stored d).transfer.job ≡ d.transfer.job)
  unfolding unit_stored frame_stored
  earlier_keeps more = rw more (refl, refl)

abbrev Gives : Device → List ℕ → Result Device Refusal → List ℕ → Type 0
Gives d s r s' = (value_result r ≡ without_bytes (work d (length s))) × (s' ≡ store_after d (work d (length s)) s)

-- The step by its two tests.
module _ (d : Device) (n : ℕ) where
  pub rests : d.transfer.pending ≡ false → work d n ≡ given d []
  unfolding work
  rests h = rw h

  short : d.transfer.pending ≡ true → has_room d.transfer n ≡ false → work d n ≡ refused 8
  unfolding work require after
  short h k = rw (k, h)

  stores : d.transfer.pending ≡ true → has_room d.transfer n ≡ true → work d n ≡ given (unit_stored d) (buffered_frame d.transfer)
  unfolding work require after
  stores h k = rw (k, h)

module _ (d : Device) (s : List ℕ) where
  pub idle_gives : d.transfer.pending ≡ false → Gives d s (Ok d) s
  unfolding value_result without_bytes store_after
  idle_gives h = rw (rests d (length s) h, add-zero) (refl, sym (take-append-drop d.transfer.stored s))

  pub short_gives : d.transfer.pending ≡ true → has_room d.transfer (length s) ≡ false → Gives d s (Err OutputTooShort) s
  unfolding value_result without_bytes store_after
  short_gives h k = rw (short d (length s) h k) (refl, refl)

  pub room : has_room d.transfer (length s) ≡ true → (d.transfer.size ≤ length s) × (d.transfer.stored + length (buffered_frame d.transfer) ≤ d.transfer.size)
  unfolding has_room
  room h =
      let t = d.transfer in
      let b = both_true (leb t.size (length s)) (leb (t.stored + length (buffered_frame t)) t.size) h in
      (leb-true _ _ b.0, leb-true _ _ b.1)

  -- A frame that goes after what is stored.
  pub stored_gives : d.transfer.pending ≡ true → has_room d.transfer (length s) ≡ true
      → Gives d s (Ok (unit_stored d)) (take d.transfer.stored s ++ (buffered_frame d.transfer ++ drop (d.transfer.stored + length (buffered_frame d.transfer)) s))
  unfolding value_result without_bytes store_after
  stored_gives h k = rw (stores d (length s) h k) (refl, refl)
