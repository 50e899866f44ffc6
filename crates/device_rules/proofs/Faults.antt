-- Which fault a command meets at a unit that has stored i frames: carried by the laws of Order, and by the tests of frame. Demand 3 rests on these.
use Rattle.file_rules.specs.Setup.{announced}
use Rattle.std.specs.Prelude.{None, Some, Option}
use Prim.Native.Nat.{ℕ, ◌+◌, ◌*◌, ◌-◌, ◌%◌, ◌≤◌, ◌<◌, min}
use mathlib.Core.Bool.{Bool, true, false, cond, not}
use mathlib.Core.List.{List}
use mathlib.Core.Path.{◌≡◌, refl}
use native.Mathlib.Omega.{arith}
use borrow.Author.Tests.{ne_eqb, le-ltb, ltb-false}
use lib.Dec.{eqb}
use lib.ListN.{length, take}
use Rattle.little_endian_rules.specs.LittleEndian.{from_bytes, to_bytes}
use Rattle.little_endian_rules.proofs.Laws.{to-length, from_to_lem}
use Rattle.message_rules.proofs.Checks.{both_false}
use Rattle.file_rules.specs.File.{size_legal, frame_count}
use Rattle.device_rules.specs.Commands.{new_transfer}
use Rattle.device_rules.specs.Device.{is_idle, buffered_frame, empty_buffer, with_transfer}
use Rattle.device_rules.specs.declared.Device.{Device}
use Rattle.device_rules.specs.declared.Transfer.{Transfer}
use Rattle.device_rules.specs.declared.Phase.TheVariants as PhaseOf
use Rattle.device_rules.specs.Faults.{fault, is_repeat, setup_fault, frame_fault, command_fault}
use Rattle.device_rules.specs.declared.Fault.{Fault}
use Rattle.device_rules.specs.declared.Fault.TheVariants.{Repeat, Nack}
use Rattle.device_rules.proofs.Order.{setup_repeats, take_waits, take-finished, take-repeated, take_next}

-- A command without a fault passed every test.
pub fault-none : (e i : ℕ) (t : Bool) (rest : Option Fault) → fault e i t rest ≡ None → (t ≡ false) × (rest ≡ None)
unfolding fault
fault-none e i true rest h = absurd (let z : ◌≡◌ {A = ℕ} 0 1 = cc in omega arith)
fault-none e i false rest h = (refl, h)

-- So did a setup that is carried out: nothing is pending, and its size fits the store.
pub setup-passed : (d : Device) (store size number : ℕ) → setup_fault d store (announced size number) ≡ None → (d.transfer.pending ≡ false) × (size ≤ store)
unfolding setup_fault
setup-passed d store size number e = by (is_repeat d.transfer size number) refl
  where
    by : (b : Bool) → is_repeat d.transfer size number ≡ b → (d.transfer.pending ≡ false) × (size ≤ store)
    by true q = absurd (let z : ◌≡◌ {A = ℕ} 0 1 = cc (rw q at e) in omega arith)
    by false q =
        let six = fault-none 6 0 d.transfer.pending _ (rw q at e) in
        let seven = fault-none 7 0 _ _ six.1 in
        let again = fault-none 7 0 _ _ seven.1 in
        let three = fault-none 3 0 _ None again.1 in
        (six.0, ltb-false store size (both_false (not (size_legal size)) _ three.0).1)

-- A transfer that has stored i frames of a file of this size for a job; its buffer, the count of it and whether it is pending are given apart.
abbrev pub transfer_at : (size number i : ℕ) → List ℕ → ℕ → Bool → Transfer
transfer_at size number i buffer buffered pending =
    record {
      phase = cond (eqb i (frame_count size)) PhaseOf.Finished PhaseOf.Open;
      number = (i + 65535) % 65536;
      buffer = buffer;
      buffered = buffered;
      pending = pending;
      size = size;
      stored = min (256 * i) size;
      job = cond (eqb i (frame_count size)) None (Some number);
    }

-- The unit then: once all frames are stored, the job is the last finished one. The rest is as it was.
abbrev pub unit_at : Device → (size number i : ℕ) → List ℕ → ℕ → Bool → Device
unit_at d size number i buffer buffered pending =
    record {
      link = d.link;
      own = d.own;
      transfer = transfer_at size number i buffer buffered pending;
      finished = cond (eqb i (frame_count size)) (Some number) d.finished;
    }

-- So a setup that is carried out leaves it.
pub setup-unit : (d : Device) (n number : ℕ) → 1 ≤ frame_count n → with_transfer d (new_transfer n number) ≡ unit_at d n number 0 empty_buffer 0 false
unfolding new_transfer
setup-unit d n number some =
    let none : min 0 n ≡ 0 = omega arith in
    rw (ne_eqb 0 (frame_count n) (omega arith), none)

-- It is open or finished, never idle.
never_idle : (b : Bool) → is_idle (cond b PhaseOf.Finished PhaseOf.Open) ≡ false
never_idle true = refl
never_idle false = refl

module _ (d : Device) (n number i store : ℕ) (buffer : List ℕ) (buffered : ℕ) where
  abbrev unit : ℕ → Bool → Device
  unit j pending = unit_at d n number j buffer buffered pending

  -- While frames are to come, the same setup again is a repeat.
  pub setup-again : (pending : Bool) → i < frame_count n → setup_fault (unit i pending) store (announced n number) ≡ Some Repeat
  setup-again pending h = setup_repeats n number (unit i pending) store (rw (ne_eqb i (frame_count n) (omega arith))) refl

  -- A frame is taken while one is to come and none is pending.
  pub frame-taken : (p : List ℕ) → i < frame_count n → 1 ≤ length p → length p ≤ 256 → command_fault (unit i false) store 22 p ≡ None
  unfolding command_fault frame_fault fault
  frame-taken p h some most = rw (ne_eqb (length p) 0 (omega arith), le-ltb 256 (length p) most, ne_eqb i (frame_count n) (omega arith))

  -- Take frame i is carried out where frame i is in the buffer,
  pub take-taken : i < frame_count n → i < 65535 → 1 ≤ length (take buffered buffer) → length (take buffered buffer) ≤ n - min (256 * i) n
      → command_fault (unit i false) store 21 (to_bytes 2 i) ≡ None
  unfolding fault buffered_frame
  take-taken h small some fits =
      let same : from_bytes (to_bytes 2 i) ≡ i = from_to_lem 2 i (omega arith) in
      let next = take_next (unit i false) store refl (to_bytes 2 i) (to-length 2 i) (rw (ne_eqb i (frame_count n) (omega arith))) (omega arith) (omega arith) in
      rw (next, ne_eqb (length (take buffered buffer)) 0 (omega arith), le-ltb _ _ fits)

  -- nack 6 while it is pending,
  pub take-pending : command_fault (unit i true) store 21 (to_bytes 2 i) ≡ Some (Nack 6 0)
  take-pending = take_waits (unit i true) store (to_bytes 2 i) (to-length 2 i) (never_idle (eqb i (frame_count n))) refl

  -- and nack 3 once it is stored: the transfer is finished, or the number is the one last stored.
  pub take-stored : i < 65535 → command_fault (unit (i + 1) false) store 21 (to_bytes 2 i) ≡ Some (Nack 3 (cond (eqb (i + 1) (frame_count n)) 2 1))
  take-stored small = by (eqb (i + 1) (frame_count n)) refl
    where
      by : (b : Bool) → eqb (i + 1) (frame_count n) ≡ b → command_fault (unit (i + 1) false) store 21 (to_bytes 2 i) ≡ Some (Nack 3 (cond b 2 1))
      by true last = take-finished (unit (i + 1) false) store refl (to_bytes 2 i) (to-length 2 i) (rw last)
      by false more =
          let same : from_bytes (to_bytes 2 i) ≡ i = from_to_lem 2 i (omega arith) in
          take-repeated (unit (i + 1) false) store refl (to_bytes 2 i) (to-length 2 i) (rw more) (omega arith) (λ is. omega arith)
