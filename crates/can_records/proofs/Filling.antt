-- The 13-byte form in an array as long as the longest series, and the lent list while it is filled with its records. Carried by the bound of what
-- CAN writes, and by the laws of records.
use Prim.Native.Nat.{ℕ, ◌+◌, ◌*◌, ◌/◌, ◌≤◌, ◌<◌}
use mathlib.Core.List.{List, ◌++◌}
use mathlib.Core.Path.{◌≡◌, refl, sym, ◌∙◌, ap}
use native.Mathlib.Omega.{arith}
use borrow.Author.Tests.{le-leb}
use lib.ListN.{length, set, take, drop, replicate, length-append, length-drop}
use lib.Seq.{length-take-le, take_at, drop_at, drop-drop}
use Rattle.message_rules.specs.Answer.{Answer, refused, given, within, counted, output_after}
use Rattle.message_rules.specs.declared.Message.{Message}
use Rattle.message_rules.proofs.Answers.{long_enough, counted-given}
use Rattle.can_rules.specs.Can.{most_later, longest_series, can_write}
use Rattle.can_rules.specs.declared.CanFrame.{CanFrame}
use Rattle.can_rules.specs.Records.{record_of, records_of, in_records, records_write, fitting}
use Rattle.can_rules.proofs.Lengths.{written-most}
use Rattle.can_rules.proofs.Records.{record_front, filled_to, filled_turn, records-length, too_few}

module _ (m : Message) (p : List ℕ) where
  -- The array never refuses.
  pub form_fits : within (replicate longest_series 0) (can_write m p) ≡ can_write m p
  unfolding within
  form_fits = by (can_write m p) refl
    where
      by : (x : Answer Unit (List ℕ)) → can_write m p ≡ x → within (replicate longest_series 0) x ≡ x
      by (refused n) e = refl
      by (given t b) e = long_enough (replicate longest_series 0) tt b (written-most m p b e)

  pub form_refused : (n : ℕ) → can_write m p ≡ refused n → records_write m p ≡ refused n
  unfolding records_write in_records
  form_refused n e = rw e

  -- What was written lies at the start of the array.
  module _ (size : ℕ) (bytes : List ℕ) (says : given tt size ≡ counted (within (replicate longest_series 0) (can_write m p)))
      (lies : bytes ≡ output_after (within (replicate longest_series 0) (can_write m p)) (replicate longest_series 0)) where
    pub form_given : (can_write m p ≡ given tt (take size bytes)) × (size ≤ length bytes)
    form_given =
        let g = counted-given (within (replicate longest_series 0) (can_write m p)) (replicate longest_series 0) bytes lies tt size (sym says) in
        (sym form_fits ∙ g.0, g.1)

    -- The longest series has so many frames.
    pub form_most : size / 13 ≤ most_later + 1
    form_most =
        let g = form_given in
        omega (arith, written-most m p (take size bytes) g.0, length-take-le size bytes g.1)

    records : records_write m p ≡ given tt (records_of (size / 13) (take size bytes))
    unfolding records_write in_records
    records = rw (form_given.0, length-take-le size bytes form_given.1)

    pub few_records : (room : ℕ) → room < size / 13 → fitting room (records_write m p) ≡ refused 8
    few_records room h = rw records (too_few tt (records_of (size / 13) (take size bytes)) room (rw records-length h))

    pub enough_records : (room : ℕ) → size / 13 ≤ room → fitting room (records_write m p) ≡ given tt (records_of (size / 13) (take size bytes))
    unfolding fitting
    enough_records room h = rw (records, records-length (size / 13) (take size bytes), le-leb (size / 13) room h)

-- Before the record i: so many are filled, and the frames left are those from it on.
pub record Going (b : List ℕ) (frames₀ frames : List CanFrame) (left : List ℕ) (i : ℕ) : Type 0 where
  pub rest : left ≡ drop (13 * i) b
  pub inside : 13 * i ≤ length b
  pub filled : frames ≡ filled_to b frames₀ i

module _ (b : List ℕ) (frames₀ frames : List CanFrame) (f others : List ℕ) (i : ℕ) (going : Going b frames₀ frames (f ++ others) i) (long : length f ≡ 13) where
  pub going_inside : i < length b / 13
  going_inside = omega (arith, ap length going.rest, length-append f others, length-drop (13 * i) b)

  pub going_more : i < length frames₀ → (r : CanFrame) → r ≡ record_of f → Going b frames₀ (set frames i r) others (i + 1)
  going_more h r e =
      let next : 13 * i + 13 ≡ 13 * (i + 1) = omega arith in
      let whole : record_of (f ++ others) ≡ record_of f = record_front (f ++ others) (rw length-append (omega arith)) ∙ ap record_of (take_at f others 13 long) in
      record {
        rest = rw next at (sym (drop_at f others 13 long) ∙ ap (drop 13) going.rest ∙ drop-drop 13 (13 * i) b);
        inside = omega (arith, going_inside);
        filled = rw going.filled (filled_turn b frames₀ i r h (e ∙ sym whole ∙ ap record_of going.rest));
      }

pub going_end : (b s : List ℕ) (n : ℕ) (frames₀ frames : List CanFrame) (left : List ℕ) (i : ℕ) → Going b frames₀ frames left i → length left < 13 → b ≡ s → length s ≡ n
    → frames ≡ records_of (n / 13) s ++ drop (n / 13) frames₀
going_end b s n frames₀ frames left i g h whole size =
    let all : i ≡ n / 13 = omega (arith, ap length g.rest, length-drop (13 * i) b, g.inside, ap length whole, size) in
    rw (← all, ← whole) g.filled
