-- Carried by what is left to count: a count so far and that of the entries left are the count of all entries.
use Prim.Native.Nat.{ℕ, suc, ◌+◌, ◌*◌, ◌≤◌, ◌<◌}
use mathlib.Core.Bool.{Bool, true, false}
use mathlib.Core.List.{List, [], ◌∷◌, ◌++◌}
use mathlib.Core.Path.{◌≡◌, refl, sym, ◌∙◌}
use native.Mathlib.Omega.{arith}
use borrow.Author.Tests.{lt-ltb, le-ltb, ltb-true, ltb-false, eqb-true, eqb-false, leb-true}
use lib.Dec.{ltb, eqb}
use lib.ListN.{length, get_or, set, replicate, length-set, length-replicate, get_or-replicate}
use lib.Seq.{get_or-set_same, get_or-set_other, ext_get_or}
use Rattle.event_rules.specs.Records.{record_of, record_in, in_second, event_class, event_source}
use Rattle.event_rules.specs.Logs.{Entry, entries, kept, every}
use Rattle.event_rules.specs.Reports.{of_class, of_source, counts, class_counts, source_counts, is_earlier, tally, earlier_count, report_of}
use Rattle.event_rules.specs.declared.EventRecord.{EventRecord}
use Rattle.message_rules.proofs.Checks.{both_true}
use Rattle.event_rules.proofs.Entries.{entries-count, kept-part, part_length}
use Rattle.event_rules.proofs.Turns.{record_whole}
use Rattle.event_rules.proofs.Choices.{class_below, source_below}
use Rattle.event_rules.proofs.Counts.{class_count, source-count, kept-front}
use Rattle.event_checks.proofs.Chunks.{entries-front, entries-end}
use mir.Val.{bool_byte}

-- A row of counts, one for each value below a width: each with that of the entries left is that of all.
pub record Row (test : ℕ → EventRecord → Bool) (width : ℕ) (row : List ℕ) (rest all : List Entry) : Type 0 where
  pub wide : length row ≡ width
  pub counted : (i : ℕ) → i < width → get_or row i 0 + length (kept (test i) rest) ≡ length (kept (test i) all)

-- The row with one more of a value.
abbrev pub one_more : List ℕ → ℕ → List ℕ
one_more row i = set row i (get_or row i 0 + 1)

module _ (test : ℕ → EventRecord → Bool) (width : ℕ) where
  row_first : (all : List Entry) → Row test width (replicate width 0) all all
  row_first all =
      record {
        wide = length-replicate width 0;
        counted = λ i h. omega (arith, get_or-replicate {A = ℕ} width i 0 0 h);
      }

  row-most : {row : List ℕ} {rest all : List Entry} → Row test width row rest all → (i : ℕ) → i < width → get_or row i 0 ≤ length all
  row-most {all = all} r i h = omega (arith, r.counted i h, part_length (kept-part (test i) all))

  row-end : {row : List ℕ} {all : List Entry} → Row test width row [] all → (is : List ℕ) → length is ≡ width
      → ((i : ℕ) → i < width → get_or is i 0 ≡ length (kept (test i) all)) → row ≡ is
  unfolding kept
  row-end {row} r is wide at =
      ext_get_or 0 row is (r.wide ∙ sym wide) (λ i h. omega (arith, r.counted i (omega (arith, r.wide)), at i (omega (arith, r.wide))))

  -- The value of the entry of a turn is counted.
  row_turn : (value : EventRecord → ℕ) → ((i : ℕ) (r : EventRecord) → test i r ≡ eqb (value r) i) → {row : List ℕ} {e : Entry} {rest all : List Entry}
      → Row test width row (e ∷ rest) all → value (record_of e) < width → Row test width (one_more row (value (record_of e))) rest all
  unfolding tally
  row_turn value is {row} {e} {rest} {all} r below =
      record { wide = simp length-set r.wide; counted = λ i h. by i h (eqb (value (record_of e)) i) refl }
    where
      by : (i : ℕ) → i < width → (t : Bool) → eqb (value (record_of e)) i ≡ t
          → get_or (one_more row (value (record_of e))) i 0 + length (kept (test i) rest) ≡ length (kept (test i) all)
      by i h true q =
          let front = rw (is i (record_of e), q) at (kept-front (test i) e rest) in
          rw (eqb-true (value (record_of e)) i q) (omega (arith, r.counted i h, front, get_or-set_same row i (get_or row i 0 + 1) 0 (omega (arith, r.wide))))
      by i h false q =
          let front = rw (is i (record_of e), q) at (kept-front (test i) e rest) in
          rw (get_or-set_other row _ i (get_or row (value (record_of e)) 0 + 1) 0 (λ p. eqb-false _ _ q (sym p))) (omega (arith, r.counted i h, front))

-- Seconds, then milliseconds, as one number.
abbrev pub time : EventRecord → ℕ
time e = e.seconds * 65536 + e.milliseconds

-- Earlier is smaller, where no milliseconds come to the next second.
same-ltb : (a b c d : ℕ) → (a < b → c < d) → (b ≤ a → d ≤ c) → ltb a b ≡ ltb c d
same-ltb a b c d less most = by (ltb a b) refl
  where
    by : (t : Bool) → ltb a b ≡ t → ltb a b ≡ ltb c d
    by true q = q ∙ sym (lt-ltb c d (less (ltb-true a b q)))
    by false q = q ∙ sym (le-ltb c d (most (ltb-false a b q)))

earlier_time : (e d : EventRecord) → in_second e ≡ true → in_second d ≡ true → is_earlier e d ≡ ltb (time e) (time d)
unfolding in_second is_earlier
earlier_time e d legal legal' = by (eqb e.seconds d.seconds) refl
  where
    by : (t : Bool) → eqb e.seconds d.seconds ≡ t → is_earlier e d ≡ ltb (time e) (time d)
    by true q = let same = eqb-true e.seconds d.seconds q in rw q (same-ltb e.milliseconds d.milliseconds (time e) (time d) (λ h. omega arith) (λ h. omega arith))
    by false q =
        let small = leb-true e.milliseconds 999 legal in
        let small' = leb-true d.milliseconds 999 legal' in
        let other = eqb-false e.seconds d.seconds q in
        rw q (same-ltb e.seconds d.seconds (time e) (time d) (λ h. omega arith) (λ h. omega arith))

-- How many are earlier than the record before, the first of them than a time.
unfoldable pub earlier_from : ℕ → List Entry → ℕ
earlier_from before [] = 0
earlier_from before (e ∷ l) = tally (ltb (time (record_of e)) before) (earlier_from (time (record_of e)) l)

earlier-after : (d : Entry) (l : List Entry) → every in_second (d ∷ l) ≡ true → earlier_from (time (record_of d)) l ≡ earlier_count (d ∷ l)
unfolding earlier_from earlier_count every
earlier-after d [] h = refl
earlier-after d (e ∷ l) h =
    let both = both_true _ _ h in
    rw (earlier_time (record_of e) (record_of d) (both_true _ _ both.1).0 both.0, earlier-after e l both.1)

-- Nothing is earlier than 0.
earlier-first : (l : List Entry) → every in_second l ≡ true → earlier_from 0 l ≡ earlier_count l
unfolding earlier_from earlier_count tally
earlier-first [] h = refl
earlier-first (e ∷ l) h = rw (le-ltb (time (record_of e)) 0 (omega arith)) (earlier-after e l h)

earlier-most : (before : ℕ) (l : List Entry) → earlier_from before l ≤ length l
unfolding earlier_from tally
earlier-most before [] = omega arith
earlier-most before (e ∷ l) = by (ltb (time (record_of e)) before) (earlier-most (time (record_of e)) l)
  where
    by : (t : Bool) {m n : ℕ} → m ≤ n → tally t m ≤ suc n
    by true h = omega arith
    by false h = omega arith

pub at_most_one : (t : Bool) → bool_byte t ≤ 1
at_most_one true = omega arith
at_most_one false = omega arith

-- One more where a test holds, as the code and as the rule add it.
added : (t : Bool) (m n : ℕ) → m + bool_byte t + n ≡ m + tally t n
unfolding tally
added true m n = omega arith
added false m n = omega arith

-- What has been counted, with so much left of a log.
pub record Counting (log classes sources : List ℕ) (earlier before : ℕ) (left : List ℕ) : Type 0 where
  pub legal : every in_second (entries left) ≡ every in_second (entries log)
  pub class_row : Row of_class 4 classes (entries left) (entries log)
  pub source_row : Row of_source 32 sources (entries left) (entries log)
  pub earlier-sum : earlier + earlier_from before (entries left) ≡ earlier_from 0 (entries log)

pub first : (log : List ℕ) → Counting log (replicate 4 0) (replicate 32 0) 0 0 log
first log =
    record {
      legal = refl;
      class_row = row_first of_class 4 (entries log);
      source_row = row_first of_source 32 (entries log);
      earlier-sum = omega arith;
    }

module _ {log classes sources : List ℕ} {earlier before : ℕ} {left : List ℕ} (c : Counting log classes sources earlier before left) where
  -- No count is above that of the entries.
  module _ (short : length log ≤ 65520) where
    few : length (entries log) ≤ 2730
    few = omega (arith, entries-count log)

    pub class_most : (i : ℕ) → i < 4 → get_or classes i 0 ≤ 2730
    class_most i h = omega (arith, few, row-most of_class 4 c.class_row i h)

    pub source-most : (i : ℕ) → i < 32 → get_or sources i 0 ≤ 2730
    source-most i h = omega (arith, few, row-most of_source 32 c.source_row i h)

    pub earlier_few : earlier ≤ 2730
    earlier_few = omega (arith, few, c.earlier-sum, earlier-most 0 (entries log))

  -- No entry is left.
  module _ (none : length left < 24) where
    pub all_legal : every in_second (entries log) ≡ true
    unfolding every
    all_legal = sym (rw (entries-end left none) at c.legal)

    pub all_counted : record { classes = classes; sources = sources; earlier = earlier } ≡ report_of (entries log)
    unfolding counts class_counts source_counts report_of earlier_from
    all_counted = λ i.
        record {
          classes = row-end of_class 4 (rw (entries-end left none) at c.class_row) (class_counts (entries log)) refl (λ k h. class_count k (entries log) h) i;
          sources = row-end of_source 32 (rw (entries-end left none) at c.source_row) (source_counts (entries log)) refl (λ k h. source-count k (entries log) h) i;
          earlier = all_earlier i;
        }
      where
        all_earlier : earlier ≡ earlier_count (entries log)
        all_earlier = omega (arith, rw (entries-end left none) at c.earlier-sum, earlier-first (entries log) all_legal)

  -- An entry is left, with its record: it is refused, or counted.
  module _ (entry rest : List ℕ) (begins : left ≡ entry ++ rest) (whole : length entry ≡ 24) (e : EventRecord) (is : e ≡ record_in entry) where
    front : entries left ≡ entry ∷ entries rest
    front = rw begins (entries-front entry rest whole)

    read : e ≡ record_of entry
    read = is ∙ record_whole entry whole

    pub late : in_second e ≡ false → every in_second (entries log) ≡ false
    unfolding every
    late h = sym c.legal ∙ rw (front, ← read, h)

    pub next : in_second e ≡ true
        → Counting log (one_more classes (event_class e)) (one_more sources (event_source e)) (earlier + bool_byte (ltb (time e) before)) (time e) rest
    unfolding of_class of_source earlier_from every
    next h =
        record {
          legal = rw (front, ← read, h) at c.legal;
          class_row = rw read (row_turn of_class 4 event_class (λ i r. refl) (rw front at c.class_row) (class_below (record_of entry)));
          source_row = rw read (row_turn of_source 32 event_source (λ i r. refl) (rw front at c.source_row) (source_below (record_of entry)));
          earlier-sum = rw read (added (ltb (time (record_of entry)) before) _ _ ∙ rw front at c.earlier-sum);
        }
