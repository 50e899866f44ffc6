-- Carried by what is left to count (Counting): a turn counts the first entry left, and at the end none is left.
use Rattle.std.proofs.Common.{◌≡◌}
use Rattle.std.specs.Slice.Iter.{chunks_exact_rest, chunks_exact_size}
use Rattle.event_report.proofs.Counting.{Counting}
use Rattle.event_report.proofs.count_records.Given as goal

abbrev pub invariant-loop-entry : goal.invariant-loop-entry
invariant-loop-entry l = (chunks_exact_size l.entry-iterator ≡ 24) × Counting l.log l.classes l.sources l.earlier l.before (chunks_exact_rest l.entry-iterator)
