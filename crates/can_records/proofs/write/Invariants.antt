-- Carried by the law of one record more.
use mathlib.Core.Path.{◌≡◌}
use Rattle.std.specs.Iterator.Adapters.{enumerate_source, enumerate_count}
use Rattle.std.specs.Slice.Iter.{chunks_exact_rest, chunks_exact_size}
use Rattle.can_records.proofs.Filling.{Going}
use Rattle.can_records.proofs.write.Given as goal

abbrev pub invariant-loop-i : goal.invariant-loop-i
invariant-loop-i l =
    let first = enumerate_source l.initial.i-iterator in
    let now = enumerate_source l.i-iterator in
    record { size : chunks_exact_size now ≡ 13; going : Going (chunks_exact_rest first) l.initial.frames l.frames (chunks_exact_rest now) (enumerate_count l.i-iterator) }
