-- Carried by the laws of one frame: what is stored, and the payload of the frames left, are the whole payload.
use mathlib.Core.Path.{◌≡◌}
use lib.ListN.{length}
use Rattle.std.specs.Slice.Iter.{chunks_exact_rest, chunks_exact_size}
use Rattle.can_reader.proofs.Reading.{Storing}
use Rattle.can_reader.proofs.reader.copy_payload.Given as goal

abbrev pub invariant-loop-frame : goal.invariant-loop-frame
invariant-loop-frame l =
    record { size : chunks_exact_size l.frame-iterator ≡ 13; storing : Storing l.bytes (chunks_exact_rest l.frame-iterator) l.out (length l.initial.out) l.to }
