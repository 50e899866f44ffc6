-- Carried by the laws of one frame: what is stored, and the frames from there on, are the series.
use Rattle.can_writer.proofs.Writing.{Going}
use Rattle.can_writer.proofs.writer.fill_series.Given as goal

abbrev pub invariant-loop-k : goal.invariant-loop-k
invariant-loop-k l = Going l.identifier l.payload l.out l.k
