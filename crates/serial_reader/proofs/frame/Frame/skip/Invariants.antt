-- Carried by the steps of a scan: before a turn `at` stands as many encoded bytes after the start byte as there were turns.
use Rattle.serial_reader.specs.Undouble.{Skipped}
use Rattle.serial_reader.proofs.frame.Frame.skip.Given as goal

abbrev pub invariant-loop : goal.invariant-loop
invariant-loop l = Skipped l.bytes 2 l.counter l.at
