-- Carried by the law of one byte more: what is stored, with what is left to store, is always the whole.
use Prim.Native.Nat.{◌+◌}
use mathlib.Core.Path.{◌≡◌}
use lib.ListN.{length, drop}
use lib.Seq.{sets}
use Rattle.serial_rules.specs.Stuffing.{doubled}
use Rattle.serial_writer.proofs.double.double.Given as goal

abbrev pub invariant-loop-b : goal.invariant-loop-b
invariant-loop-b l = record {
  place : l.next + length (doubled (drop l.b-index l.bytes)) ≡ l.at + length (doubled l.bytes);
  stored : sets l.out l.next (doubled (drop l.b-index l.bytes)) ≡ sets l.initial.out l.at (doubled l.bytes);
}
