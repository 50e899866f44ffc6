-- Carried by the laws of one turn: each branch of the loop is one of them.
use Prim.Native.Nat.{◌-◌}
use lib.ListN.{length}
use Rattle.serial_scan.proofs.Turns.{Turn}
use Rattle.serial_scan.proofs.scan.Given as goal

abbrev pub invariant-loop-at : goal.invariant-loop-at
invariant-loop-at l = Turn l.bytes l.from l.esc l.last l.at l.count

abbrev pub decreases-loop-at : goal.decreases-loop-at
decreases-loop-at l = length l.bytes - l.at
