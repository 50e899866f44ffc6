-- Carried by the steps of a scan: before a turn the rest of the body, stored from `to` on, makes the output whole.
use Prim.Native.Nat.{◌-◌}
use mathlib.Core.Path.{◌≡◌}
use lib.ListN.{length}
use Rattle.serial_reader.specs.Undouble.{Storing, body_stored}
use Rattle.serial_reader.proofs.frame.Frame.undouble.Given as goal

abbrev pub invariant-loop-at : goal.invariant-loop-at
invariant-loop-at l = (length l.out ≡ length l.initial.out) × Storing l.bytes (body_stored l.bytes l.initial.at l.initial.out 0) l.out l.at l.to

abbrev pub decreases-loop-at : goal.decreases-loop-at
decreases-loop-at l = length l.bytes - l.at
