-- Carried by the steps of a scan: before a turn the rest of the body, stored after the bytes copied, makes the output whole.
use Prim.Native.Nat.{◌+◌, ◌-◌, ◌<◌}
use mathlib.Core.Path.{◌≡◌}
use lib.ListN.{length}
use Rattle.serial_reader.specs.Undouble.{Storing, body_stored}
use Rattle.serial_reader.proofs.frame.Frame.copy_plain.Given as goal

abbrev pub invariant-loop-bytes : goal.invariant-loop-bytes
invariant-loop-bytes l = (l.from + l.n < length l.bytes) × (length l.out ≡ length l.initial.out) × Storing l.bytes (body_stored l.bytes l.from l.initial.out l.to) l.out (l.from + l.n) (l.to + l.n)

abbrev pub decreases-loop-bytes : goal.decreases-loop-bytes
decreases-loop-bytes l = length l.bytes - (l.from + l.n)
