-- Carried by the laws of a later frame: what all frames come to is what those left come to, after what was added up.
use Prim.Native.Nat.{◌≤◌, ◌+◌}
use lib.ListN.{length}
use Rattle.can_scan.proofs.Scanning.{Ahead}
use Rattle.can_scan.proofs.scanner.scan_series.Given as goal

abbrev pub invariant-loop-left : goal.invariant-loop-left
invariant-loop-left l = record { within : l.size + length l.rest ≤ length l.bytes; ahead : Ahead l.bytes l.rest l.size l.left }
