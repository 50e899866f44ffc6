-- Carried by the bytes that are left: from the register so far they lead to the checksum. The table's entries are computed, all at once.
use Prim.Native.Nat.{◌<◌}
use mathlib.Core.Path.{◌≡◌}
use lib.ListN.{drop}
use Rattle.file_rules.specs.Checksum.{byte_steps, checksum}
use Rattle.file_rules.proofs.Table.{Entries}
use Rattle.file_checksum.proofs.checksum.Given as goal

abbrev pub invariant-loop-byte : goal.invariant-loop-byte
invariant-loop-byte l = (byte_steps l.register (drop l.byte-index l.bytes) ≡ checksum l.bytes) × (l.register < 65536) × Entries l.table
