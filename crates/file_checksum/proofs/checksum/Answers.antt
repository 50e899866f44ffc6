-- Carried by the bytes that are left: from the register so far they lead to the checksum. The table's entries are computed, all at once.
use mathlib.Core.Path.{refl, ◌∙◌}
use native.Mathlib.Omega.{arith}
use lib.ListN.{drop_of_length-le}
use Rattle.file_rules.specs.Checksum.{bit_step, bit_steps, high_first, byte_step, byte_steps, checksum}
use Rattle.file_rules.proofs.Linear.{byte_below}
use Rattle.file_rules.proofs.Table.{entries, by_table}
use Rattle.file_rules.proofs.Checksum.{bytes_turn}
use Rattle.file_checksum.proofs.checksum.Goals as goal

pub loop-byte-init : goal.loop-byte-init
unfolding checksum byte_step bit_steps high_first bit_step
loop-byte-init c = (refl, omega arith, entries _ refl)

pub loop-byte-preserved : goal.loop-byte-preserved
loop-byte-preserved c =
    let l = c.loop-byte in
    let step = by_table _ _ l.invariant.1 (c.type_inv.bytes l.byte-index).fits _ l.invariant.2 in (
      rw (c.from.ensures, step) (bytes_turn _ l.byte-index l.register (omega arith)) ∙ l.invariant.0,
      rw (c.from.ensures, step) (byte_below _ _),
      l.invariant.2,
    )

pub returns : goal.returns
unfolding byte_steps
returns c = rw (drop_of_length-le _ c.loop-byte-test.false) at c.loop-byte.invariant.0
