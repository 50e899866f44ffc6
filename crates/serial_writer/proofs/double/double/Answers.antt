-- Carried by the law of one byte more: what is stored, with what is left to store, is always the whole.
use mathlib.Core.Path.{ap}
use native.Mathlib.Omega.{arith}
use lib.ListN.{length}
use Rattle.message_rules.proofs.Stores.{sets-append}
use Rattle.serial_rules.proofs.Doubling.{doubled-step, doubled-end, length-step}
use Rattle.serial_writer.proofs.double.double.Goals as goal

pub put-next-requires : goal.put-next-requires
put-next-requires c = omega (arith, length-step c.args.bytes.now c.loop-b.b-index (omega arith))

pub loop-b-preserved : goal.loop-b-preserved
loop-b-preserved c =
    let s = c.args.bytes.now in
    let l = c.loop-b in
    let p = c.put-next in
    record {
      place = omega (arith, length-step s l.b-index (omega arith));
      stored = rw (p.ensures.0, p.ensures.1, sets-append, ← doubled-step s l.b-index (omega arith)) l.invariant.stored;
    }

pub returns : goal.returns
returns c =
    let l = c.loop-b in
    let e = doubled-end c.args.bytes.now l.b-index (omega arith) in
    (omega (arith, ap length e), rw e at l.invariant.stored)
