-- Carried by the law of a list of which a beginning is lent: no more than 64 are, which is all there are.
use Prim.Native.Nat.{◌≤◌}
use native.Mathlib.Omega.{arith}
use lib.ListN.{length}
use lib.Seq.{length-take-le}
use Rattle.can_rules.specs.Records.{records_write}
use Rattle.replay.proofs.LentCount.{filled-part, lent-most}
use Rattle.replay.proofs.records.write.Goals as goal

pub returns-clause-frames_after : goal.returns-clause-frames_after
returns-clause-frames_after c =
    let a = c.args in
    let n = c.lent_count-n.result in
    let within : n ≤ length a.frames.now = omega (arith, lent-most a.count, c.lent_count-n.ensures) in
    rw (c.write.ensures.frames_after, length-take-le n a.frames.now within, ← c.lent_count-n.ensures)
    (filled-part n (records_write a.message a.payload.now) a.frames.now within)
