-- Carried by the laws of a copy: before a turn the output holds the first i bytes over what was there.
use Prim.Native.Nat.{◌≤◌}
use mathlib.Core.Path.{refl, ◌∙◌}
use native.Mathlib.Omega.{arith}
use lib.ListN.{length}
use Rattle.message_rules.specs.Answer.{write_result, counted, output_after}
use Rattle.message_rules.proofs.Answers.{long_enough, copy_step, copy_done}
use Rattle.message_output.proofs.put.Goals as goal

pub loop-i-preserved : goal.loop-i-preserved
loop-i-preserved c =
    let a = c.args in
    let l = c.loop-i in
    rw l.invariant (copy_step a.bytes.now a.out.now l.i (omega arith) (omega arith))

pub returns : goal.returns
unfolding write_result counted output_after
returns c =
    let l = c.loop-i in
    let fits : length c.args.bytes.now ≤ length c.args.out.now = omega arith in
    rw (long_enough _ _ _ fits)
    record { result_value = refl; out_after = l.invariant ∙ copy_done _ _ l.i (omega arith) }
