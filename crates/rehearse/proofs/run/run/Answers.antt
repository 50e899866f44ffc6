-- Carried by the rounds made so far: each turn makes one more.
use Rattle.std.proofs.Common.{refl, sym, ◌∙◌}
use Rattle.rehearse.proofs.Rounds.{none_made, one_more_lem, over-refused, over-ended, over_bound}
use Rattle.rehearse.proofs.run.run.Goals as goal

pub loop-count-init : goal.loop-count-init
loop-count-init g c = none_made _ _ _ _ _

pub returns-then-not-runs-clause-result_value : goal.returns-then-not-runs-clause-result_value
returns-then-not-runs-clause-result_value g c = rw c.ended.ensures (over-ended _ _ _ (sym c.runs.ensures ∙ c.if-not-runs.true))

pub returns-in-Err : goal.returns-in-Err
returns-in-Err g c =
    let e = c.round-rounded.ensures in
    rw c.ended-in-Err.ensures (record {
      leaves = one_more_lem _ _ _ _ _ _ _ _ _ (sym c.runs.ensures ∙ c.if-not-runs.false) c.loop-count.invariant _ _ _ _
          (rw (c.round.ensures, c.in-Err.is) at e.verdict_value)
          (rw c.round.ensures at e.device_value)
          (rw c.round.ensures at e.sender_value)
          (rw c.round.ensures at e.store_after);
      result_value = over-refused _ _ refl;
    })

pub loop-count-preserved : goal.loop-count-preserved
loop-count-preserved g c =
    let e = c.round-rounded.ensures in
    one_more_lem _ _ _ _ _ _ _ _ _ (sym c.runs.ensures ∙ c.if-not-runs.false) c.loop-count.invariant _ _ _ _
    (rw (c.round.ensures, c.in_default.is) at e.verdict_value)
    (rw c.round.ensures at e.device_value)
    (rw c.round.ensures at e.sender_value)
    (rw c.round.ensures at e.store_after)

pub returns-clause-result_value : goal.returns-clause-result_value
returns-clause-result_value g c = rw c.ended-2.ensures (over_bound _ _ _ refl)
