-- Carried by what the sender answers and leaves in the array; one that has ended wrote nothing, and nothing follows.
use mathlib.Core.Path.{refl, sym}
use lib.Seq.{length-take-le}
use Rattle.upload_round.proofs.Made.{requested_ends, requested-ended, requested-stopped}
use Rattle.upload_round.proofs.Results.{nothing-ended, written-runs, wrote, wrote_nothing, not_written}
use Rattle.upload_round.proofs.exchange.requested.Goals as goal

pub slice_bounds-request-end-in-Ok-Some : goal.slice_bounds-request-end-in-Ok-Some
slice_bounds-request-end-in-Ok-Some c =
    let e = c.request.ensures in
    (wrote _ _ _ e.result_value _ e.out_after _ (rw c.in-Ok-Some.field-0-is at c.in-Ok-Some.is)).1

pub slice_bounds-sent-end : goal.slice_bounds-sent-end
slice_bounds-sent-end c =
    let e = c.request.ensures in
    sym (length-take-le _ _ (wrote _ _ _ e.result_value _ e.out_after _ (rw c.in-Ok-Some.field-0-is at c.in-Ok-Some.is)).1)

pub returns-in-Ok-Some : goal.returns-in-Ok-Some
returns-in-Ok-Some c =
    let e = c.request.ensures in
    let g = (wrote _ _ _ e.result_value _ e.out_after _ (rw c.in-Ok-Some.field-0-is at c.in-Ok-Some.is)).0 in
    requested_ends _ _ _ _ _ _ (written-runs _ _ _ g) _ _ g c.sent.ensures

pub returns-in-Ok-None : goal.returns-in-Ok-None
returns-in-Ok-None c =
    let e = c.request.ensures in
    let g = wrote_nothing _ _ _ e.result_value (rw c.in-Ok-None.field-0-is at c.in-Ok-None.is) in
    requested-ended _ _ _ _ _ _ (nothing-ended _ _ _ _ g) _ _ g (refl, refl, refl)

pub returns-in-Err : goal.returns-in-Err
returns-in-Err c =
    let e = c.request.ensures in
    let g = not_written _ _ _ e.result_value _ c.in-Err.is in
    requested-stopped _ _ _ _ _ _ _ g c.stopped.ensures
