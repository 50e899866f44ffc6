-- Carried by the form in the array, which always fits, and by the law of one record more.
use mathlib.Core.Path.{refl, sym, ap, ◌∙◌}
use Prim.Native.Nat.{◌<◌}
use native.Mathlib.Omega.{arith}
use lib.ListN.{length}
use lib.Seq.{length-take-le}
use Rattle.std.proofs.lemmas.Result.{err_from_is_err_and}
use Rattle.std.specs.Iterator.Adapters.{enumerate_source, enumerate_count}
use Rattle.std.specs.Slice.Iter.{chunks_exact_rest, chunks_exact_size}
use Rattle.message_rules.specs.Answer.{write_result}
use Rattle.message_rules.proofs.Answers.{counted-refused}
use Rattle.can_rules.specs.Records.{records_of, records_counted, fitting, filled}
use Rattle.can_rules.proofs.Records.{records-length}
use Rattle.can_records.proofs.Filling.{form_fits, form_refused, form_given, form_most, few_records, enough_records, going_inside, going_more, going_end}
use Rattle.can_records.proofs.write.Goals as goal

pub returns-in_err-size : goal.returns-in_err-size
unfolding write_result records_counted fitting filled
returns-in_err-size c =
    let a = c.args in
    let p = err_from_is_err_and c.from_residual.result c.from_residual.ensures.1 in
    let form = sym (form_fits a.message a.payload.now) ∙ counted-refused _ _ (sym c.in_err-size.ensures.result_value) in
    rw (p.1, p.2, form_refused a.message a.payload.now _ form) record { result_value = refl; frames_after = refl; at_most = tt }

pub returns-then-frames-count : goal.returns-then-frames-count
unfolding write_result records_counted filled
returns-then-frames-count c =
    let a = c.args in
    let e = c.in_ok-size.ensures in
    rw (few_records a.message a.payload.now _ _ e.result_value e.out_after _ c.if-frames-count.true) record { result_value = refl; frames_after = refl; at_most = tt }

pub slice_bounds-bytes-end : goal.slice_bounds-bytes-end
unfolding write_result
slice_bounds-bytes-end c =
    let a = c.args in
    let e = c.in_ok-size.ensures in
    (form_given a.message a.payload.now _ _ e.result_value e.out_after).1

pub slice_bounds-chunks_exact-end : goal.slice_bounds-chunks_exact-end
unfolding write_result
slice_bounds-chunks_exact-end c =
    let a = c.args in
    let e = c.in_ok-size.ensures in
    sym (length-take-le _ _ (form_given a.message a.payload.now _ _ e.result_value e.out_after).1)

pub loop-i-init : goal.loop-i-init
unfolding records_of
loop-i-init c =
    let i = c.into_iter-i-iterator.ensures.into_iter_gives in
    let source = ap enumerate_source i ∙ c.enumerate-i-items.ensures.source in
    let zero = ap enumerate_count i ∙ c.enumerate-i-items.ensures.count in
    record { size = ap chunks_exact_size source ∙ c.chunks_exact.ensures.size; going = rw zero record { rest = refl; inside = omega arith; filled = refl } }

pub loop-i-preserved : goal.loop-i-preserved
unfolding write_result
loop-i-preserved c =
    let a = c.args in
    let l = c.loop-i in
    let e = c.in_ok-size.ensures in
    let step = c.in-Some.ensures.steps in
    let going = rw step.0.1.0 at l.invariant.going in
    let long = step.0.1.1 ∙ l.invariant.size in
    let first = ap chunks_exact_rest (ap enumerate_source c.into_iter-i-iterator.ensures.into_iter_gives ∙ c.enumerate-i-items.ensures.source) ∙ c.chunks_exact.ensures.rest in
    let size = ap length first ∙ length-take-le _ _ (form_given a.message a.payload.now _ _ e.result_value e.out_after).1 in
    let few : enumerate_count l.i-iterator < length a.frames.now = omega (arith, size, going_inside _ _ _ _ _ _ going long, c.if-frames-count.false) in
    record { size = step.0.0 ∙ l.invariant.size; going = rw (step.1, step.2) (going_more _ _ _ _ _ _ going long few _ c.record_of.ensures) }

pub returns : goal.returns
unfolding write_result records_counted filled
returns c =
    let a = c.args in
    let l = c.loop-i in
    let e = c.in_ok-size.ensures in
    let bytes = form_given a.message a.payload.now _ _ e.result_value e.out_after in
    let first = ap chunks_exact_rest (ap enumerate_source c.into_iter-i-iterator.ensures.into_iter_gives ∙ c.enumerate-i-items.ensures.source) ∙ c.chunks_exact.ensures.rest in
    let done = going_end _ _ _ _ _ _ _ l.invariant.going (omega (arith, c.in-None.ensures.steps.0.1.0, l.invariant.size)) first (length-take-le _ _ bytes.1) in
    rw (enough_records a.message a.payload.now _ _ e.result_value e.out_after _ c.if-frames-count.false, records-length) record { result_value = refl; frames_after = done; at_most = form_most a.message a.payload.now _ _ e.result_value e.out_after }
