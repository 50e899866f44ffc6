-- Carried by what the checks answer, and by the test for a series, which picks the bytes.
use mathlib.Core.Path.{refl, sym}
use Rattle.std.proofs.lemmas.Result.{err_from_is_err_and}
use Rattle.message_rules.specs.Answer.{verdict_result, write_result, after, within, counted, output_after}
use Rattle.message_rules.proofs.Checks.{payload-most}
use Rattle.can_rules.specs.Can.{can_carries, can_bytes, can_write}
use Rattle.can_rules.proofs.Lengths.{single_most}
use Rattle.can_writer.proofs.writer.write.Goals as goal

pub returns-in_err-check_written : goal.returns-in_err-check_written
unfolding can_write verdict_result after within counted output_after write_result
returns-in_err-check_written c =
    let p = err_from_is_err_and c.from_residual.result c.from_residual.ensures.1 in
    rw (p.1, p.2, ← c.in_err-check_written.ensures) record { result_value = refl; out_after = refl }

pub write_series-requires : goal.write_series-requires
unfolding verdict_result
write_series-requires c = payload-most can_carries c.args.message _ (sym c.in_ok-check_written.ensures)

pub frame-requires : goal.frame-requires
frame-requires c = single_most _ _ (sym c.if-in_series.ensures)

pub returns-then-in_series : goal.returns-then-in_series
unfolding can_write can_bytes verdict_result after
returns-then-in_series c = rw (← c.in_ok-check_written.ensures, ← c.if-in_series.ensures) c.write_series.ensures

pub returns : goal.returns
unfolding can_write can_bytes verdict_result after
returns c =
    let bytes = rw (c.frame.ensures, c.identifier-identifier.ensures, c.type_number.ensures) at c.put.ensures in
    rw (← c.in_ok-check_written.ensures, ← c.if-in_series.ensures) bytes
