-- Carried by what the scan of the frames tells, then by the checks of the message that they make up, and at last by the room in the output.
use mathlib.Core.Path.{refl, sym, ◌∙◌}
use native.Mathlib.Omega.{arith}
use lib.Seq.{length-take-le}
use Rattle.std.proofs.lemmas.Result.{err_from_is_err_and}
use Rattle.message_rules.specs.Answer.{read_result, within, counted, output_after}
use Rattle.can_rules.specs.Can.{can_read}
use Rattle.can_scan.specs.Measured.{frames_result}
use Rattle.can_reader.proofs.Reading.{frames-refused, whole_long, whole_trailing, whole-refused, whole-given, within_short, within_long, read-frames, read-output}
use Rattle.can_reader.proofs.reader.read.Goals as goal

pub returns-in_err-rest : goal.returns-in_err-rest
unfolding read_result within counted output_after frames_result
returns-in_err-rest c =
    let p = err_from_is_err_and c.from_residual.result c.from_residual.ensures.1 in
    rw (p.1, p.2, frames-refused c.args.bytes.now _ (sym c.in_err-rest.ensures)) record { result_value = refl; out_after = refl }

pub returns-then-rest-gt0 : goal.returns-then-rest-gt0
unfolding read_result within counted output_after frames_result
returns-then-rest-gt0 c = rw (whole_trailing c.args.bytes.now _ _ (sym c.in_ok-rest.ensures) c.if-rest-gt0.true) record { result_value = refl; out_after = refl }

pub can_message-message-requires : goal.can_message-message-requires
unfolding frames_result
can_message-message-requires c = omega (arith, whole_long c.args.bytes.now _ _ (sym c.in_ok-rest.ensures))

pub bounds-bytes-3 : goal.bounds-bytes-3
unfolding frames_result
bounds-bytes-3 c = omega (arith, whole_long c.args.bytes.now _ _ (sym c.in_ok-rest.ensures))

pub returns-in_err-check_message : goal.returns-in_err-check_message
unfolding read_result within counted output_after frames_result
returns-in_err-check_message c =
    let p = err_from_is_err_and c.from_residual-in_err-check_message.result c.from_residual-in_err-check_message.ensures.1 in
    rw (p.1, p.2, whole-refused c.args.bytes.now _ _ (sym c.in_ok-rest.ensures) c.if-rest-gt0.false _ c.can_message-message.ensures _ c.check_message.ensures _ c.in_err-check_message.was)
    record { result_value = refl; out_after = refl }

pub returns-then-out-size : goal.returns-then-out-size
unfolding read_result counted output_after frames_result
returns-then-out-size c =
    let g = whole-given c.args.bytes.now _ _ (sym c.in_ok-rest.ensures) c.if-rest-gt0.false _ c.can_message-message.ensures _ c.check_message.ensures c.in_ok-check_message.was in
    rw (within_short (can_read c.args.bytes.now) _ _ c.args.out.now g c.if-out-size.true) record { result_value = refl; out_after = refl }

pub copy_payload-requires : goal.copy_payload-requires
unfolding frames_result
copy_payload-requires c =
    let g = whole-given c.args.bytes.now _ _ (sym c.in_ok-rest.ensures) c.if-rest-gt0.false _ c.can_message-message.ensures _ c.check_message.ensures c.in_ok-check_message.was in
    rw (length-take-le _ c.args.out.now c.if-out-size.false) (read-frames _ _ _ g)

pub returns : goal.returns
unfolding read_result frames_result counted output_after
returns c =
    let g = whole-given c.args.bytes.now _ _ (sym c.in_ok-rest.ensures) c.if-rest-gt0.false _ c.can_message-message.ensures _ c.check_message.ensures c.in_ok-check_message.was in
    let size = c.copy_payload.auto.out ∙ length-take-le _ c.args.out.now c.if-out-size.false in
    rw (within_long (can_read c.args.bytes.now) _ _ c.args.out.now g c.if-out-size.false)
    record { result_value = sym g; out_after = rw (read-output _ _ _ g _ c.copy_payload.ensures, size) }
