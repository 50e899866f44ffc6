-- Carried by the laws of a frame's parts.
use Prim.Native.Nat.{◌+◌, ◌<◌, ◌≤◌}
use mathlib.Core.List.{◌++◌}
use mathlib.Core.Path.{◌≡◌, refl, ap}
use native.Mathlib.Omega.{arith}
use lib.ListN.{length}
use Rattle.message_rules.specs.Answer.{given, counted, output_after, write_result}
use Rattle.message_rules.proofs.Answers.{too_short, long_enough}
use Rattle.message_rules.proofs.Stores.{sets-start}
use Rattle.serial_rules.proofs.Doubling.{doubled-most}
use Rattle.serial_writer.specs.Framed.{framed}
use Rattle.serial_writer.proofs.Framed.{framed-length, framed_stored}
use Rattle.serial_writer.proofs.writer.put_frame.Goals as goal

pub overflow_add-size : goal.overflow_add-size
overflow_add-size c = omega (arith, doubled-most c.args.front.now)

pub overflow_add-size-2 : goal.overflow_add-size-2
overflow_add-size-2 c = omega (arith, doubled-most c.args.front.now, doubled-most c.args.payload.now)

pub returns-then-out-size : goal.returns-then-out-size
unfolding write_result counted output_after
returns-then-out-size c =
    let a = c.args in
    let short : length a.out.now < length (framed a.start (a.front.now ++ a.payload.now)) = omega (arith, framed-length a.start a.front.now a.payload.now) in
    rw (too_short _ _ _ short) record { result_value = refl; out_after = refl }

pub returns : goal.returns
unfolding write_result counted output_after
returns c =
    let a = c.args in
    let frame = framed a.start (a.front.now ++ a.payload.now) in
    let size : 4 + c.doubled_length.result + c.doubled_length-2.result ≡ length frame = omega (arith, framed-length a.start a.front.now a.payload.now) in
    let fits : length frame ≤ length a.out.now = omega arith in
    let s = framed_stored a.start a.front.now a.payload.now a.out.now _ _ _ _ (rw c.escape.ensures at c.double-data.ensures) c.double-end.ensures in
    rw (long_enough _ (tt {0}) _ fits, c.escape-2.ensures, c.tail.ensures)
    record { result_value = ap (given (tt {0})) size; out_after = rw s.2 (sets-start frame a.out.now fits) }
