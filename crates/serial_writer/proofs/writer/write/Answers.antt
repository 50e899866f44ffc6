-- Carried by what the checks let through: a payload of at most 256 bytes.
use mathlib.Core.Path.{◌≡◌}
use lib.ListN.{length}
use Rattle.message_rules.specs.Answer.{passed, verdict_result}
use Rattle.message_rules.specs.Checks.{write_checks}
use Rattle.message_rules.proofs.Checks.{payload-most}
use Rattle.serial_writer.proofs.writer.write.Goals as goal

pub write_checked-requires : goal.write_checked-requires
unfolding verdict_result
write_checked-requires c =
    let a = c.args in
    let passes : write_checks c.serial_carries.result a.message (length a.payload.now) ≡ passed = rw (← c.check_written.ensures, c.in_ok-check_written.was) in
    payload-most c.serial_carries.result a.message _ passes
