-- Carried by the checks of the first frame, and by its type: a single frame is known whole, a series goes on.
use mathlib.Core.Path.{sym}
use native.Mathlib.Omega.{arith}
use lib.ListN.{length-drop}
use lib.Seq.{get_or-take}
use Rattle.std.proofs.lemmas.Result.{err_from_is_err_and}
use Rattle.message_rules.specs.Answer.{verdict_result}
use Rattle.can_scan.specs.Measured.{frames_result}
use Rattle.can_scan.proofs.Scanning.{first_cut, first-failed, single_measured}
use Rattle.can_scan.proofs.scanner.scan.Goals as goal

pub returns-in_default : goal.returns-in_default
unfolding frames_result
returns-in_default c = sym (first_cut c.args.bytes.now c.in_default.ensures.cases)

pub returns-in_err-first_checks : goal.returns-in_err-first_checks
unfolding frames_result verdict_result
returns-in_err-first_checks c =
    let p = err_from_is_err_and c.from_residual.result c.from_residual.ensures.1 in
    let first = c.in-Some.ensures.cases in
    rw (p.1, p.2) (sym (first-failed c.args.bytes.now _ (omega (arith, first.2)) (rw first.0 at (sym c.in_err-first_checks.ensures))))

pub returns-then-first-lt-FIRST_SERIES : goal.returns-then-first-lt-FIRST_SERIES
unfolding frames_result verdict_result
returns-then-first-lt-FIRST_SERIES c =
    let b = c.args.bytes.now in
    let first = c.in-Some.ensures.cases in
    let t = rw (first.0, get_or-take 13 b 3 0 (omega arith)) at c.if-first-lt-FIRST_SERIES.true in
    rw (first.0, first.1, get_or-take 13 b 4 0 (omega arith), length-drop) (sym (single_measured b (omega (arith, first.2)) (rw first.0 at (sym c.in_ok-first_checks.ensures)) t))

pub scan_series-requires : goal.scan_series-requires
unfolding verdict_result
scan_series-requires c =
    let first = c.in-Some.ensures.cases in
    (omega (arith, first.2), rw first.0 at (sym c.in_ok-first_checks.ensures), rw (first.0, get_or-take 13 c.args.bytes.now 3 0 (omega arith)) at c.if-first-lt-FIRST_SERIES.false)
