-- Carried by the laws of a later frame: what all frames come to is what those left come to, after what was added up.
use mathlib.Core.Path.{◌≡◌, sym}
use native.Mathlib.Omega.{arith}
use lib.ListN.{length-drop}
use Rattle.std.proofs.lemmas.Result.{err_from_is_err_and}
use Rattle.message_rules.specs.Answer.{verdict_result}
use Rattle.message_rules.proofs.Parts.{part-from}
use Rattle.can_scan.specs.Measured.{frames_result}
use Rattle.can_scan.proofs.Scanning.{ahead_first, ahead_cut, ahead_failed, ahead-dlc, ahead_passed, ahead_done}
use Rattle.can_scan.proofs.scanner.scan_series.Goals as goal

pub loop-left-init : goal.loop-left-init
loop-left-init c = rw part-from record { within = rw length-drop (omega arith); ahead = ahead_first c.args.bytes.now c.requires.0 c.requires.1 c.requires.2 }

pub returns-in_default : goal.returns-in_default
unfolding frames_result
returns-in_default c =
    let l = c.loop-left in
    sym (ahead_cut _ _ _ l.left c.loop-left-test.true l.invariant.ahead c.in_default.ensures.cases)

pub returns-in_err-later_checks : goal.returns-in_err-later_checks
unfolding frames_result verdict_result
returns-in_err-later_checks c =
    let l = c.loop-left in
    let p = err_from_is_err_and c.from_residual.result c.from_residual.ensures.1 in
    rw (p.1, p.2) (sym (ahead_failed _ _ _ l.left c.loop-left-test.true l.invariant.ahead _ _ c.in-Some.ensures.cases _ (sym c.in_err-later_checks.ensures)))

pub overflow_sub-size : goal.overflow_sub-size
unfolding verdict_result
overflow_sub-size c =
    let l = c.loop-left in
    (ahead-dlc _ _ _ l.left c.loop-left-test.true l.invariant.ahead _ _ c.in-Some.ensures.cases (sym c.in_ok-later_checks.ensures)).0

pub loop-left-preserved : goal.loop-left-preserved
unfolding verdict_result
loop-left-preserved c =
    let l = c.loop-left in
    let d = ahead-dlc _ _ _ l.left c.loop-left-test.true l.invariant.ahead _ _ c.in-Some.ensures.cases (sym c.in_ok-later_checks.ensures) in
    record {
      within = omega (arith, d.1, c.in-Some.ensures.cases.2, l.invariant.within);
      ahead = ahead_passed _ _ _ l.left c.loop-left-test.true l.invariant.ahead _ _ c.in-Some.ensures.cases (sym c.in_ok-later_checks.ensures);
    }

pub returns : goal.returns
unfolding frames_result
returns c =
    let l = c.loop-left in
    let none : l.left ≡ 0 = omega arith in
    sym (ahead_done _ _ _ (rw none at l.invariant.ahead))
