-- Carried by the checks of a frame at any place: a number decides, and else its identifier and its count do.
use mathlib.Core.Path.{sym}
use borrow.Author.Tests.{eq-eqb, ne_eqb}
use Rattle.std.proofs.lemmas.Result.{err_from_is_err_and}
use Rattle.message_rules.specs.Answer.{verdict_result, require}
use Rattle.can_scan.proofs.Checks.{differ_told, later_failed, later_rest}
use Rattle.can_scan.proofs.check.later_checks.Goals as goal
use Rattle.can_scan.proofs.check.later_checks.Goals.{then-ne-via-then-ne, then-ne-via-else-ne+then-count-left}

pub returns-in_err-frame_checks : goal.returns-in_err-frame_checks
unfolding verdict_result
returns-in_err-frame_checks c =
    let a = c.args in
    let p = err_from_is_err_and c.from_residual.result c.from_residual.ensures.1 in
    rw (p.1, p.2)
    (sym (later_failed a.identifier.now a.left a.frame.now _ c.later_fits-fits.ensures.value _ (sym c.in_err-frame_checks.ensures.value)))

pub returns-then-ne : goal.returns-then-ne
unfolding verdict_result require
returns-then-ne c =
    let a = c.args in
    let ok = c.in_ok-frame_checks.ensures in
    let rest = later_rest a.identifier.now a.left a.frame.now _ c.later_fits-fits.ensures.value ok.passes (sym ok.value) in
    elim c.then-ne.branch [
      | then-ne-via-then-ne w ↦ rw (rest, differ_told _ _ _ c.ne.ensures, w.if-ne.true)
      | then-ne-via-else-ne+then-count-left w ↦ rw (rest, differ_told _ _ _ c.ne.ensures, w.if-ne.false, ne_eqb _ _ w.if-count-left.true)
    ]

pub returns : goal.returns
unfolding verdict_result require
returns c =
    let a = c.args in
    let ok = c.in_ok-frame_checks.ensures in
    let rest = later_rest a.identifier.now a.left a.frame.now _ c.later_fits-fits.ensures.value ok.passes (sym ok.value) in
    rw (rest, differ_told _ _ _ c.ne.ensures, c.if-ne.false, eq-eqb _ _ c.if-count-left.false)
