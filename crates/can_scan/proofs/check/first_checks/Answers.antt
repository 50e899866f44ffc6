-- Carried by the place of the count, in the frame and in its data.
use lib.Seq.{get_or-drop}
use Rattle.can_rules.specs.Can.{first_checks}
use Rattle.can_scan.proofs.check.first_checks.Goals as goal

pub returns : goal.returns
unfolding first_checks
returns c = rw (c.frame_checks.ensures.value, c.first_fits.ensures.value, get_or-drop 5 c.args.frame.now 7 0)
