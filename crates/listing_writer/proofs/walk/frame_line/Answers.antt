-- Carried by the scan's way to stop, and for a complete frame by what stands between its ESC and its end.
use mathlib.Core.Path.{ap, ◌∙◌}
use lib.ListN.{drop}
use Rattle.listing_rules.specs.Lines.{line}
use Rattle.listing_rules.proofs.Frames.{said_broken, said_cut, said-ended}
use Rattle.listing_writer.proofs.walk.frame_line.Goals as goal

pub returns-in-Broken : goal.returns-in-Broken
returns-in-Broken c =
    let a = c.args in
    c.refused_line.ensures ∙ ap (line a.start) (said_broken a.stop (drop a.start a.bytes.now) c.requires.stop_value c.in-Broken.is)

pub returns-in-Cut : goal.returns-in-Cut
returns-in-Cut c =
    let a = c.args in
    c.refused_line-in-Cut.ensures ∙ ap (line a.start) (said_cut a.stop (drop a.start a.bytes.now) c.requires.stop_value c.in-Cut.is)

pub returns-in-Ended : goal.returns-in-Ended
returns-in-Ended c =
    let a = c.args in
    c.read_line.ensures ∙ ap (line a.start) (said-ended a.stop (drop a.start a.bytes.now) c.requires.stop_value c.in-Ended.is a.start a.end c.requires.end_value.0)
