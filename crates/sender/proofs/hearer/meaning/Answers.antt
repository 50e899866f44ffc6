-- Carried by what the reader answers: a payload always fits the 256 bytes, so a refusal is one of the bytes themselves.
use mathlib.Core.Path.{sym}
use lib.Seq.{length-take-le}
use Rattle.link_rules.proofs.Reading.{unreadable, readable}
use Rattle.sender_rules.specs.Hearing.{meaning}
use Rattle.sender.proofs.hearer.meaning.Goals as goal

pub returns-in_default : goal.returns-in_default
unfolding meaning
returns-in_default c =
    let e = c.read.ensures in
    rw (unreadable _ _ _ _ e.result_value e.out_after _ c.in_default.is)

pub slice_bounds-payload-end : goal.slice_bounds-payload-end
slice_bounds-payload-end c =
    let e = c.read.ensures in
    (readable _ _ _ _ e.result_value e.out_after _ _ c.in-Ok.is).1

pub slice_bounds-message_meaning-end : goal.slice_bounds-message_meaning-end
slice_bounds-message_meaning-end c =
    let e = c.read.ensures in
    sym (length-take-le _ _ (readable _ _ _ _ e.result_value e.out_after _ _ c.in-Ok.is).1)

pub returns : goal.returns
returns c =
    let e = c.read.ensures in
    rw (readable _ _ _ _ e.result_value e.out_after _ _ c.in-Ok.is).0 c.message_meaning.ensures
