-- Carried by a series' length, and by what then lies at the start of the output.
use lib.Seq.{length-take-le}
use Rattle.message_rules.specs.Kinds.{type_number}
use Rattle.can_rules.specs.Can.{series_type, frames_after}
use Rattle.can_rules.proofs.Lengths.{message-length}
use Rattle.can_writer.proofs.Writing.{refused_short, given-filled}
use Rattle.can_writer.proofs.writer.write_series.Goals as goal

pub returns-then-out-size : goal.returns-then-out-size
returns-then-out-size c =
    let a = c.args in
    let says = refused_short _ _ _ (message-length (series_type (type_number a.message.kind)) a.message a.payload.now) c.if-out-size.true in
    record { result_value = says.0; out_after = says.1 }

pub fill_series-requires : goal.fill_series-requires
unfolding frames_after
fill_series-requires c = (c.requires, length-take-le _ c.args.out.now c.if-out-size.false)

pub returns : goal.returns
returns c =
    let a = c.args in
    let filled = rw (c.identifier.ensures, c.series_type-number.ensures, c.type_number.ensures) at c.fill_series.ensures in
    let says = given-filled _ _ _ (message-length (series_type (type_number a.message.kind)) a.message a.payload.now) _ c.if-out-size.false filled in
    record { result_value = says.0; out_after = says.1 }
