-- Carried by the law that 256 bytes have room for every payload, so that the reader never answers 8.
use mathlib.Core.Path.{ap, ◌∙◌}
use native.Mathlib.Nat.{le_refl}
use Rattle.message_rules.specs.Answer.{read_result}
use Rattle.listing_rules.specs.Lines.{line}
use Rattle.listing_rules.proofs.Reading.{counted-most, counted-whole}
use Rattle.listing_writer.proofs.line.read_line.Goals as goal

pub message_line-requires : goal.message_line-requires
unfolding read_result
message_line-requires c =
    let entry = c.args in
    let whole = counted-whole entry.frame.now _ c.read.result (le_refl 256) c.read.ensures.result_value in
    counted-most entry.frame.now _ _ (rw c.in-Ok.is at whole)

pub returns-in-Err : goal.returns-in-Err
unfolding read_result
returns-in-Err c =
    let entry = c.args in
    let whole = counted-whole entry.frame.now _ c.read.result (le_refl 256) c.read.ensures.result_value in
    c.refused_line.ensures ∙ ap (line entry.at) (rw c.in-Err.is at whole)

pub returns-in-Ok : goal.returns-in-Ok
unfolding read_result
returns-in-Ok c =
    let entry = c.args in
    let whole = counted-whole entry.frame.now _ c.read.result (le_refl 256) c.read.ensures.result_value in
    c.message_line.ensures ∙ ap (line entry.at) (rw c.in-Ok.is at whole)
