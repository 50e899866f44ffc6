-- Carried by the law of one text after another.
use Rattle.std.proofs.Common.{◌++◌}
use Rattle.text_rules.specs.Numbers.{decimal}
use Rattle.listing_rules.specs.Lines.{text, name_text, field_text, spaced, line_text}
use Rattle.listing_writer.proofs.Parts.{puts_more}
use Rattle.listing_writer.proofs.line.put_line.Goals as goal

pub returns : goal.returns
unfolding line_text
returns c =
    let l = c.args.line in
    let name = spaced (name_text l.name) in
    let id = spaced (field_text l.id) in
    let len = spaced (field_text l.len) in
    let code = spaced (field_text l.code) in
    let to_name = puts_more (decimal l.at) name c.put_decimal.ensures c.put_name.ensures in
    let to_id = puts_more (decimal l.at ++ name) id to_name c.put_field.ensures in
    let to_len = puts_more (decimal l.at ++ name ++ id) len to_id c.put_field-2.ensures in
    let to_code = puts_more (decimal l.at ++ name ++ id ++ len) code to_len c.put_field-3.ensures in
    puts_more (decimal l.at ++ name ++ id ++ len ++ code) (text "\n") to_code c.put_byte.ensures
