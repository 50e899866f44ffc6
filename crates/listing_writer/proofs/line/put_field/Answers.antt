-- Carried by the law of one text after another.
use Rattle.text_rules.specs.Numbers.{decimal}
use Rattle.listing_rules.specs.Lines.{text, field_text, spaced}
use Rattle.listing_writer.proofs.Parts.{has_first, has_second, puts_more}
use Rattle.listing_writer.proofs.line.put_field.Goals as goal

pub put_byte-requires : goal.put_byte-requires
unfolding spaced
put_byte-requires c = has_first (text " ") (field_text c.args.field) c.requires

pub put_decimal-requires : goal.put_decimal-requires
unfolding spaced
put_decimal-requires c = has_second (text " ") (decimal c.in-Some.n) (rw c.in-Some.is at c.requires) c.put_byte.ensures

pub put_byte-requires-in-None : goal.put_byte-requires-in-None
unfolding spaced
put_byte-requires-in-None c = has_second (text " ") (text "-") (rw c.in-None.is at c.requires) c.put_byte.ensures

pub returns-in-Some : goal.returns-in-Some
unfolding spaced
returns-in-Some c = rw c.in-Some.is (puts_more (text " ") (decimal c.in-Some.n) c.put_byte.ensures c.put_decimal.ensures)

pub returns-in-None : goal.returns-in-None
unfolding spaced
returns-in-None c = rw c.in-None.is (puts_more (text " ") (text "-") c.put_byte.ensures c.put_byte-in-None.ensures)
