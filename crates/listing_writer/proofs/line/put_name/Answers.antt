-- Carried by the law of one text after another.
use Rattle.listing_rules.specs.Lines.{text, name_text, spaced}
use Rattle.listing_writer.proofs.Parts.{has_first, has_second, puts_more}
use Rattle.listing_writer.proofs.line.put_name.Goals as goal

pub put_byte-requires : goal.put_byte-requires
unfolding spaced
put_byte-requires c = has_first (text " ") (name_text c.args.name) c.requires

pub put-requires : goal.put-requires
unfolding spaced
put-requires c = rw c.name_word.ensures (has_second (text " ") (name_text c.args.name) c.requires c.put_byte.ensures)

pub returns : goal.returns
unfolding spaced
returns c = puts_more (text " ") (name_text c.args.name) c.put_byte.ensures (rw c.name_word.ensures at c.put.ensures)
