-- Carried by the law that the digits of a number are those of its tenth with one more after them.
use Rattle.std.proofs.Common.{arith}
use Rattle.listing_writer.proofs.Parts.{has_first, has_second, puts_more, last_digit, more_digits}
use Rattle.listing_writer.proofs.put.Text.+put_decimal.Goals as goal
use Rattle.listing_writer.proofs.put.Text.+put_decimal.Goals.{then-n-ge10, else-n-ge10}

pub put_decimal-requires : goal.put_decimal-requires
put_decimal-requires t c = (omega arith, has_first _ _ (rw (more_digits _ c.if-n-ge10.true) at c.requires))

pub put_byte-requires : goal.put_byte-requires
put_byte-requires t c =
    elim c.if-n-ge10.branch [
      | then-n-ge10 w ↦ rw w.self-is (has_second _ _ (rw (more_digits _ w.if-n-ge10.true) at c.requires) w.put_decimal.ensures)
      | else-n-ge10 w ↦ rw w.self-is (rw (last_digit _ w.if-n-ge10.false) at c.requires)
    ]

pub returns : goal.returns
returns t c =
    elim c.if-n-ge10.branch [
      | then-n-ge10 w ↦ rw (more_digits _ w.if-n-ge10.true) (puts_more _ _ w.put_decimal.ensures (rw w.self-is at c.put_byte.ensures))
      | else-n-ge10 w ↦ rw (last_digit _ w.if-n-ge10.false, ← w.self-is) c.put_byte.ensures
    ]
