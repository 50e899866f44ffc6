-- `put_decimal` calls itself with a tenth of its number, which is the measure.
use Rattle.listing_writer.proofs.put.Text.+put_decimal.Given as goal

abbrev pub decreases-put_decimal : goal.decreases-put_decimal
decreases-put_decimal l = l.n
