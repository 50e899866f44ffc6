-- Carried by the count that comes first: each return rewrites with what it came to.
use Prim.Native.Nat.{◌<◌, ◌≤◌}
use mathlib.Core.Path.{refl, ap}
use lib.ListN.{length}
use Rattle.message_rules.proofs.Answers.{too_short, long_enough}
use Rattle.message_rules.proofs.Stores.{sets-start}
use Rattle.message_rules.specs.Answer.{given, counted, output_after, write_result}
use Rattle.listing_rules.specs.Listing.{listing}
use Rattle.listing_rules.proofs.Limit.{listed_past}
use Rattle.listing_writer.proofs.walk.list.Goals as goal

pub returns-then-bytes-gt-LONGEST_INPUT : goal.returns-then-bytes-gt-LONGEST_INPUT
returns-then-bytes-gt-LONGEST_INPUT c = rw (listed_past _ c.if-bytes-gt-LONGEST_INPUT.true) c.put.ensures

pub returns-then-out-put_listing : goal.returns-then-out-put_listing
unfolding counted output_after write_result
returns-then-out-put_listing c =
    let a = c.args in
    let short : length a.out.now < length (listing a.bytes.now) = rw c.put_listing.ensures.value at c.if-out-put_listing.true in
    rw (too_short a.out.now (tt {0}) _ short) record { result_value = refl; out_after = refl }

pub returns : goal.returns
unfolding counted output_after write_result
returns c =
    let a = c.args in
    let w = c.put_listing-2.ensures in
    let fits : length (listing a.bytes.now) ≤ length a.out.now = rw c.put_listing.ensures.value at c.if-out-put_listing.false in
    rw (long_enough a.out.now (tt {0}) _ fits)
    record { result_value = ap (given (tt {0})) w.value; out_after = rw w.out_after (sets-start (listing a.bytes.now) a.out.now fits) }
