-- Carried by the bound on a listing's length: a refusal can't occur.
use Rattle.std.proofs.Common.{◌≡◌, refl, sym, ◌≤◌, length, take, List, ℕ, arith, rules}
use Rattle.std.specs.Prelude.{Result, Ok, Err, IsOk}
use lib.ListN.{length-append}
use lib.Seq.{take-append_seam}
use Rattle.message_rules.specs.Answer.{write_result, written, within, counted, output_after}
use Rattle.message_rules.specs.declared.Refusal.{Refusal}
use Rattle.message_rules.proofs.Answers.{put_refused, put-length}
use Rattle.listing_rules.proofs.Bound.{listing-longest}
use Rattle.listing_rules.specs.Listing.{listing}
use Rattle.frames.proofs.stream.listed.Goals as goal

-- What fits is not refused.
fits_ok : (text out left : List ℕ) (r : Result ℕ Refusal) → write_result r ≡ counted (within out (written text)) → left ≡ output_after (within out (written text)) out
    → length text ≤ length out → IsOk r
fits_ok text out left (Ok n) says is room = search rules
fits_ok text out left (Err f) says is room = absurd (omega (arith, (put_refused text out left _ says is f refl).0))

pub unwrap-requires : goal.unwrap-requires
unwrap-requires c =
    let l = c.list in
    fits_ok (listing c.args.bytes.now) c.args.out.now _ l.result l.ensures.result_value l.ensures.out_after (omega (arith, listing-longest c.args.bytes.now, c.requires))

pub returns : goal.returns
returns c =
    let text = listing c.args.bytes.now in
    let l = c.list in
    let a = put-length text c.args.out.now _ l.result l.ensures.result_value l.ensures.out_after _ c.unwrap.ensures in
    let whole : take c.unwrap.result l.new.out ≡ text = rw (a.2, a.1, take-append_seam) in
    record { prefix_len = (rw (a.2, length-append) (omega (arith, a.1)), rw whole a.1); out_after = whole }
