-- Carried by what the writer answers, in each of its cases.
use Rattle.std.proofs.Common.{rules, ◌≡◌, Ok, Err, Some}
use Rattle.std.specs.Result.{MatchResult}
use Rattle.device.proofs.Replies.{sent_gives}
use Rattle.device.proofs.receiver.send.Goals as goal

pub returns : goal.returns
returns c =
    let cases : MatchResult c.write.result (λ n. c.map.result ≡ Ok (Some n)) (λ e. c.map.result ≡ Err e) = search rules in
    sent_gives _ _ _ _ _ _ c.write.ensures.result_value c.write.ensures.out_after cases
