-- Carried by the sender's answer call: the next sender, or the one that came beside its refusal.
use Rattle.std.proofs.Common.{rules, ◌≡◌, Ok, Err}
use Rattle.std.specs.Result.{MatchResult}
use Rattle.upload_round.proofs.Results.{heard_lem}
use Rattle.upload_round.proofs.exchange.heard.Goals as goal

pub returns : goal.returns
returns c =
    let verdict : MatchResult c.hear-next.result (λ _. c.map.result ≡ Ok tt) (λ f. c.map.result ≡ Err f) = search rules in
    heard_lem _ _ _ _ _ _ _ c.hear-next.ensures c.unwrap_or.ensures verdict
