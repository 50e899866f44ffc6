-- Carried by the unit's side of the exchange: what it left is heard, or nothing where it is silent, or it is refused.
use Rattle.std.proofs.Common.{rules, ◌≡◌, None, Ok, Some}
use Rattle.upload_round.proofs.exchange.sent.Goals as goal

pub returns-in-Ok-Some : goal.returns-in-Ok-Some
returns-in-Ok-Some c =
    let answered : c.arrivals-received.result.outcome ≡ Ok (Some c.in-Ok-Some.n) = search rules in
    let arrived = c.arrivals-received.ensures in
    arrived.heard _ answered _ _ _ c.heard.ensures

pub returns-in-Ok-None : goal.returns-in-Ok-None
returns-in-Ok-None c =
    let silent : c.arrivals-received.result.outcome ≡ Ok None = search rules in
    let arrived = c.arrivals-received.ensures in
    arrived.silent silent _ _ _ c.heard-in-Ok-None.ensures

pub returns-in-Err : goal.returns-in-Err
returns-in-Err c =
    let arrived = c.arrivals-received.ensures in
    arrived.refused _ c.in-Err.is _ _ _ c.stopped.ensures
