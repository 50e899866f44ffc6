-- Carried by the four fates, and where the request arrives twice by the first arrival: where it is refused nothing follows, and else the second decides.
use Rattle.std.proofs.Common.{rules, ◌≡◌, Ok, Err, None, MatchResult, refl, sym, ◌∙◌}
use Rattle.upload_round.proofs.Made.{none-arrived, delivered-arrived, unheard-arrived, twice-arrived, refused-arrived}
use Rattle.upload_round.proofs.Results.{refused-err, unheard-left}
use Rattle.upload_round.proofs.exchange.arrivals.Goals as goal

pub returns-in-Delivered : goal.returns-in-Delivered
returns-in-Delivered c =
    let e = c.receive.ensures in
    rw c.in-Delivered.is (delivered-arrived _ _ _ _ _ _ c.requires e.device_value e.device_value_2 e.out_after)

pub returns-in-RequestLost : goal.returns-in-RequestLost
returns-in-RequestLost c = rw c.in-RequestLost.is (none-arrived _ _ _ _)

pub returns-in-AnswerLost : goal.returns-in-AnswerLost
returns-in-AnswerLost c =
    let e = c.receive-received.ensures in
    let lost : MatchResult c.receive-received.result.outcome (λ a. c.map.result ≡ Ok None) (λ f. c.map.result ≡ Err f) = search rules in
    rw c.in-AnswerLost.is (unheard-arrived _ _ _ _ _ _ c.requires e.device_value e.device_value_2 e.out_after _ _ refl (unheard-left _ _ lost))

pub returns-then-is_err : goal.returns-then-is_err
returns-then-is_err c =
    let e = c.receive-first.ensures in
    rw c.in-Twice.is (refused-arrived _ _ _ _ _ _ c.requires e.device_value e.device_value_2 e.out_after (refused-err _ ∙ sym c.is_err.ensures.value ∙ c.if-is_err.true))

pub returns-else-is_err : goal.returns-else-is_err
returns-else-is_err c =
    let e = c.receive-first.ensures in
    let f = c.receive-in-Twice.ensures in
    let next = delivered-arrived _ _ _ _ _ _ (c.receive-first.auto.out ∙ c.requires) f.device_value f.device_value_2 f.out_after in
    rw c.in-Twice.is (twice-arrived _ _ _ _ _ _ c.requires e.device_value e.device_value_2 e.out_after (refused-err _ ∙ sym c.is_err.ensures.value ∙ c.if-is_err.false) _ _ next)
