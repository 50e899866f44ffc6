-- Carried by the work step, done or not, in front of the request.
use borrow.Author.Tests.{not-true, not-false}
use mathlib.Core.Path.{refl}
use Rattle.round_rules.specs.Rounds.{round_made, round_refusal}
use Rattle.upload_round.proofs.Made.{worked_ends, worked-stopped, round_rest, round-work}
use Rattle.upload_round.proofs.Results.{was_worked, was_stopped}
use Rattle.upload_round.proofs.round.Goals as goal

pub returns-then-not-round : goal.returns-then-not-round
unfolding round_made round_refusal
returns-then-not-round c =
    let k = round_rest _ _ _ _ _ (not-true _ c.if-not-round.true) c.requested.ensures in
    record { verdict_value = k.refusal; device_value = k.device; sender_value = k.sender; store_after = k.store }

pub returns-in-Ok : goal.returns-in-Ok
unfolding round_made round_refusal
returns-in-Ok c =
    let e = c.work.ensures in
    let worked = was_worked c.args.device _ _ e.device_value _ c.in-Ok.is in
    let k = round-work _ _ _ _ _ (not-false _ c.if-not-round.false) (worked_ends _ _ _ _ _ _ _ e.store_after worked.0 _ worked.1 c.requested-in-Ok.ensures) in
    record { verdict_value = k.refusal; device_value = k.device; sender_value = k.sender; store_after = k.store }

pub returns-in-Err : goal.returns-in-Err
unfolding round_made round_refusal
returns-in-Err c =
    let e = c.work.ensures in
    let g = was_stopped c.args.device _ _ e.device_value _ c.in-Err.is in
    let k = round-work _ _ _ _ _ (not-false _ c.if-not-round.false) (worked-stopped _ _ _ _ _ _ _ e.store_after _ g (record { device = refl; sender = refl; verdict = refl })) in
    record { verdict_value = k.refusal; device_value = k.device; sender_value = k.sender; store_after = k.store }
