-- Carried by what the writer answers, in each of its cases.
use Rattle.std.proofs.Common.{rules, ◌≡◌, ℕ, Ok, Err, Some, Option, Result}
use Rattle.std.specs.Result.{MatchResult}
use Rattle.message_rules.specs.Answer.{write_result, about}
use Rattle.message_rules.specs.declared.Refusal.{Refusal}
use Rattle.message_rules.proofs.Answers.{about-counted, about-output}
use Rattle.round_rules.specs.Requester.{sent}
use Rattle.sender_rules.specs.Sender.{request_result}
use Rattle.sender.proofs.requester.send.Goals as goal

-- A request that is written is told by its length, and a refusal stays one.
told : (w : Result ℕ Refusal) (r : Result (Option ℕ) Refusal) → MatchResult w (λ n. r ≡ Ok (Some n)) (λ f. r ≡ Err f) → request_result r ≡ about sent (write_result w)
unfolding request_result write_result about
told (Ok n) r e = rw e
told (Err f) r e = rw e

pub returns-clause-result_value : goal.returns-clause-result_value
returns-clause-result_value c =
    let cases : MatchResult c.write.result (λ n. c.map.result ≡ Ok (Some n)) (λ f. c.map.result ≡ Err f) = search rules in
    rw (about-counted, ← c.request_message-message.ensures, ← c.write.ensures.result_value) (told _ _ cases)

pub returns-clause-out_after : goal.returns-clause-out_after
returns-clause-out_after c = rw (about-output, ← c.request_message-message.ensures) c.write.ensures.out_after
