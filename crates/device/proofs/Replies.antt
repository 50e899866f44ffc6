-- What is told of a reply, and what output and unit are then: of silence, and of what a writer answered.
use Rattle.std.specs.Prelude.{Err, Ok, None, Some, Option, Result, MatchResult}
use Prim.Native.Nat.{ℕ}
use mathlib.Core.List.{List, []}
use mathlib.Core.Path.{◌≡◌, refl}
use native.Mathlib.Omega.{arith}
use lib.ListN.{length}
use Rattle.message_rules.specs.Answer.{Answer, refused, given, refusal_number, within, counted, output_after, write_result, about}
use Rattle.message_rules.specs.declared.Message.{Message}
use Rattle.message_rules.specs.declared.Refusal.{Refusal}
use Rattle.message_rules.proofs.Answers.{within-about}
use Rattle.device_rules.specs.declared.Device.{Device}
use Rattle.device_rules.specs.Answers.{receive_result, after_receive}
use Rattle.device_rules.specs.Receive.{Reply, answers, silence, command_answer, command_reply, telecommand_reply}
use Rattle.device_rules.specs.Commands.{after_command}
use Rattle.device_rules.specs.Faults.{command_fault}
use Rattle.device_rules.specs.declared.Fault.{Fault}
use Rattle.link_rules.specs.Link.{link_write}
use Rattle.device_rules.specs.declared.Received.{Received}
use Rattle.device_rules.proofs.Receive.{silence-fits}
use Rattle.device.specs.Gives.{Gives}

pub silence_gives : (d next : Device) (out : List ℕ) (x : Answer Reply (List ℕ)) (r : Received) → r ≡ record { device = next; outcome = Ok None } → x ≡ silence next → Gives d out x r out
unfolding receive_result after_receive counted output_after
silence_gives d next out x r is e = rw (e, silence-fits next out, is) (record { told = refl; unit = refl; output = refl })

module _ (d next : Device) (out out' : List ℕ) (x : Answer Unit (List ℕ)) (left : out' ≡ output_after (within out x) out) where
  pub answer_gives : (n : ℕ) → write_result (Ok n) ≡ counted (within out x) → Gives d out (about (answers next) x) (record { device = next; outcome = Ok (Some n) }) out'
  unfolding receive_result write_result counted output_after about after_receive
  answer_gives n says = rw (within-about (answers next) out x, left) (by (within out x) says)
    where
      by : (y : Answer Unit (List ℕ)) → given tt n ≡ counted y → record {
        told : given (answers next) n ≡ counted (about (answers next) y);
        unit : next ≡ after_receive d (about (answers next) y);
        output : output_after y out ≡ output_after (about (answers next) y) out;
      }
      by (refused k) e = absurd (let z : ◌≡◌ {A = ℕ} 0 1 = cc in omega arith)
      by (given u b) e = let same : n ≡ length b = cc in rw same (record { told = refl; unit = refl; output = refl })

  pub refusal_gives : (r : Refusal) → write_result (Err r) ≡ counted (within out x) → Gives d out (about (answers next) x) (record { device = d; outcome = Err r }) out'
  unfolding receive_result write_result counted output_after about after_receive
  refusal_gives r says = rw (within-about (answers next) out x, left) (by (within out x) says)
    where
      by : (y : Answer Unit (List ℕ)) → refused (refusal_number r) ≡ counted y → record {
        told : refused (refusal_number r) ≡ counted (about (answers next) y);
        unit : d ≡ after_receive d (about (answers next) y);
        output : output_after y out ≡ output_after (about (answers next) y) out;
      }
      by (refused k) e = let same : refusal_number r ≡ k = cc in rw same (record { told = refl; unit = refl; output = refl })
      by (given u b) e = absurd (let z : ◌≡◌ {A = ℕ} 0 1 = cc in omega arith)

pub sent_gives : (d : Device) (out out' : List ℕ) (x : Answer Unit (List ℕ)) (w : Result ℕ Refusal) (r : Result (Option ℕ) Refusal) → write_result w ≡ counted (within out x) → out' ≡ output_after (within out x) out
    → MatchResult w (λ n. r ≡ Ok (Some n)) (λ e. r ≡ Err e) → Gives d out (about (answers d) x) (record { device = d; outcome = r }) out'
sent_gives d out out' x (Ok n) r says left e = rw e (answer_gives d d out out' x left n says)
sent_gives d out out' x (Err f) r says left e = rw e (refusal_gives d d out out' x left f says)

-- A telecommand by its fault, with the unit and the answer that it comes to.
pub command_reply_lem : (d : Device) (store : ℕ) (m : Message) (p : List ℕ) (f : Option Fault) (next : Device) (answer : Message) → f ≡ command_fault d store m.id p
    → next ≡ after_command d m.id p (command_fault d store m.id p) → answer ≡ command_answer d m f
    → telecommand_reply d store m p ≡ about (answers next) (link_write d.link answer [])
unfolding command_reply
command_reply_lem d store m p f next answer e done same = rw (done, same, e)
