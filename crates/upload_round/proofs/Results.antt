-- What a call answers, and what lies in the array that it was lent, give back the answer of its definition.
use Rattle.std.specs.Prelude.{Err, MatchResult, None, Ok, Option, Result, Some}
use Rattle.std.specs.Result.{is_err, result_unwrap_or}
use Prim.Native.Nat.{ℕ, ◌≤◌}
use mathlib.Core.Bool.{Bool, true, false}
use mathlib.Core.List.{List, []}
use mathlib.Core.Path.{◌≡◌, refl, sym}
use native.Mathlib.Omega.{arith}
use lib.Dec.{leb}
use lib.ListN.{length, take}
use Rattle.message_rules.proofs.Answers.{counted-refused, counted-given, counted_empty}
use Rattle.message_rules.specs.Answer.{Answer, Check, refused, given, refusal_number, passed, failed, require, after, within, counted, output_after, about, verdict_result, value_result}
use Rattle.message_rules.specs.declared.Refusal.{Refusal}
use Rattle.device_rules.specs.Answers.{receive_result}
use Rattle.device_rules.specs.Receive.{Reply, answers, silent, receive}
use Rattle.device_rules.specs.Work.{without_bytes, after_work}
use Rattle.device_rules.specs.declared.Device.{Device}
use Rattle.round_rules.specs.Schedule.{output}
use Rattle.round_rules.specs.World.{answer_check, requester_or}
use Rattle.sender_rules.specs.Hearing.{hear}
use Rattle.sender_rules.specs.Sender.{request, request_result}
use Rattle.round_rules.specs.Requester.{sent, nothing, is_running}
use Rattle.sender_rules.specs.declared.Sender.{Sender}
use Rattle.upload_round.specs.Ends.{Heard, unheard, is_refused}

-- A sender that has nothing to send has ended.
asked_something : (c : Check) (x : Answer Unit (List ℕ)) (out b : List ℕ) → within out (after c (about sent x)) ≡ given nothing b → ⊥
unfolding within after about require
asked_something (failed n) x out b e = let z : ◌≡◌ {A = ℕ} 0 1 = cc in omega arith
asked_something passed (refused n) out b e = let z : ◌≡◌ {A = ℕ} 0 1 = cc in omega arith
asked_something passed (given u y) out b e = by (leb (length y) (length out)) refl
  where
    by : (t : Bool) → leb (length y) (length out) ≡ t → ⊥
    by true q = let z : ◌≡◌ {A = ℕ} 0 1 = cc (rw q at e) in omega arith
    by false q = let z : ◌≡◌ {A = ℕ} 0 1 = cc (rw q at e) in omega arith

pub nothing-ended : (s : Sender) (file out b : List ℕ) → within out (request s file) ≡ given nothing b → is_running s.state ≡ false
unfolding request
nothing-ended s file out b e = by (is_running s.state) refl
  where
    by : (t : Bool) → is_running s.state ≡ t → is_running s.state ≡ false
    by true q = absurd (asked_something _ _ out b (rw q at e))
    by false q = q

-- One that has written a request runs.
pub written-runs : (s : Sender) (file b : List ℕ) → within output (request s file) ≡ given sent b → is_running s.state ≡ true
unfolding request within after require
written-runs s file b e = by (is_running s.state) refl
  where
    by : (t : Bool) → is_running s.state ≡ t → is_running s.state ≡ true
    by true q = q
    by false q = absurd (let z : ◌≡◌ {A = ℕ} 0 1 = cc (rw q at e) in omega arith)

-- What the unit made of a request.
module _ (out : List ℕ) (d : Device) (n : ℕ) (rq : List ℕ) (o : Result (Option ℕ) Refusal) (next : Device) (result : receive_result o next ≡ counted (within out (receive d n rq))) where
  pub answered : (left : List ℕ) → left ≡ output_after (within out (receive d n rq)) out → (k : ℕ) → o ≡ Ok (Some k)
      → (within out (receive d n rq) ≡ given (answers next) (take k left)) × (k ≤ length left)
  unfolding receive_result
  answered left lies k e = counted-given _ out left lies (answers next) k (rw e at (sym result))

  pub was_silent : o ≡ Ok None → within out (receive d n rq) ≡ given (silent next) []
  unfolding receive_result
  was_silent e = counted_empty _ (silent next) (rw e at (sym result))

  pub was_refused : (f : Refusal) → o ≡ Err f → within out (receive d n rq) ≡ refused (refusal_number f)
  unfolding receive_result
  was_refused f e = counted-refused _ (refusal_number f) (rw e at (sym result))

-- An outcome that is no refusal passes,
pub outcome_passes : (x : Answer Reply (List ℕ)) (o : Result (Option ℕ) Refusal) (next : Device) → receive_result o next ≡ counted x → is_refused o ≡ false → answer_check x ≡ passed
unfolding receive_result counted answer_check is_refused
outcome_passes (refused n) (Ok (Some k)) next e q = absurd (let z : ◌≡◌ {A = ℕ} 0 1 = cc in omega arith)
outcome_passes (refused n) (Ok None) next e q = absurd (let z : ◌≡◌ {A = ℕ} 0 1 = cc in omega arith)
outcome_passes (refused n) (Err f) next e q = absurd (let z : ◌≡◌ {A = ℕ} 0 1 = cc in omega arith)
outcome_passes (given a b) o next e q = refl

-- and one that is has neither an answer nor silence.
pub refused-answer : (o : Result (Option ℕ) Refusal) (n : ℕ) → is_refused o ≡ true → o ≡ Ok (Some n) → ⊥
unfolding is_refused
refused-answer o n q e = let z : ◌≡◌ {A = ℕ} 0 1 = cc (rw e at q) in omega arith

pub refused-silent : (o : Result (Option ℕ) Refusal) → is_refused o ≡ true → o ≡ Ok None → ⊥
unfolding is_refused
refused-silent o q e = let z : ◌≡◌ {A = ℕ} 0 1 = cc (rw e at q) in omega arith

pub refused-err : (o : Result (Option ℕ) Refusal) → is_refused o ≡ is_err o
unfolding is_refused
refused-err (Ok (Some n)) = refl
refused-err (Ok None) = refl
refused-err (Err f) = refl

-- What a lost answer leaves of an outcome.
pub unheard-left : (o left : Result (Option ℕ) Refusal) → MatchResult o (λ a. left ≡ Ok None) (λ f. left ≡ Err f) → left ≡ unheard o
unfolding unheard
unheard-left (Ok (Some n)) left e = e
unheard-left (Ok None) left e = e
unheard-left (Err f) left e = e

pub unheard-answer : (o : Result (Option ℕ) Refusal) (n : ℕ) → unheard o ≡ Ok (Some n) → ⊥
unfolding unheard
unheard-answer (Ok (Some k)) n e = let z : ◌≡◌ {A = ℕ} 0 1 = cc in omega arith
unheard-answer (Ok None) n e = let z : ◌≡◌ {A = ℕ} 0 1 = cc in omega arith
unheard-answer (Err f) n e = let z : ◌≡◌ {A = ℕ} 0 1 = cc in omega arith

pub unheard-silent : (o : Result (Option ℕ) Refusal) → unheard o ≡ Ok None → is_refused o ≡ false
unfolding unheard is_refused
unheard-silent (Ok (Some k)) e = refl
unheard-silent (Ok None) e = refl
unheard-silent (Err f) e = absurd (let z : ◌≡◌ {A = ℕ} 0 1 = cc in omega arith)

pub unheard-refused : (o : Result (Option ℕ) Refusal) (g : Refusal) → unheard o ≡ Err g → o ≡ Err g
unfolding unheard
unheard-refused (Ok (Some k)) g e = absurd (let z : ◌≡◌ {A = ℕ} 0 1 = cc in omega arith)
unheard-refused (Ok None) g e = absurd (let z : ◌≡◌ {A = ℕ} 0 1 = cc in omega arith)
unheard-refused (Err f) g e = e

-- What the sender wrote.
module _ (s : Sender) (file : List ℕ) (o : Result (Option ℕ) Refusal) (result : request_result o ≡ counted (within output (request s file))) where
  pub wrote : (left : List ℕ) → left ≡ output_after (within output (request s file)) output → (k : ℕ) → o ≡ Ok (Some k)
      → (within output (request s file) ≡ given sent (take k left)) × (k ≤ length left)
  unfolding request_result
  wrote left lies k e = counted-given _ output left lies sent k (rw e at (sym result))

  pub wrote_nothing : o ≡ (Ok None) → within output (request s file) ≡ given nothing []
  unfolding request_result
  wrote_nothing e = counted_empty _ nothing (rw e at (sym result))

  pub not_written : (f : Refusal) → o ≡ Err f → within output (request s file) ≡ refused (refusal_number f)
  unfolding request_result
  not_written f e = counted-refused _ (refusal_number f) (rw e at (sym result))

-- What the work step answered.
module _ (d : Device) (x : Answer Device (List ℕ)) (o : Result Device Refusal) (result : value_result o ≡ without_bytes x) where
  pub was_worked : (next : Device) → o ≡ Ok next → (answer_check x ≡ passed) × (next ≡ after_work d x)
  unfolding value_result without_bytes answer_check after_work
  was_worked next e = by x (rw e at result)
    where
      by : (y : Answer Device (List ℕ)) → given next tt ≡ without_bytes y → (answer_check y ≡ passed) × (next ≡ after_work d y)
      by (refused n) q = absurd (let z : ◌≡◌ {A = ℕ} 0 1 = cc in omega arith)
      by (given d' b) q = (refl, cc)

  pub was_stopped : (f : Refusal) → o ≡ Err f → x ≡ refused (refusal_number f)
  unfolding value_result without_bytes
  was_stopped f e = by x (rw e at result)
    where
      by : (y : Answer Device (List ℕ)) → refused (refusal_number f) ≡ without_bytes y → y ≡ refused (refusal_number f)
      by (refused n) q = cc
      by (given d' b) q = absurd (let z : ◌≡◌ {A = ℕ} 0 1 = cc in omega arith)

-- What the sender's answer call leaves: the next sender, or the one that came beside its refusal.
pub heard_lem : (d : Device) (s next : Sender) (file answer : List ℕ) (o : Result Sender Refusal) (v : Result Unit Refusal) → value_result o ≡ hear s file answer
    → next ≡ result_unwrap_or o s → MatchResult o (λ _. v ≡ Ok tt) (λ f. v ≡ Err f) → Heard (record { device = d; sender = next; verdict = v }) d s file answer
unfolding value_result verdict_result answer_check requester_or
heard_lem d s next file answer (Ok t) v e n m = record { refusal = rw (← e, m); device = refl; sender = rw (← e, n) }
heard_lem d s next file answer (Err f) v e n m = record { refusal = rw (← e, m); device = refl; sender = rw (← e, n) }
