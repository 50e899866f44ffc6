-- The world of a run, and what a call does to it (document 01, "The unit" and "The sender and its rounds"). Every call is one of the
-- library's functions on the arguments that it is lent, and does what that function's definition says.
use Rattle.std.specs.Prelude.{ℕ, Bool, true, false, cond, List, [], ◌∷◌, length}
use Rattle.message_rules.specs.Answer.{Answer, Check, refused, given, passed, failed, within}
use Rattle.link_rules.specs.declared.Link.{Link}
use Rattle.device_rules.specs.declared.Device.{Device}
use Rattle.device_rules.specs.Device.{make}
use Rattle.device_rules.specs.Work.{work, store_after, after_work}
use Rattle.device_rules.specs.Answers.{after_receive}
use Rattle.device_rules.specs.Receive.{Reply, receive}
use Rattle.round_rules.specs.Requester.{Sent, is_running, Lent, lent, kept, Starting, Requester}

-- Unit, store and requester, and what is under way between them: the request that the requester wrote last, and the unit's last answer, []
-- where it was silent.
pub record World (S : Type 0) : Type 0 where
  pub device : Device
  pub store : List ℕ
  pub requester : S
  pub request : List ℕ
  pub answer : List ℕ

-- The calls: the unit's work step, lent a store; the requester's request, lent what it needs and an output; bytes that arrive at the unit,
-- which is lent a store and an output; the requester's answer call, lent what it needs, with the answer's bytes, [] for none.
pub data Call : Type 0 where
  works : Lent → Call
  asks : Lent → List ℕ → Call
  arrives : List ℕ → Lent → List ℕ → Call
  hears : Lent → List ℕ → Call
  -- Making a unit, and starting a requester: another one, so nothing of the world changes.
  makes : Link → ℕ → Call
  starts : Starting → Call

-- What is there afterwards: as before where the call was refused.
unfoldable pub bytes_or : {A : Type 0} → List ℕ → Answer A (List ℕ) → List ℕ
bytes_or b (refused n) = b
bytes_or b (given a b') = b'

unfoldable pub requester_or : {S : Type 0} → S → Answer S Unit → S
requester_or s (refused n) = s
requester_or s (given s' u) = s'

-- A call's refusal, if it is refused: the function gave a refusal's number.
unfoldable pub answer_check : {A B : Type 0} → Answer A B → Check
answer_check (refused n) = failed n
answer_check (given a b) = passed

unfoldable pub is_failed : Check → Bool
is_failed passed = false
is_failed (failed n) = true

module _ {S : Type 0} where
  -- The answers of the unit's calls.
  abbrev pub work_answer : World S → Lent → Answer Device (List ℕ)
  work_answer w l = work w.device (length (lent l w.store))

  abbrev pub arrive_answer : World S → List ℕ → Lent → List ℕ → Answer Reply (List ℕ)
  arrive_answer w b l out = within out (receive w.device (length (lent l w.store)) b)

module _ {S : Type 0} (a : Requester S) where
  -- Those of the requester's.
  abbrev pub ask_answer : World S → Lent → List ℕ → Answer Sent (List ℕ)
  ask_answer w l out = within out (a.ask w.requester l)

  abbrev pub hear_answer : World S → Lent → List ℕ → Answer S Unit
  hear_answer w l b = a.hear w.requester l b

  abbrev pub runs_on : World S → Bool
  runs_on w = is_running (a.outcome w.requester)

  -- What a call does.
  unfoldable pub does : World S → Call → World S
  does w (works l) =
      record {
        device = after_work w.device (work_answer w l);
        store = kept l (store_after w.device (work_answer w l) (lent l w.store)) w.store;
        requester = w.requester;
        request = w.request;
        answer = w.answer;
      }
  does w (asks l out) =
      record {
        device = w.device;
        store = w.store;
        requester = w.requester;
        request = bytes_or w.request (ask_answer w l out);
        answer = w.answer;
      }
  does w (arrives b l out) =
      record {
        device = after_receive w.device (arrive_answer w b l out);
        store = w.store;
        requester = w.requester;
        request = w.request;
        answer = bytes_or w.answer (arrive_answer w b l out);
      }
  does w (hears l b) =
      record {
        device = w.device;
        store = w.store;
        requester = requester_or w.requester (hear_answer w l b);
        request = w.request;
        answer = w.answer;
      }
  does w (makes l own) = w
  does w (starts s) = w

  unfoldable pub run : World S → List Call → World S
  run w [] = w
  run w (c ∷ h) = run (does w c) h

  unfoldable pub call_check : World S → Call → Check
  call_check w (works l) = answer_check (work_answer w l)
  call_check w (asks l out) = answer_check (ask_answer w l out)
  call_check w (arrives b l out) = answer_check (arrive_answer w b l out)
  call_check w (hears l b) = answer_check (hear_answer w l b)
  call_check w (makes l own) = answer_check (make l own)
  call_check w (starts s) = answer_check (a.start s)

  unfoldable pub is_refused : World S → Call → Bool
  is_refused w c = is_failed (call_check w c)

  -- What calls tell: `step` leads from what was told before a call to what is told after it. A refused call tells nothing.
  unfoldable pub told : {T : Type 0} → (World S → Call → T → T) → World S → List Call → T → T
  told step w [] t = t
  told step w (c ∷ h) t = told step (does w c) h (cond (is_refused w c) t (step w c t))
