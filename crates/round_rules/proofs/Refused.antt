-- A refused call changes nothing: in each definition a refusal leaves what was there.
use Prim.Native.Nat.{ℕ}
use mathlib.Core.Bool.{true}
use mathlib.Core.List.{List}
use mathlib.Core.Path.{◌≡◌, refl}
use native.Mathlib.Omega.{arith}
use Rattle.message_rules.specs.Answer.{Answer, refused, given}
use Rattle.link_rules.specs.declared.Link.{Link}
use Rattle.device_rules.specs.declared.Device.{Device}
use Rattle.device_rules.specs.Device.{make}
use Rattle.device_rules.specs.Work.{store_after, after_work}
use Rattle.device_rules.specs.Answers.{after_receive}
use Rattle.device_rules.specs.Receive.{Reply}
use Rattle.round_rules.specs.Requester.{Lent, shared, other, lent, kept, Starting, Requester}
use Rattle.round_rules.specs.World.{World, Call, works, asks, arrives, hears, makes, starts, bytes_or, requester_or, work_answer, ask_answer, arrive_answer, hear_answer, does, is_refused, answer_check, is_failed, call_check}

lent-kept : (l : Lent) (s : List ℕ) → kept l (lent l s) s ≡ s
unfolding lent kept
lent-kept shared s = refl
lent-kept (other t) s = refl

no_refusal : {A B : Type 0} {P : Type 0} (a : A) (b : B) → is_failed (answer_check (given a b)) ≡ true → P
unfolding is_failed answer_check
no_refusal a b e = absurd (let z : ◌≡◌ {A = ℕ} 0 1 = cc in omega arith)

work-leaves : (d : Device) (s : List ℕ) (l : Lent) (a : Answer Device (List ℕ)) → is_failed (answer_check a) ≡ true
    → (after_work d a ≡ d) × (kept l (store_after d a (lent l s)) s ≡ s)
unfolding after_work store_after
work-leaves d s l (refused n) e = (refl, lent-kept l s)
work-leaves d s l (given d' b) e = no_refusal d' b e

bytes_leave : {A : Type 0} (b : List ℕ) (a : Answer A (List ℕ)) → is_failed (answer_check a) ≡ true → bytes_or b a ≡ b
unfolding bytes_or
bytes_leave b (refused n) e = refl
bytes_leave b (given x b') e = no_refusal x b' e

reply-leaves : (d : Device) (a : Answer Reply (List ℕ)) → is_failed (answer_check a) ≡ true → after_receive d a ≡ d
unfolding after_receive
reply-leaves d (refused n) e = refl
reply-leaves d (given r b) e = no_refusal r b e

hear-leaves : {S : Type 0} (s : S) (a : Answer S Unit) → is_failed (answer_check a) ≡ true → requester_or s a ≡ s
unfolding requester_or
hear-leaves s (refused n) e = refl
hear-leaves s (given s' u) e = no_refusal s' u e

pub refused-leaves : {S : Type 0} (a : Requester S) (w : World S) (c : Call) → is_refused a w c ≡ true → does a w c ≡ w
unfolding is_refused call_check does
refused-leaves a w (works l) e = let g = work-leaves w.device w.store l (work_answer w l) e in simp (g.0, g.1)
refused-leaves a w (asks l out) e = rw (bytes_leave w.request (ask_answer a w l out) e)
refused-leaves a w (arrives b l out) e = simp (reply-leaves w.device (arrive_answer w b l out) e, bytes_leave w.answer (arrive_answer w b l out) e)
refused-leaves a w (hears l b) e = rw (hear-leaves w.requester (hear_answer a w l b) e)
refused-leaves a w (makes l own) e = refl
refused-leaves a w (starts s) e = refl

-- Making and starting are calls like the others: where the function refuses, the call is refused.
module _ {S : Type 0} (a : Requester S) (w : World S) where
  pub making_refused : (l : Link) → is_refused a w (makes l 0) ≡ true
  unfolding is_refused call_check answer_check is_failed make
  making_refused l = refl

  pub starting_refused : (s : Starting) (n : ℕ) → a.start s ≡ refused n → is_refused a w (starts s) ≡ true
  unfolding is_refused call_check answer_check is_failed
  starting_refused s n e = rw e
