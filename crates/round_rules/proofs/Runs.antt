-- Rounds as they are run: what was under way before a round changes nothing of it, so its calls are those of the schedule, and none is refused.
use Prim.Native.Nat.{ℕ}
use mathlib.Core.Bool.{Bool, true, false}
use mathlib.Core.List.{List, [], ◌∷◌}
use mathlib.Core.Path.{◌≡◌, refl, ap, ◌∙◌}
use native.Mathlib.Omega.{arith}
use Rattle.message_rules.specs.Answer.{Answer, Check, refused, given, passed, failed}
use Rattle.device_rules.specs.declared.Device.{Device}
use Rattle.round_rules.specs.Legal.{between}
use Rattle.round_rules.specs.Requester.{shared, Requester}
use Rattle.round_rules.specs.Rounds.{nothing_sent, choose, made, first_refusal, round_made, round_refusal, rounds_made, rounds_refusal}
use Rattle.round_rules.specs.Schedule.{output, exchange, requested, round_calls, scheduled}
use Rattle.round_rules.specs.World.{World, Call, works, asks, arrives, hears, makes, starts, bytes_or, runs_on, does, run, is_refused, answer_check, is_failed, call_check}
use Rattle.round_rules.specs.declared.Fate.{Fate}
use Rattle.round_rules.specs.declared.Fate.TheVariants.{Delivered, RequestLost, AnswerLost, Twice}
use Rattle.round_rules.specs.declared.Round.{Round}
use Rattle.round_rules.proofs.Lists.{run-append}
use Rattle.round_rules.proofs.Schedules.{Unrefused, next-round}
use Rattle.round_rules.proofs.Steady.{Shape, Steady, Free, Invariant}

-- The same unit, store and requester.
pub record Same {S : Type 0} (v w : World S) : Type 0 where
  pub device : v.device ≡ w.device
  pub store : v.store ≡ w.store
  pub requester : v.requester ≡ w.requester

passes : (x : Check) → is_failed x ≡ false → x ≡ passed
unfolding is_failed
passes passed e = refl
passes (failed n) e = absurd (let z : ◌≡◌ {A = ℕ} 0 1 = cc in omega arith)

same_bytes_lem : {A : Type 0} (x : Answer A (List ℕ)) (b b' : List ℕ) → is_failed (answer_check x) ≡ false → bytes_or b x ≡ bytes_or b' x
unfolding is_failed answer_check bytes_or
same_bytes_lem (refused n) b b' e = absurd (let z : ◌≡◌ {A = ℕ} 0 1 = cc in omega arith)
same_bytes_lem (given a y) b b' e = refl

abbrev world_of : {S : Type 0} → Device → List ℕ → S → List ℕ → List ℕ → World S
world_of d store s rq an = record { device = d; store = store; requester = s; request = rq; answer = an }

-- What is under way does not matter to a call with bytes of its own.
module _ {S : Type 0} (a : Requester S) where
  forgets : (h : List Call) (d : Device) (store : List ℕ) (s : S) (rq an rq' an' : List ℕ) → Unrefused a (world_of d store s rq' an') h
      → (first_refusal a (world_of d store s rq an) h ≡ passed) × Same (made a (world_of d store s rq an) h) (run a (world_of d store s rq' an') h)
  unfolding first_refusal made choose call_check run does is_refused Unrefused
  forgets [] d store s rq an rq' an' u = (refl, record { device = refl; store = refl; requester = refl })
  forgets (works l ∷ h) d store s rq an rq' an' u = rw (passes _ u.0) (forgets h _ _ _ _ _ _ _ u.1)
  forgets (asks l out ∷ h) d store s rq an rq' an' u = rw (passes _ u.0) (forgets h _ _ _ _ _ _ _ u.1)
  forgets (arrives b l out ∷ h) d store s rq an rq' an' u = rw (passes _ u.0) (forgets h _ _ _ _ _ _ _ u.1)
  forgets (hears l b ∷ h) d store s rq an rq' an' u = rw (passes _ u.0) (forgets h _ _ _ _ _ _ _ u.1)
  forgets (makes l own ∷ h) d store s rq an rq' an' u = rw (passes _ u.0) (forgets h _ _ _ _ _ _ _ u.1)
  forgets (starts x ∷ h) d store s rq an rq' an' u = rw (passes _ u.0) (forgets h _ _ _ _ _ _ _ u.1)

  -- The calls of an exchange, and of a round, are the same whatever was under way.
  same-exchange : (f : Fate) (d : Device) (store : List ℕ) (s : S) (rq an an' : List ℕ) → Unrefused a (world_of d store s rq an') (exchange a (world_of d store s rq an') f)
      → exchange a (world_of d store s rq an) f ≡ exchange a (world_of d store s rq an') f
  unfolding exchange does is_refused call_check Unrefused
  same-exchange Delivered d store s rq an an' u = ap (λ (b : List ℕ). arrives rq shared output ∷ hears shared b ∷ []) (same_bytes_lem _ an an' u.0)
  same-exchange RequestLost d store s rq an an' u = refl
  same-exchange AnswerLost d store s rq an an' u = refl
  same-exchange Twice d store s rq an an' u = ap (λ (b : List ℕ). arrives rq shared output ∷ arrives rq shared output ∷ hears shared b ∷ []) (same_bytes_lem _ _ _ u.1.0)

  same-requested : (f : Fate) (d : Device) (store : List ℕ) (s : S) (rq an rq' an' : List ℕ) → Unrefused a (world_of d store s rq' an') (requested a (world_of d store s rq' an') f)
      → requested a (world_of d store s rq an) f ≡ requested a (world_of d store s rq' an') f
  unfolding requested does is_refused call_check Unrefused
  same-requested f d store s rq an rq' an' u = by (runs_on a (world_of d store s rq an)) refl
    where
      by : (t : Bool) → runs_on a (world_of d store s rq an) ≡ t → requested a (world_of d store s rq an) f ≡ requested a (world_of d store s rq' an') f
      by true e =
          rw e
          (ap (λ (h : List Call). asks shared output ∷ h)
          (ap (λ (b : List ℕ). exchange a (world_of d store s b an) f) (same_bytes_lem _ rq rq' u.0) ∙ same-exchange f d store s _ an an' (rw e at u).1))
      by false e = rw e refl

  same-round : (r : Round) (d : Device) (store : List ℕ) (s : S) (rq an rq' an' : List ℕ) → Unrefused a (world_of d store s rq' an') (round_calls a (world_of d store s rq' an') r)
      → round_calls a (world_of d store s rq an) r ≡ round_calls a (world_of d store s rq' an') r
  unfolding round_calls does Unrefused
  same-round r d store s rq an rq' an' u = by r.worked refl
    where
      by : (t : Bool) → r.worked ≡ t → round_calls a (world_of d store s rq an) r ≡ round_calls a (world_of d store s rq' an') r
      by true e = rw e (ap (λ (h : List Call). works shared ∷ h) (same-requested r.fate _ _ s rq an rq' an' (rw e at u).1))
      by false e = rw e (same-requested r.fate d store s rq an rq' an' (rw e at u))

  -- A round from rest makes what the schedule's calls make.
  round_same : (r : Round) (w : World S) → Unrefused a w (round_calls a w r)
      → (round_refusal a (nothing_sent w.device w.store w.requester) r ≡ passed) × Same (round_made a (nothing_sent w.device w.store w.requester) r) (run a w (round_calls a w r))
  unfolding round_refusal round_made
  round_same r w u =
      rw (same-round r w.device w.store w.requester [] [] w.request w.answer u)
      (forgets (round_calls a w r) w.device w.store w.requester [] [] w.request w.answer u)

module _ {S : Type 0} {a : Requester S} {k : Shape S} (st : Steady a k) (f : Free a k) where
  abbrev Runs : List Round → Type 0
  Runs rs = (v w : World S) (past : List Bool) (n : k.Note) → Same v w → Invariant k w past n between
      → (rounds_refusal a v rs ≡ passed) × Same (rounds_made a v rs) (run a w (scheduled a w rs))

  runs-more : (r : Round) (rs : List Round) → Runs rs → Runs (r ∷ rs)
  unfolding rounds_refusal rounds_made scheduled choose run
  runs-more r rs more v w past n s h =
      let next = next-round st f r w past n h in
      let from-rest : World S = nothing_sent v.device v.store v.requester in
      let same : (round_refusal a from-rest r ≡ passed) × Same (round_made a from-rest r) (run a w (round_calls a w r)) =
      rw (s.device, s.store, s.requester) (round_same a r w next.0) in
      let rest = more _ _ next.1.0 next.1.1.0 same.1 next.1.1.1 in
      rw (same.0, run-append a w (round_calls a w r) _) rest

  pub runs : (rs : List Round) → Runs rs
  unfolding rounds_refusal rounds_made scheduled run
  runs [] v w past n s h = (refl, s)
  runs (r ∷ rs) v w past n s h = runs-more r rs (runs rs) v w past n s h
