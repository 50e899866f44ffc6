-- What calls make one after the other: a call that passes goes on with the next, and one that is refused ends them. Each part of a round
-- is then its first call in front of the rest, and the arrivals of each fate stand in front of the sender's answer call.
use Rattle.std.specs.Prelude.{None, Ok}
use Prim.Native.Nat.{ℕ}
use mathlib.Core.Bool.{true, false}
use mathlib.Core.List.{List, [], ◌∷◌}
use lib.ListN.{length}
use mathlib.Core.Path.{◌≡◌, refl, sym, ◌∙◌}
use native.Mathlib.Omega.{arith}
use Rattle.message_rules.specs.Answer.{Answer, refused, given, refusal_number, passed, failed, within, counted, output_after, verdict_result}
use Rattle.message_rules.proofs.Answers.{same-room}
use Rattle.message_rules.specs.declared.Refusal.{Refusal}
use Rattle.device_rules.specs.Answers.{receive_result, after_receive}
use Rattle.device_rules.specs.Receive.{Reply, receive}
use Rattle.device_rules.specs.Work.{work, store_after, after_work}
use Rattle.device_rules.specs.declared.Device.{Device}
use Rattle.device_rules.specs.declared.Received.{Received}
use Rattle.sender_rules.specs.Hearing.{hear}
use Rattle.round_rules.specs.Rounds.{nothing_sent, choose, made, first_refusal}
use Rattle.round_rules.specs.Schedule.{output, exchange, requested, round_calls}
use Rattle.sender_rules.specs.Sending.{sending}
use Rattle.sender_rules.specs.Sender.{request}
use Rattle.round_rules.specs.Requester.{Sent, is_running, shared, lent, kept}
use Rattle.round_rules.specs.World.{World, Call, works, asks, arrives, hears, bytes_or, requester_or, does, answer_check, call_check}
use Rattle.round_rules.specs.declared.Fate.{Fate}
use Rattle.round_rules.specs.declared.Fate.TheVariants.{Delivered, RequestLost, AnswerLost, Twice}
use Rattle.round_rules.specs.declared.Round.{Round}
use Rattle.sender_rules.specs.declared.Sender.{Sender}
use Rattle.upload_round.specs.declared.Rounded.{Rounded}
use Rattle.upload_round.specs.Ends.{asking, Ends, Requested, Exchanged, Heard, Stopped, Arrived, unheard, is_refused}
use Rattle.upload_round.proofs.Results.{answered, was_silent, was_refused, outcome_passes, refused-answer, refused-silent, unheard-answer, unheard-silent, unheard-refused}

module _ (r : Rounded) (store file : List ℕ) (w : World Sender) (c : Call) (h : List Call) where
  -- A call that passes, in front of calls,
  pub goes_on_lem : call_check (sending file) w c ≡ passed → Ends r store file (does (sending file) w c) h → Ends r store file w (c ∷ h)
  unfolding made first_refusal choose
  goes_on_lem e k = record { refusal = rw e k.refusal; device = rw e k.device; sender = rw e k.sender; store = rw e k.store }

  -- and one that is refused.
  pub ends_here : (f : Refusal) → call_check (sending file) w c ≡ failed (refusal_number f) → Stopped r w.device w.requester f → store ≡ w.store → Ends r store file w (c ∷ h)
  unfolding made first_refusal choose verdict_result
  ends_here f e k t = record { refusal = rw (e, k.verdict); device = rw e k.device; sender = rw e k.sender; store = rw e t }

-- The sender's answer call is the last of a round.
pub last-call : (r : Rounded) (file : List ℕ) (w : World Sender) (b : List ℕ) → Heard r w.device w.requester file b → Ends r w.store file w (hears shared b ∷ [])
unfolding made first_refusal choose call_check answer_check does requester_or lent
last-call r file w b h = by (hear w.requester file b) refl
  where
    by : (x : Answer Sender Unit) → hear w.requester file b ≡ x → Ends r w.store file w (hears shared b ∷ [])
    by (refused n) e = record { refusal = rw e (rw e at h.refusal); device = rw e h.device; sender = rw e (rw e at h.sender); store = rw e }
    by (given s u) e = record { refusal = rw e (rw e at h.refusal); device = rw e h.device; sender = rw e (rw e at h.sender); store = rw e }

-- The unit's answer to a request.
abbrev reply_to : Device → List ℕ → List ℕ → Answer Reply (List ℕ)
reply_to d store request = within output (receive d (length store) request)

-- The exchange of a request that arrives.
module _ (r : Rounded) (d : Device) (store : List ℕ) (s : Sender) (file rq : List ℕ) where
  abbrev there : World Sender
  there = asking d store s rq

  abbrev reply : Answer Reply (List ℕ)
  reply = reply_to d store rq

  abbrev arrival : Call
  arrival = arrives rq shared output

  heard-next : answer_check reply ≡ passed → (b : List ℕ) → Heard r (after_receive d reply) s file b → Ends r store file there (arrival ∷ hears shared b ∷ [])
  unfolding call_check lent does
  heard-next e b h = goes_on_lem r store file there arrival _ e (last-call r file (does (sending file) there arrival) b h)

  pub delivered_ends : (a : Reply) (x : List ℕ) → reply ≡ given a x → Heard r (after_receive d reply) s file x → Exchanged r d s Delivered file store rq
  unfolding exchange does lent bytes_or answer_check
  delivered_ends a x e h = heard-next (rw e) (bytes_or [] reply) (rw e (rw e at h))

  pub lost_ends : answer_check reply ≡ passed → Heard r (after_receive d reply) s file [] → Exchanged r d s AnswerLost file store rq
  unfolding exchange
  lost_ends e h = heard-next e [] h

  -- A refused arrival ends it.
  pub stopped_ends : (f : Refusal) → reply ≡ refused (refusal_number f) → Stopped r (after_receive d reply) s f → (h : List Call) → Ends r store file there (arrival ∷ h)
  unfolding call_check answer_check lent after_receive
  stopped_ends f e k h = ends_here r store file there arrival h f (rw e) (rw e at k) refl

-- What the unit answered before matters to nothing that follows.
module _ (r : Rounded) (d : Device) (store : List ℕ) (s : Sender) (file rq b : List ℕ) where
  abbrev after_first : World Sender
  after_first = record { device = d; store = store; requester = s; request = rq; answer = b }

  abbrev second : Call
  second = arrives rq shared output

  abbrev Again : Type 0
  Again = Ends r store file after_first (second ∷ hears shared (does (sending file) after_first second).answer ∷ [])

  pub forgets : Exchanged r d s Delivered file store rq → Again
  unfolding exchange made first_refusal choose call_check answer_check does lent bytes_or requester_or after_receive
  forgets k = by (reply_to d store rq) refl
    where
      by : (x : Answer Reply (List ℕ)) → reply_to d store rq ≡ x → Again
      by (refused n) e = record { refusal = rw e (rw e at k.refusal); device = rw e (rw e at k.device); sender = rw e (rw e at k.sender); store = rw e }
      by (given a x) e = heard (hear s file x) refl
        where
          heard : (y : Answer Sender Unit) → hear s file x ≡ y → Again
          heard (refused n) q = record { refusal = rw (e, q) (rw (e, q) at k.refusal); device = rw (e, q) (rw (e, q) at k.device); sender = rw (e, q) (rw (e, q) at k.sender); store = rw (e, q) }
          heard (given t u) q = record { refusal = rw (e, q) (rw (e, q) at k.refusal); device = rw (e, q) (rw (e, q) at k.device); sender = rw (e, q) (rw (e, q) at k.sender); store = rw (e, q) }

-- The request arrives again, at the unit that it left.
pub twice_ends : (r : Rounded) (d : Device) (store : List ℕ) (s : Sender) (file rq : List ℕ) → answer_check (reply_to d store rq) ≡ passed → (next : Device)
    → next ≡ after_receive d (reply_to d store rq) → Exchanged r next s Delivered file store rq → Exchanged r d s Twice file store rq
unfolding exchange call_check does lent
twice_ends r d store s file rq e next n k = goes_on_lem r store file (asking d store s rq) (arrives rq shared output) _ e (forgets r _ store s file rq _ (rw n at k))

-- The arrivals of each fate. A request that is lost has none,
pub none-arrived : (d : Device) (left store rq : List ℕ) → Arrived (record { device = d; outcome = Ok None }) left d RequestLost store rq
unfolding exchange
none-arrived d left store rq =
    record {
      answer = λ n e. absurd (let z : ◌≡◌ {A = ℕ} 0 1 = cc in omega arith);
      heard = λ n e z s file h. absurd (let z : ◌≡◌ {A = ℕ} 0 1 = cc in omega arith);
      silent = λ e z s file h. last-call z file (asking d store s rq) [] h;
      refused = λ g e z s file k. absurd (let z : ◌≡◌ {A = ℕ} 0 1 = cc in omega arith);
    }

-- and one that arrives is received; what the output held before does not matter.
module _ (d : Device) (store rq out left : List ℕ) (r : Received) (room : length out ≡ length output)
    (result : receive_result r.outcome r.device ≡ counted (within out (receive d (length store) rq)))
    (device : r.device ≡ after_receive d (within out (receive d (length store) rq)))
    (lies : left ≡ output_after (within out (receive d (length store) rq)) out) where
  same : reply_to d store rq ≡ within out (receive d (length store) rq)
  same = same-room output out (sym room) _

  unit : r.device ≡ after_receive d (reply_to d store rq)
  unit = rw same device

  passes : is_refused r.outcome ≡ false → answer_check (reply_to d store rq) ≡ passed
  passes e = rw same (outcome_passes _ r.outcome r.device result e)

  pub delivered-arrived : Arrived r left d Delivered store rq
  unfolding exchange
  delivered-arrived =
      record {
        answer = λ n e. (answered out d (length store) rq _ _ result left lies n e).1;
        heard = λ n e z s file h. delivered_ends z d store s file rq _ _ (same ∙ (answered out d (length store) rq _ _ result left lies n e).0) (rw unit at h);
        silent = λ e z s file h. delivered_ends z d store s file rq _ _ (same ∙ was_silent out d (length store) rq _ _ result e) (rw unit at h);
        refused = λ g e z s file k. stopped_ends z d store s file rq g (same ∙ was_refused out d (length store) rq _ _ result g e) (rw unit at k) _;
      }

  pub unheard-arrived : (q : Received) (left' : List ℕ) → q.device ≡ r.device → q.outcome ≡ unheard r.outcome → Arrived q left' d AnswerLost store rq
  unfolding exchange
  unheard-arrived q left' kept told =
      record {
        answer = λ n e. absurd (unheard-answer r.outcome n (sym told ∙ e));
        heard = λ n e z s file h. absurd (unheard-answer r.outcome n (sym told ∙ e));
        silent = λ e z s file h. lost_ends z d store s file rq (passes (unheard-silent r.outcome (sym told ∙ e))) (rw (kept ∙ unit) at h);
        refused = λ g e z s file k. stopped_ends z d store s file rq g (same ∙ was_refused out d (length store) rq _ _ result g (unheard-refused r.outcome g (sym told ∙ e))) (rw (kept ∙ unit) at k) _;
      }

  -- Where the first of two arrivals passes the second decides, and where it is refused nothing follows.
  pub twice-arrived : is_refused r.outcome ≡ false → (q : Received) (left' : List ℕ) → Arrived q left' r.device Delivered store rq → Arrived q left' d Twice store rq
  twice-arrived e q left' k =
      record {
        answer = k.answer;
        heard = λ n o z s file h. twice_ends z d store s file rq (passes e) r.device unit (k.heard n o z s file h);
        silent = λ o z s file h. twice_ends z d store s file rq (passes e) r.device unit (k.silent o z s file h);
        refused = λ g o z s file h. twice_ends z d store s file rq (passes e) r.device unit (k.refused g o z s file h);
      }

  pub refused-arrived : is_refused r.outcome ≡ true → Arrived r left d Twice store rq
  unfolding exchange
  refused-arrived q =
      record {
        answer = λ n e. absurd (refused-answer r.outcome n q e);
        heard = λ n e z s file h. absurd (refused-answer r.outcome n q e);
        silent = λ e z s file h. absurd (refused-silent r.outcome q e);
        refused = λ g e z s file k. stopped_ends z d store s file rq g (same ∙ was_refused out d (length store) rq _ _ result g e) (rw unit at k) _;
      }

-- The sender's request in front of the exchange.
module _ (r : Rounded) (d : Device) (store : List ℕ) (s : Sender) (file : List ℕ) (f : Fate) where
  abbrev before : World Sender
  before = nothing_sent d store s

  pub requested_ends : is_running s.state ≡ true → (a : Sent) (x : List ℕ) → within output (request s file) ≡ given a x → Exchanged r d s f file store x → Requested r d s f file store
  unfolding requested call_check answer_check does lent bytes_or
  requested_ends on a x e k = rw on (goes_on_lem r store file before (asks shared output) _ (rw e) (rw e k))

  -- A sender that has ended writes none, and nothing follows.
  pub requested-ended : is_running s.state ≡ false → (a : Sent) (x : List ℕ) → within output (request s file) ≡ given a x
      → (r.device ≡ d) × (r.sender ≡ s) × (r.verdict ≡ Ok tt) → Requested r d s f file store
  unfolding requested call_check answer_check does lent made first_refusal verdict_result
  requested-ended over a x e k =
      rw over (goes_on_lem r store file before (asks shared output) [] (rw e) (record { refusal = rw k.2; device = k.0; sender = k.1; store = refl }))

  pub requested-stopped : (g : Refusal) → within output (request s file) ≡ refused (refusal_number g) → Stopped r d s g → Requested r d s f file store
  unfolding requested call_check answer_check lent
  requested-stopped g e k = ends_here r store file before (asks shared output) _ g (rw e) k refl

-- The work step in front of the request.
module _ (r : Rounded) (d : Device) (store : List ℕ) (s : Sender) (file : List ℕ) (f : Fate) (left : List ℕ) (left_is : left ≡ store_after d (work d (length store)) store) where
  abbrev calls : List Call
  calls = works shared ∷ requested (sending file) (does (sending file) (nothing_sent d store s) (works shared)) f

  pub worked_ends : answer_check (work d (length store)) ≡ passed → (next : Device) → next ≡ after_work d (work d (length store)) → Requested r next s f file left
      → Ends r left file (nothing_sent d store s) calls
  unfolding call_check does lent kept
  worked_ends e next n k = rw left_is (goes_on_lem r _ file (nothing_sent d store s) (works shared) _ e (rw (n, left_is) at k))

  pub worked-stopped : (g : Refusal) → work d (length store) ≡ refused (refusal_number g) → Stopped r d s g → Ends r left file (nothing_sent d store s) calls
  unfolding call_check answer_check lent store_after
  worked-stopped g e k = ends_here r left file (nothing_sent d store s) (works shared) _ g (rw e) k (left_is ∙ rw e)

-- A round by its work step.
module _ (r : Rounded) (store file : List ℕ) (w : World Sender) (round : Round) where
  pub round_rest : round.worked ≡ false → Ends r store file w (requested (sending file) w round.fate) → Ends r store file w (round_calls (sending file) w round)
  unfolding round_calls
  round_rest e k = rw e k

  pub round-work : round.worked ≡ true → Ends r store file w (works shared ∷ requested (sending file) (does (sending file) w (works shared)) round.fate) → Ends r store file w (round_calls (sending file) w round)
  unfolding round_calls
  round-work e k = rw e k
