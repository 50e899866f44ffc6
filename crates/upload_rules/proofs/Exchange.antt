-- The link enters the upload here alone: a request arrives at the unit as it was asked, and the unit's answer at the sender as it was
-- given, from the unit's address to the sender's. Carried by the links' round trip.
use Rattle.std.specs.Prelude.{Some}
use Prim.Native.Nat.{ℕ, ◌<◌}
use mathlib.Core.Bool.{true, false, not, ◌&&◌, ◌||◌}
use mathlib.Core.List.{List}
use mathlib.Core.Path.{◌≡◌, refl, sym}
use native.Mathlib.Omega.{arith}
use borrow.Author.Tests.{eq-eqb}
use lib.Dec.{eqb}
use lib.ListN.{length}
use Rattle.message_rules.specs.Answer.{passed}
use Rattle.message_rules.specs.Checks.{payload_legal, field_checks, error_told}
use Rattle.message_rules.specs.Kinds.{is_event, carried_on}
use Rattle.message_rules.specs.declared.Kind.{Kind}
use Rattle.message_rules.specs.declared.Message.{Message}
use Rattle.link_rules.specs.Link.{carries_addresses, link_carried}
use Rattle.link_rules.specs.declared.Link.{Link}
use Rattle.link_rules.specs.declared.Link.TheVariants.{Uart, Rs485, Can, Csp}
use Rattle.link_rules.proofs.Laws.{LegalMessage}
use Rattle.link_rules.proofs.RoundTrip.{Arrives, legal-arrives}
use Rattle.device_rules.specs.Receive.{addressing, answer_source}
use Rattle.device_rules.specs.declared.Addressing.TheVariants.{Own}
use Rattle.device_rules.proofs.Receive.{unit-own}
use Rattle.device_rules.proofs.Replies.{answer_of}
use Rattle.sender_rules.specs.Sender.{request_kind, request_id}
use Rattle.sender_rules.specs.declared.Stage.{Stage}

-- The sender's addresses and the unit's own: on RS485 none is 0, and the sender's requests go to the unit.
abbrev pub Addressed : Link → ℕ → ℕ → ℕ → Type 0
Addressed Uart s t own = Unit
Addressed Rs485 s t own = (0 < s) × (0 < own) × (t ≡ own)
Addressed Can s t own = Unit
Addressed Csp s t own = Unit

-- A request from s to t.
abbrev pub request_of : Kind → ℕ → ℕ → ℕ → Message
request_of k id s t = record { kind = k; id = id; source = s; destination = t; error = Some 0; index = 0 }

-- The request of a stage, and as the unit reads it.
abbrev pub request_at : ℕ → ℕ → Stage → Message
request_at s t stage = request_of (request_kind stage) (request_id stage) s t

abbrev pub request_read : Link → ℕ → ℕ → Stage → Message
request_read l s t stage = link_carried l (request_at s t stage)

-- A message whose fields are legal for its kind, and which is no event.
pub record Plain (m : Message) (p : List ℕ) : Type 0 where
  pub plain : is_event m.kind ≡ false
  pub tells : error_told m.kind m.error ≡ true
  pub fields : field_checks m (payload_legal m.kind (length p)) ≡ passed

request-legal : (l : Link) (s t own id : ℕ) (k : Kind) (p : List ℕ) → Addressed l s t own → Plain (request_of k id s t) p → LegalMessage l (request_of k id s t) p
request-legal Uart s t own id k p a h = record { plain = h.plain; tells = h.tells; fields = h.fields; source = tt }
request-legal Rs485 s t own id k p a h = record { plain = h.plain; tells = h.tells; fields = h.fields; source = a.0 }
request-legal Can s t own id k p a h = record { plain = h.plain; tells = h.tells; fields = h.fields; source = tt }
request-legal Csp s t own id k p a h = record { plain = h.plain; tells = h.tells; fields = h.fields; source = tt }

answer-legal : (l : Link) (s t own : ℕ) (m : Message) (k : Kind) (e i : ℕ) (p : List ℕ) → Addressed l s t own → Plain (answer_of l own m k e i) p → LegalMessage l (answer_of l own m k e i) p
unfolding answer_source
answer-legal Uart s t own m k e i p a h = record { plain = h.plain; tells = h.tells; fields = h.fields; source = tt }
answer-legal Rs485 s t own m k e i p a h = record { plain = h.plain; tells = h.tells; fields = h.fields; source = a.1 }
answer-legal Can s t own m k e i p a h = record { plain = h.plain; tells = h.tells; fields = h.fields; source = tt }
answer-legal Csp s t own m k e i p a h = record { plain = h.plain; tells = h.tells; fields = h.fields; source = tt }

-- What the sender asks arrives, and what the unit answers.
pub request_arrives_lem : (l : Link) (s t own id : ℕ) (k : Kind) (p : List ℕ) → Addressed l s t own → Plain (request_of k id s t) p → Arrives l (request_of k id s t) p
request_arrives_lem l s t own id k p a h = legal-arrives l _ p (request-legal l s t own id k p a h)

pub answer-arrives : (l : Link) (s t own : ℕ) (m : Message) (k : Kind) (e i : ℕ) (p : List ℕ) → Addressed l s t own → Plain (answer_of l own m k e i) p → Arrives l (answer_of l own m k e i) p
answer-arrives l s t own m k e i p a h = legal-arrives l _ p (answer-legal l s t own m k e i p a h)

-- A request is for the unit alone.
pub request-own : (l : Link) (s t own id : ℕ) (k : Kind) → Addressed l s t own → addressing l own (link_carried l (request_of k id s t)) ≡ Own
unfolding addressing link_carried carried_on
request-own Uart s t own id k a = refl
request-own Rs485 s t own id k a = unit-own own (link_carried Rs485 (request_of k id s t)) (λ zero. omega (arith, zero, a.1, a.2)) a.2
request-own Can s t own id k a = refl
request-own Csp s t own id k a = refl

-- The addresses of an answer fit the request's.
pub answer-fits : (l : Link) (s t own id : ℕ) (k k' : Kind) (e i : ℕ) → Addressed l s t own
    → let m = link_carried l (answer_of l own (link_carried l (request_of k id s t)) k' e i) in
    (not (carries_addresses l) || (eqb m.destination s && eqb m.source t)) ≡ true
unfolding link_carried carried_on answer_source
answer-fits Uart s t own id k k' e i a = refl
answer-fits Rs485 s t own id k k' e i a = rw (eq-eqb s s refl, eq-eqb own t (sym a.2))
answer-fits Can s t own id k k' e i a = rw (eq-eqb s s refl, eq-eqb t t refl)
answer-fits Csp s t own id k k' e i a = refl
