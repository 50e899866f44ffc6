-- What becomes of bytes that arrive: which messages are the unit's, what a broadcast does, and when there is silence. Carried by the definitions,
-- opened at the link and at the destination.
use Rattle.std.specs.Prelude.{None, Some}
use Prim.Native.Nat.{ℕ}
use mathlib.Core.Bool.{false}
use mathlib.Core.List.{List, []}
use mathlib.Core.Path.{◌≡◌, refl, sym, ap, ◌∙◌}
use native.Mathlib.Omega.{arith}
use borrow.Author.Tests.{eq-eqb, ne_eqb}
use Rattle.message_rules.specs.Answer.{Answer, refused, given, within, about}
use Rattle.message_rules.specs.Kinds.{is_telecommand}
use Rattle.message_rules.specs.declared.Kind.TheVariants.{Telecommand}
use Rattle.message_rules.specs.declared.Message.{Message}
use Rattle.message_rules.proofs.Answers.{long_enough}
use Rattle.link_rules.specs.Link.{link_read}
use Rattle.link_rules.specs.declared.Link.{Link}
use Rattle.link_rules.specs.declared.Link.TheVariants.{Uart, Rs485, Can, Csp}
use Rattle.link_rules.proofs.Laws.{within-given}
use Rattle.device_rules.specs.declared.Addressing.{Addressing}
use Rattle.device_rules.specs.declared.Addressing.TheVariants.{Own, Broadcast, Other}
use Rattle.device_rules.specs.declared.Device.{Device}
use Rattle.device_rules.specs.declared.Fault.TheVariants.{Repeat, Nack}
use Rattle.device_rules.specs.Answers.{after_receive}
use Rattle.device_rules.specs.Commands.{command_done, after_command}
use Rattle.device_rules.specs.Faults.{command_fault}
use Rattle.device_rules.specs.Receive.{Reply, answers, silent, addressing, silence, command_reply, kind_reply, after_broadcast, addressed_reply, message_reply, receive}

-- "On CAN and CSP every message is the unit's", also one for 0; and on UART.
pub every-own : (l : Link) (own : ℕ) (m : Message) → (l ≡ Rs485 → ⊥) → addressing l own m ≡ Own
unfolding addressing
every-own Uart own m other = refl
every-own Rs485 own m other = absurd (other refl)
every-own Can own m other = refl
every-own Csp own m other = refl

-- On RS485 the destination decides.
module _ (own : ℕ) (m : Message) where
  pub zero_broadcast : m.destination ≡ 0 → addressing Rs485 own m ≡ Broadcast
  unfolding addressing
  zero_broadcast zero = simp (eq-eqb m.destination 0 zero)

  pub unit-own : (m.destination ≡ 0 → ⊥) → m.destination ≡ own → addressing Rs485 own m ≡ Own
  unfolding addressing
  unit-own nonzero same = simp (ne_eqb m.destination 0 nonzero, eq-eqb m.destination own same)

  pub unit-other : (m.destination ≡ 0 → ⊥) → (m.destination ≡ own → ⊥) → addressing Rs485 own m ≡ Other
  unfolding addressing
  unit-other nonzero another = simp (ne_eqb m.destination 0 nonzero, ne_eqb m.destination own another)

-- Silence fits every output.
pub silence-fits : (d : Device) (out : List ℕ) → within out (silence d) ≡ given (silent d) []
silence-fits d out = long_enough out (silent d) [] (omega arith)

-- "Unreadable bytes get no answer."
pub unreadable_silent : (d : Device) (store : ℕ) (b : List ℕ) (n : ℕ) → link_read d.link b ≡ refused n → receive d store b ≡ silence d
unfolding receive message_reply
unreadable_silent d store b n e = rw e

-- The unit that a reply leaves, where its answer was written.
answered-unit : (d next : Device) (x : Answer Unit (List ℕ)) (r : Reply) (answer : List ℕ) → about (answers next) x ≡ given r answer → after_receive d (given r answer) ≡ next
unfolding about after_receive
answered-unit d next (refused n) r answer e = absurd (let z : ◌≡◌ {A = ℕ} 0 1 = cc in omega arith)
answered-unit d next (given u bytes) r answer e = let same : answers next ≡ r = cc in rw (← same)

-- A message arrives while a store of so many bytes is lent.
module _ (d : Device) (store : ℕ) (b : List ℕ) (m : Message) (p : List ℕ) (reads : link_read d.link b ≡ given m p) where
  pub message-replied : receive d store b ≡ message_reply d store (given m p)
  unfolding receive
  message-replied = rw reads

  addressed-replied : (a : Addressing) → addressing d.link d.own m ≡ a → receive d store b ≡ addressed_reply a d store m p
  unfolding message_reply
  addressed-replied a e = message-replied ∙ rw e

  -- The unit's own messages are answered by their kind; "others are passed over in silence."
  pub own-replied : addressing d.link d.own m ≡ Own → receive d store b ≡ kind_reply m.kind d store m p
  unfolding addressed_reply
  own-replied e = addressed-replied Own e

  pub others_passed : addressing d.link d.own m ≡ Other → receive d store b ≡ silence d
  unfolding addressed_reply
  others_passed e = addressed-replied Other e

  -- On RS485, for 0:
  module _ (rs485 : d.link ≡ Rs485) (zero : m.destination ≡ 0) where
    broadcast : addressing d.link d.own m ≡ Broadcast
    broadcast = rw rs485 (zero_broadcast d.own m zero)

    -- a broadcast "gets no answer", so no output is too short for it;
    pub broadcast_silent : (out : List ℕ) → within out (receive d store b) ≡ silence (after_broadcast d store m p)
    unfolding addressed_reply
    broadcast_silent out = ap (within out) (addressed-replied Broadcast broadcast) ∙ silence-fits _ out

    -- "a broadcast telecommand is carried out",
    pub broadcast_done : m.kind ≡ Telecommand → command_fault d store m.id p ≡ None → receive d store b ≡ silence (command_done d m.id p)
    unfolding addressed_reply after_broadcast after_command
    broadcast_done k h = addressed-replied Broadcast broadcast ∙ simp (k, h)

    -- with a fault it changes nothing,
    pub broadcast_nacked : m.kind ≡ Telecommand → (e i : ℕ) → command_fault d store m.id p ≡ Some (Nack e i) → receive d store b ≡ silence d
    unfolding addressed_reply after_broadcast after_command
    broadcast_nacked k e i h = addressed-replied Broadcast broadcast ∙ simp (k, h)

    -- and as a setup that repeats the open job's neither,
    pub broadcast_repeated : m.kind ≡ Telecommand → command_fault d store m.id p ≡ Some Repeat → receive d store b ≡ silence d
    unfolding addressed_reply after_broadcast after_command
    broadcast_repeated k h = addressed-replied Broadcast broadcast ∙ simp (k, h)

    -- "and a broadcast telemetry request is passed over", as every other kind is.
    pub broadcast_passed : is_telecommand m.kind ≡ false → receive d store b ≡ silence d
    unfolding addressed_reply after_broadcast
    broadcast_passed k = addressed-replied Broadcast broadcast ∙ simp k

  -- Acked or not, a telecommand is carried out that has no fault and is not another unit's, unless the call is refused.
  pub carried_out : (out : List ℕ) (r : Reply) (answer : List ℕ) → m.kind ≡ Telecommand → command_fault d store m.id p ≡ None
      → (addressing d.link d.own m ≡ Other → ⊥) → within out (receive d store b) ≡ given r answer → after_receive d (given r answer) ≡ command_done d m.id p
  unfolding addressed_reply after_broadcast kind_reply command_reply after_command after_receive
  carried_out out r answer k h for_unit e = by (addressing d.link d.own m) refl
    where
      received : receive d store b ≡ given r answer
      received = (within-given out (receive d store b) r answer e).0

      by : (a : Addressing) → addressing d.link d.own m ≡ a → after_receive d (given r answer) ≡ command_done d m.id p
      by Own q = answered-unit d _ _ r answer (rw (k, h) at (sym (addressed-replied Own q) ∙ received))
      by Broadcast q =
          let same : silent (command_done d m.id p) ≡ r = cc (rw (k, h) at (sym (addressed-replied Broadcast q) ∙ received)) in
          rw (← same)
      by Other q = absurd (for_unit q)
