-- The laws of the kinds' tables, by the kind.
use Rattle.std.specs.Prelude.{None, Some}
use Prim.Native.Nat.{ℕ, ◌≤◌}
use mathlib.Core.Bool.{Bool, true, false, cond}
use mathlib.Core.Path.{◌≡◌, refl, sym, ◌∙◌}
use native.Mathlib.Omega.{arith}
use borrow.Author.Tests.{eqb-true}
use lib.Dec.{eqb}
use Rattle.message_rules.specs.Kinds.{error_length, type_number, type_kind, is_ack, is_nack, is_event, is_telecommand}
use Rattle.message_rules.specs.declared.Kind.{Kind}
use Rattle.message_rules.specs.declared.Kind.TheVariants.{Telecommand, TelecommandAck, TelecommandNack, TelemetryRequest, TelemetryResponse, TelemetryNack, Event}

-- At most an error byte and an index tell the error.
pub error_length_two : (k : Kind) → error_length k ≤ 2
error_length_two Telecommand = omega arith
error_length_two TelecommandAck = omega arith
error_length_two TelecommandNack = omega arith
error_length_two TelemetryRequest = omega arith
error_length_two TelemetryResponse = omega arith
error_length_two TelemetryNack = omega arith
error_length_two Event = omega arith

-- Which kind it is, by what it carries: an ack has an error byte alone, a nack an index too; an event has type 9, and a telecommand 1.
pub ack_alone : (k : Kind) → is_ack k ≡ eqb (error_length k) 1
ack_alone Telecommand = refl
ack_alone TelecommandAck = refl
ack_alone TelecommandNack = refl
ack_alone TelemetryRequest = refl
ack_alone TelemetryResponse = refl
ack_alone TelemetryNack = refl
ack_alone Event = refl

pub nack_both : (k : Kind) → is_nack k ≡ eqb (error_length k) 2
nack_both Telecommand = refl
nack_both TelecommandAck = refl
nack_both TelecommandNack = refl
nack_both TelemetryRequest = refl
nack_both TelemetryResponse = refl
nack_both TelemetryNack = refl
nack_both Event = refl

pub event_nine : (k : Kind) → is_event k ≡ eqb (type_number k) 9
event_nine Telecommand = refl
event_nine TelecommandAck = refl
event_nine TelecommandNack = refl
event_nine TelemetryRequest = refl
event_nine TelemetryResponse = refl
event_nine TelemetryNack = refl
event_nine Event = refl

pub telecommand_one : (k : Kind) → is_telecommand k ≡ eqb (type_number k) 1
telecommand_one Telecommand = refl
telecommand_one TelecommandAck = refl
telecommand_one TelecommandNack = refl
telecommand_one TelemetryRequest = refl
telecommand_one TelemetryResponse = refl
telecommand_one TelemetryNack = refl
telecommand_one Event = refl

-- A kind's type stands for that kind, but an event's, which is none of 1..6.
pub kind_of_type_lem : (k : Kind) → is_event k ≡ false → type_kind (type_number k) ≡ Some k
unfolding type_kind
kind_of_type_lem Telecommand h = refl
kind_of_type_lem TelecommandAck h = refl
kind_of_type_lem TelecommandNack h = refl
kind_of_type_lem TelemetryRequest h = refl
kind_of_type_lem TelemetryResponse h = refl
kind_of_type_lem TelemetryNack h = refl
kind_of_type_lem Event h = absurd (let z : ◌≡◌ {A = ℕ} 0 1 = cc in omega arith)

-- A row of a table by number, in front of the others: the entry is this row's, or one of theirs.
pub by_row : {A P : Type 0} (t n : ℕ) (x rest y : A) → (t ≡ n → x ≡ y → P) → (rest ≡ y → P) → cond (eqb t n) x rest ≡ y → P
by_row {A} {P} t n x rest y found others e = by (eqb t n) refl
  where
    by : (b : Bool) → eqb t n ≡ b → P
    by true q = found (eqb-true t n q) (rw q at e)
    by false q = others (rw q at e)

-- The kind that a number stands for has that number, and is no event.
pub type_of_kind : (t : ℕ) (k : Kind) → type_kind t ≡ Some k → (type_number k ≡ t) × (is_event k ≡ false)
unfolding type_kind
type_of_kind t k e =
    by_row t 1 _ _ _ (found Telecommand refl refl) (by_row t 2 _ _ _ (found TelecommandAck refl refl)
    (by_row t 3 _ _ _ (found TelecommandNack refl refl) (by_row t 4 _ _ _ (found TelemetryRequest refl refl)
    (by_row t 5 _ _ _ (found TelemetryResponse refl refl) (by_row t 6 _ _ _ (found TelemetryNack refl refl) none)))))
    e
  where
    Found : Type 0
    Found = (type_number k ≡ t) × (is_event k ≡ false)

    found : (k₁ : Kind) {n : ℕ} → type_number k₁ ≡ n → is_event k₁ ≡ false → t ≡ n → Some k₁ ≡ Some k → Found
    found k₁ hn he ht f = let g : k ≡ k₁ = cc in rw g (hn ∙ sym ht, he)

    none : None ≡ Some k → Found
    none f = absurd (let z : ◌≡◌ {A = ℕ} 0 1 = cc in omega arith)
