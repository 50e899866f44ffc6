-- The laws of a row of checks, by its tests in their order: which number a failed one gives, and that the row passes exactly where each holds.
use Prim.Native.Nat.{ℕ, ◌≤◌}
use mathlib.Core.Path.{◌≡◌, refl}
use mathlib.Core.Bool.{Bool, true, false, ◌&&◌, ◌||◌}
use native.Mathlib.Omega.{arith}
use borrow.Author.Tests.{leb-true}
use lib.Dec.{leb}
use Rattle.message_rules.specs.Answer.{Check, passed, failed, require}
use Rattle.message_rules.specs.Checks.{id_legal, payload_legal, error_legal, field_checks, error_told, writable, write_checks}
use Rattle.message_rules.specs.Kinds.{inside, payload_range, is_event}
use Rattle.message_rules.specs.declared.Carries.{Carries}
use Rattle.message_rules.specs.declared.Kind.{Kind}
use Rattle.message_rules.specs.declared.Kind.TheVariants as KindOf
use Rattle.message_rules.specs.declared.Message.{Message}

pub require-passed : (t : Bool) (n : ℕ) (rest : Check) → require t n rest ≡ passed → (t ≡ true) × (rest ≡ passed)
unfolding require
require-passed true n rest e = (refl, e)
require-passed false n rest e = absurd (let z : ◌≡◌ {A = ℕ} 0 1 = cc in omega arith)

pub both_true : (a b : Bool) → a && b ≡ true → (a ≡ true) × (b ≡ true)
both_true true b e = (refl, e)
both_true false b e = absurd (let z : ◌≡◌ {A = ℕ} 0 1 = cc in omega arith)

pub both_false : (a b : Bool) → a || b ≡ false → (a ≡ false) × (b ≡ false)
both_false false b e = (refl, e)
both_false true b e = absurd (let z : ◌≡◌ {A = ℕ} 0 1 = cc in omega arith)

module _ (m : Message) (fits : Bool) where
  -- "5, 6, 7": an ID out of the kind's range is 5, whatever the length is;
  pub id-first : id_legal m.kind m.id ≡ false → field_checks m fits ≡ failed 5
  unfolding field_checks require
  id-first h5 = rw h5

  -- with a legal ID a wrong length is 6, whatever the error byte is.
  pub length-next : id_legal m.kind m.id ≡ true → fits ≡ false → field_checks m fits ≡ failed 6
  unfolding field_checks require
  length-next h5 h6 = rw (h5, h6)

  pub fields_passed : field_checks m fits ≡ passed → (id_legal m.kind m.id ≡ true) × (fits ≡ true) × (error_legal m.kind m.error ≡ true)
  unfolding field_checks
  fields_passed h =
      let h5 = require-passed (id_legal m.kind m.id) 5 _ h in
      let h6 = require-passed fits 6 _ h5.1 in
      (h5.0, h6.0, (require-passed (error_legal m.kind m.error) 7 _ h6.1).0)

  pub fields_pass : id_legal m.kind m.id ≡ true → fits ≡ true → error_legal m.kind m.error ≡ true → field_checks m fits ≡ passed
  unfolding field_checks require
  fields_pass h5 h6 h7 = rw (h5, h6, h7)

-- On a link with error bytes and no events a message is writable exactly where it is no event and no nack that is "not told".
pub plain-writable : (m : Message) → writable (record { events = false; errors = true }) m ≡ true → (is_event m.kind ≡ false) × (error_told m.kind m.error ≡ true)
unfolding writable
plain-writable m e = by (is_event m.kind) refl
  where
    by : (b : Bool) → is_event m.kind ≡ b → (is_event m.kind ≡ false) × (error_told m.kind m.error ≡ true)
    by true q = absurd (let z : ◌≡◌ {A = ℕ} 0 1 = cc (rw q at e) in omega arith)
    by false q = (q, rw q at e)

pub writable-plain : (m : Message) → is_event m.kind ≡ false → error_told m.kind m.error ≡ true → writable (record { events = false; errors = true }) m ≡ true
unfolding writable
writable-plain m h t = rw (h, t)

-- A payload that passes the checks has at most 256 bytes.
most : (k : Kind) → (payload_range k).1 ≤ 256
most KindOf.Telecommand = omega arith
most KindOf.TelecommandAck = omega arith
most KindOf.TelecommandNack = omega arith
most KindOf.TelemetryRequest = omega arith
most KindOf.TelemetryResponse = omega arith
most KindOf.TelemetryNack = omega arith
most KindOf.Event = omega arith

pub payload-most : (c : Carries) (m : Message) (n : ℕ) → write_checks c m n ≡ passed → n ≤ 256
unfolding write_checks payload_legal inside
payload-most c m n e =
    let fields = fields_passed m (payload_legal m.kind n) (require-passed _ 9 _ e).1 in
    let range = payload_range m.kind in
    omega (arith, leb-true n range.1 (both_true (leb range.0 n) (leb n range.1) fields.1).1, most m.kind)
