-- What the reader can say of a frame: a message that passed the writer's checks too, by the round trip, or a number below ten.
use Rattle.message_rules.specs.declared.Refusal.{Refusal}
use Rattle.std.specs.Prelude.{None, Option, Some, ℕ, Result}
use Prim.Native.Nat.{ℕ, ◌≤◌, ◌<◌}
use mathlib.Core.Bool.{Bool, true, false}
use mathlib.Core.List.{List}
use mathlib.Core.Path.{◌≡◌, refl}
use native.Mathlib.Omega.{arith}
use borrow.Author.Tests.{leb-true}
use lib.Dec.{leb}
use lib.ListN.{length, get_or, drop}
use Rattle.message_rules.proofs.Answers.{after-passed, long_enough}
use Rattle.message_rules.proofs.Checks.{require-passed, both_true, fields_passed, payload-most}
use Rattle.message_rules.specs.Answer.{Answer, refused, given, Check, passed, failed, require, after, within, counted, read_result}
use Rattle.message_rules.specs.Data.{error_number, data_message, data_read}
use Rattle.message_rules.specs.Checks.{id_legal, payload_legal, error_legal, field_checks, data_checks, writable, write_checks}
use Rattle.message_rules.specs.Kinds.{inside, id_range, error_range}
use Rattle.message_rules.specs.declared.Kind.TheVariants as KindOf
use Rattle.message_rules.specs.declared.Kind.{Kind}
use Rattle.message_rules.specs.declared.Message.{Message}
use Rattle.serial_rules.specs.Stuffing.{scan}
use Rattle.serial_rules.specs.declared.Stop.TheVariants.{Ended, Broken, Cut}
use Rattle.serial_rules.specs.declared.Stop.{Stop}
use Rattle.serial_rules.proofs.RoundTrip.{read_writes}
use Rattle.serial_rules.specs.Frames.{start_row, kind_of, id_field, source_legal, source_checked, kind_read, identified, frame_body, closed, row_read, started, serial_carries, frame_read, frame_write}
use Rattle.serial_rules.specs.declared.StartRow.{StartRow}
use Rattle.serial_rules.specs.declared.SerialLink.TheVariants.{Uart}

module _ (b : List ℕ) where
  pub read_checked : (m : Message) (p : List ℕ) → frame_read Uart b ≡ given m p → write_checks (serial_carries Uart) m (length p) ≡ passed
  unfolding frame_write
  read_checked m p e = (after-passed (write_checks (serial_carries Uart) m (length p)) _ tt b (read_writes Uart b m p e)).0

  -- 256 bytes have room for every payload: 8 can't occur.
  pub read-room : (out : List ℕ) → 256 ≤ length out → within out (frame_read Uart b) ≡ frame_read Uart b
  unfolding within
  read-room out h = by (frame_read Uart b) refl
    where
      by : (x : Answer Message (List ℕ)) → frame_read Uart b ≡ x → within out (frame_read Uart b) ≡ frame_read Uart b
      by (refused n) e = rw e
      by (given m p) e =
          let most = payload-most (serial_carries Uart) m (length p) (read_checked m p e) in
          rw e (long_enough out m p (omega arith))

  pub counted-most : (m : Message) (n : ℕ) → given m n ≡ counted (frame_read Uart b) → n ≤ 256
  unfolding counted
  counted-most m n t = by (frame_read Uart b) refl
    where
      by : (x : Answer Message (List ℕ)) → frame_read Uart b ≡ x → n ≤ 256
      by (refused k) e = absurd (let z : ◌≡◌ {A = ℕ} 0 1 = cc (rw e at t) in omega arith)
      by (given m' p) e =
          let size : n ≡ length p = cc (rw e at t) in
          omega (arith, payload-most (serial_carries Uart) m' (length p) (read_checked m' p e))

  -- What a caller of the reader learns, where it lends that much.
  pub counted-whole : (out : List ℕ) (r : Result (Message × ℕ) Refusal) → 256 ≤ length out → read_result r ≡ counted (within out (frame_read Uart b)) → read_result r ≡ counted (frame_read Uart b)
  counted-whole out r h says = rw (read-room out h) at says

-- A legal ID and a legal error byte are at most 255, by the kind.
ranges : (k : Kind) → ((id_range k).1 ≤ 255) × ((error_range k).1 ≤ 255)
ranges KindOf.Telecommand = (omega arith, omega arith)
ranges KindOf.TelecommandAck = (omega arith, omega arith)
ranges KindOf.TelecommandNack = (omega arith, omega arith)
ranges KindOf.TelemetryRequest = (omega arith, omega arith)
ranges KindOf.TelemetryResponse = (omega arith, omega arith)
ranges KindOf.TelemetryNack = (omega arith, omega arith)
ranges KindOf.Event = (omega arith, omega arith)

id-most : (k : Kind) (id : ℕ) → id_legal k id ≡ true → id ≤ 255
unfolding id_legal inside
id-most k id h =
    omega (arith, leb-true id (id_range k).1 (both_true (leb (id_range k).0 id) (leb id (id_range k).1) h).1, ranges k)

error-most : (k : Kind) (e : Option ℕ) → error_legal k e ≡ true → error_number e ≤ 255
unfolding error_legal inside
error-most k (Some e) h =
    omega (arith, leb-true e (error_range k).1 (both_true (leb (error_range k).0 e) (leb e (error_range k).1) h).1, ranges k)
error-most k None h = omega arith

-- The numbers of a line whose frame reads as a message.
pub read-most : (b : List ℕ) (m : Message) (p : List ℕ) → frame_read Uart b ≡ given m p → (m.id ≤ 255) × (error_number m.error ≤ 255) × (length p ≤ 256)
unfolding write_checks
read-most b m p e =
    let c = read_checked b m p e in
    let f = fields_passed m (payload_legal m.kind (length p)) (require-passed (writable (serial_carries Uart) m) 9 _ c).1 in
    (id-most m.kind m.id f.0, error-most m.kind m.error f.2, payload-most (serial_carries Uart) m (length p) c)

-- A refusal's number has one digit: so has each check's, in their order.
abbrev LowCheck : Check → Type 0
LowCheck passed = Unit
LowCheck (failed n) = n < 10

abbrev Low : Answer Message (List ℕ) → Type 0
Low (refused n) = n < 10
Low (given m p) = Unit

low_require : (t : Bool) (n : ℕ) (c : Check) → n < 10 → LowCheck c → LowCheck (require t n c)
unfolding require
low_require true n c h l = l
low_require false n c h l = h

low_after : (c : Check) (x : Answer Message (List ℕ)) → LowCheck c → Low x → Low (after c x)
unfolding after
low_after passed x h l = l
low_after (failed n) x h l = h

low_fields : (m : Message) (fits : Bool) → LowCheck (field_checks m fits)
unfolding field_checks
low_fields m fits = low_require _ 5 _ (omega arith) (low_require fits 6 _ (omega arith) (low_require _ 7 passed (omega arith) tt))

low_source_checked : (x : Answer Message (List ℕ)) → Low x → Low (source_checked Uart x)
unfolding source_checked
low_source_checked (refused n) h = h
low_source_checked (given m p) h = low_after _ (given m p) (low_require (source_legal Uart m.source) 7 passed (omega arith) tt) tt

low_data : (k : Kind) (id s t : ℕ) (d : List ℕ) → Low (data_read k id s t d)
unfolding data_read data_checks
low_data k id s t d = low_after _ (given _ _) (low_fields (data_message k id s t d) _) tt

low_identified : (r : StartRow) (k : Option Kind) (d : List ℕ) → Low (identified Uart r k d)
unfolding identified kind_read
low_identified r None d = omega arith
low_identified r (Some k) d = low_source_checked _ (low_data k _ _ _ _)

low_closed : (r : StartRow) (stop : Stop) (n size : ℕ) (d : List ℕ) → Low (closed Uart r stop n size d)
unfolding closed frame_body
low_closed r Cut n size d = omega arith
low_closed r Broken n size d = omega arith
low_closed r Ended n size d =
    low_after _ (frame_body Uart r d) (low_require _ 4 passed (omega arith) tt)
    (low_after _ _ (low_require _ 6 passed (omega arith) tt) (low_identified r (kind_of r (id_field r d)) d))

low_started : (r : Option StartRow) (s : List ℕ) → Low (started Uart r s)
unfolding started row_read
low_started None s = omega arith
low_started (Some r) s = low_closed r (scan s).stop (scan s).consumed (length s) (scan s).body

low_read : (b : List ℕ) → Low (frame_read Uart b)
unfolding frame_read
low_read b =
    low_after _ (started Uart (start_row Uart (get_or b 1 0)) (drop 2 b))
    (low_require _ 1 _ (omega arith) (low_require _ 2 _ (omega arith) (low_require _ 1 passed (omega arith) tt)))
    (low_started (start_row Uart (get_or b 1 0)) (drop 2 b))

pub read_low : (b : List ℕ) (n : ℕ) → frame_read Uart b ≡ refused n → n < 10
read_low b n e = rw e at (low_read b)
