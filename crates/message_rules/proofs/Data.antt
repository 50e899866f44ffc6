-- The laws of the data that UART, RS485 and CSP share: what its checks say, by their tests, and that reading and writing it are inverse, by the
-- case of the kind.
use Rattle.std.specs.Prelude.{None, Option, Some, ℕ, Ok, Result}
use Prim.Native.Nat.{ℕ, ◌+◌, ◌-◌, ◌≤◌}
use mathlib.Core.Path.{◌≡◌, refl, ap, ◌∙◌}
use mathlib.Core.Bool.{Bool, true, false, cond}
use mathlib.Core.List.{List, [], ◌∷◌, ◌++◌}
use native.Mathlib.Nat.{add-sub_cancel_left}
use borrow.Author.Tests.{leb-true, le-leb}
use lib.Dec.{leb}
use lib.Seq.{drop_at}
use native.Mathlib.Omega.{arith}
use lib.ListN.{length, get_or, take, drop, length-drop, length-append, length-take}
use Rattle.message_rules.specs.Answer.{verdict_result, passed, failed, refused, given, after}
use Rattle.message_rules.specs.Data.{error_number, error_bytes, data_bytes, data_message, data_read}
use Rattle.message_rules.specs.Checks.{id_legal, payload_legal, error_legal, error_told, field_checks, data_fits, data_checks}
use Rattle.message_rules.specs.Kinds.{inside, error_length, is_event, error_carried, index_carried, carried_on}
use Rattle.message_rules.specs.declared.Kind.{Kind}
use Rattle.message_rules.specs.declared.Kind.TheVariants.{Telecommand, TelecommandAck, TelecommandNack, TelemetryRequest, TelemetryResponse, TelemetryNack, Event}
use Rattle.message_rules.specs.declared.Message.{Message}
use Rattle.message_rules.specs.declared.Refusal.{Refusal}
use Rattle.message_rules.proofs.Answers.{after-given}
use Rattle.message_rules.proofs.Checks.{both_true, fields_passed, fields_pass}
use Rattle.message_rules.proofs.Tables.{error_length_two}

-- Data of the right length holds what tells the error, and a payload that the kind can have.
pub data_fits_lem : (k : Kind) (n : ℕ) → data_fits k n ≡ true → (error_length k ≤ n) × (payload_legal k (n - error_length k) ≡ true)
unfolding data_fits
data_fits_lem k n e = let h = both_true _ _ e in (leb-true _ _ h.0, h.1)

-- So where the checks pass, the payload starts within the data.
pub data-room : (v : Result Unit Refusal) (m : Message) (n : ℕ) → verdict_result v ≡ data_checks m n → v ≡ Ok tt → error_length m.kind ≤ n
unfolding verdict_result data_checks
data-room v m n result p =
    let h : data_checks m n ≡ passed = cc in
    (data_fits_lem m.kind n (fields_passed m (data_fits m.kind n) h).1).0

module _ (k : Kind) (id s t : ℕ) (d : List ℕ) where
  pub data-refused : (n : ℕ) → data_checks (data_message k id s t d) (length d) ≡ failed n → data_read k id s t d ≡ refused n
  unfolding data_read after
  data-refused n e = rw e

  pub data-given : data_checks (data_message k id s t d) (length d) ≡ passed → data_read k id s t d ≡ given (data_message k id s t d) (drop (error_length k) d)
  unfolding data_read after
  data-given e = rw e

-- What tells the error reads back, by the kind.
fields_again : (k : Kind) (id s t e i : ℕ) (p : List ℕ)
    → data_message k id s t (take (error_length k) (e ∷ i ∷ []) ++ p) ≡ record { kind = k; id = id; source = s; destination = t; error = error_carried true k (Some e); index = index_carried true k i }
unfolding data_message error_carried index_carried
fields_again Telecommand id s t e i p = refl
fields_again TelecommandAck id s t e i p = refl
fields_again TelecommandNack id s t e i p = refl
fields_again TelemetryRequest id s t e i p = refl
fields_again TelemetryResponse id s t e i p = refl
fields_again TelemetryNack id s t e i p = refl
fields_again Event id s t e i p = refl

-- A legal error that a link can write is told wherever the kind carries one.
carried_told : (k : Kind) (e : Option ℕ) → error_legal k e ≡ true → error_told k e ≡ true → error_carried true k (Some (error_number e)) ≡ error_carried true k e
unfolding error_carried error_legal error_told
carried_told k (Some e) legal tells = refl
carried_told Telecommand None legal tells = refl
carried_told TelecommandAck None legal tells = absurd (let z : ◌≡◌ {A = ℕ} 0 1 = cc in omega arith)
carried_told TelecommandNack None legal tells = absurd (let z : ◌≡◌ {A = ℕ} 0 1 = cc in omega arith)
carried_told TelemetryRequest None legal tells = refl
carried_told TelemetryResponse None legal tells = refl
carried_told TelemetryNack None legal tells = absurd (let z : ◌≡◌ {A = ℕ} 0 1 = cc in omega arith)
carried_told Event None legal tells = refl

-- A legal field stays so where the kind drops it: the ID, and what tells the error.
carried_legal : (k : Kind) (id : ℕ) (e : Option ℕ) → id_legal k id ≡ true → error_legal k e ≡ true
    → (id_legal k (cond (is_event k) 255 id) ≡ true) × (error_legal k (error_carried true k e) ≡ true)
unfolding id_legal error_legal error_carried inside
carried_legal Telecommand id e h legal = (h, refl)
carried_legal TelecommandAck id e h legal = (h, legal)
carried_legal TelecommandNack id e h legal = (h, legal)
carried_legal TelemetryRequest id e h legal = (h, refl)
carried_legal TelemetryResponse id e h legal = (h, refl)
carried_legal TelemetryNack id e h legal = (h, legal)
carried_legal Event id e h legal = (refl, refl)

pub error_bytes_length : (m : Message) → length (error_bytes m) ≡ error_length m.kind
unfolding error_bytes
error_bytes_length m = rw length-take (omega (arith, error_length_two m.kind))

-- Data of a payload that the kind can have is of the right length.
data_right : (m : Message) (p : List ℕ) → payload_legal m.kind (length p) ≡ true → data_fits m.kind (length (data_bytes m p)) ≡ true
unfolding data_fits data_bytes
data_right m p legal =
    let n = error_length m.kind in
    let long : n ≤ n + length p = omega arith in
    rw (length-append, error_bytes_length m, le-leb _ _ long, add-sub_cancel_left) legal

-- Reading data that was written, after fields that a link carries, returns every carried field and the payload.
pub data-written : (addresses : Bool) (m : Message) (p : List ℕ) → field_checks m (payload_legal m.kind (length p)) ≡ passed → error_told m.kind m.error ≡ true
    → let c = carried_on addresses true m in data_read m.kind c.id c.source c.destination (data_bytes m p) ≡ given c p
unfolding data_bytes error_bytes data_checks carried_on
data-written addresses m p checks tells =
    let h = fields_passed m (payload_legal m.kind (length p)) checks in
    let d = data_bytes m p in
    let c = carried_on addresses true m in
    let legal = carried_legal m.kind m.id m.error h.0 h.2 in
    let same : data_message m.kind c.id c.source c.destination d ≡ c =
    fields_again m.kind c.id c.source c.destination (error_number m.error) m.index p ∙ rw (carried_told m.kind m.error h.2 tells) in
    let passes : data_checks (data_message m.kind c.id c.source c.destination d) (length d) ≡ passed =
    rw same (fields_pass c (data_fits m.kind (length d)) legal.0 (data_right m p h.1) legal.1) in
    rw (data-given m.kind c.id c.source c.destination d passes, same) (ap (given c) (drop_at (error_bytes m) p (error_length m.kind) (error_bytes_length m)))

-- What tells the error is written again as it was read, by the kind.
bytes-again : (k : Kind) (id s t : ℕ) (d : List ℕ) → error_length k ≤ length d → data_bytes (data_message k id s t d) (drop (error_length k) d) ≡ d
unfolding data_bytes error_bytes data_message error_carried index_carried
bytes-again Telecommand id s t d h = refl
bytes-again TelecommandAck id s t [] h = absurd (omega arith)
bytes-again TelecommandAck id s t (x ∷ d) h = refl
bytes-again TelecommandNack id s t [] h = absurd (omega arith)
bytes-again TelecommandNack id s t (x ∷ []) h = absurd (omega arith)
bytes-again TelecommandNack id s t (x ∷ y ∷ d) h = refl
bytes-again TelemetryRequest id s t d h = refl
bytes-again TelemetryResponse id s t d h = refl
bytes-again TelemetryNack id s t [] h = absurd (omega arith)
bytes-again TelemetryNack id s t (x ∷ []) h = absurd (omega arith)
bytes-again TelemetryNack id s t (x ∷ y ∷ d) h = refl
bytes-again Event id s t d h = refl

-- An error that was read is told.
read_told : (k : Kind) (b : Bool) (e : ℕ) → error_told k (cond b (Some e) (Some 0)) ≡ true
unfolding error_told
read_told k true e = refl
read_told k false e = refl

-- Writing data that was read returns it.
pub data_read_lem : (k : Kind) (id s t : ℕ) (d : List ℕ) (m : Message) (p : List ℕ) → data_read k id s t d ≡ given m p
    → (data_message k id s t d ≡ m) × (error_told m.kind m.error ≡ true) × (field_checks m (payload_legal m.kind (length p)) ≡ passed) × (data_bytes m p ≡ d)
unfolding data_read data_checks data_message error_carried
data_read_lem k id s t d m p e =
    let c = data_message k id s t d in
    let g = after-given (data_checks c (length d)) c m (drop (error_length k) d) p e in
    let h = fields_passed c (data_fits k (length d)) g.0 in
    let f = data_fits_lem k (length d) h.1 in (
      g.1,
      rw (← g.1) (read_told k (leb 1 (error_length k)) (get_or d 0 0)),
      rw (← g.1, ← g.2) (fields_pass c _ h.0 (rw length-drop f.1) h.2),
      rw (← g.1, ← g.2) (bytes-again k id s t d f.0),
    )
