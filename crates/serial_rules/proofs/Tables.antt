-- The laws of the tables of start bytes and fields, by the link and the row.
use Rattle.std.specs.Prelude.{None, Option, Some, ℕ}
use Prim.Native.Nat.{ℕ, ◌+◌, ◌≤◌}
use mathlib.Core.Bool.{Bool, true, false, cond, ◌&&◌}
use mathlib.Core.List.{List, [], ◌∷◌, ◌++◌}
use mathlib.Core.Path.{◌≡◌, refl, ap, sym, ◌∙◌}
use native.Mathlib.Omega.{arith}
use borrow.Author.Tests.{leb-true, lt-leb}
use lib.Dec.{leb}
use lib.ListN.{length, get_or, drop}
use lib.Seq.{drop-cons}
use Rattle.message_rules.specs.Checks.{id_legal, error_told, writable}
use Rattle.message_rules.specs.Kinds.{inside, is_event}
use Rattle.message_rules.specs.declared.Kind.{Kind}
use Rattle.message_rules.specs.declared.Kind.TheVariants as KindOf
use Rattle.message_rules.specs.declared.Message.{Message}
use Rattle.message_rules.proofs.Checks.{both_true, plain-writable, writable-plain}
use Rattle.message_rules.proofs.Tables.{by_row}
use Rattle.serial_rules.specs.Frames.{start_byte, start_row, row_of, by_id, kind_of, has_id, has_addresses, front_length, id_field, address_field, id_bytes, address_bytes, front_fields, serial_carries}
use Rattle.serial_rules.specs.declared.StartRow.{StartRow}
use Rattle.serial_rules.specs.declared.StartRow.TheVariants.{Request, Reply, Nack, Event}
use Rattle.serial_rules.specs.declared.SerialLink.{SerialLink}
use Rattle.serial_rules.specs.declared.SerialLink.TheVariants.{Uart, Rs485}

-- A field that is there or not: its length is at most n, and 0 where it is not there alone.
module _ (has : Bool) (n : ℕ) where
  pub field-most : cond has n 0 ≤ n
  field-most = by has
    where
      by : (t : Bool) → cond t n 0 ≤ n
      by true = omega arith
      by false = omega arith

  pub field-none : 1 ≤ n → cond has n 0 ≡ 0 → has ≡ false
  field-none h e = by has e
    where
      by : (t : Bool) → cond t n 0 ≡ 0 → t ≡ false
      by true e = absurd (omega arith)
      by false e = refl

  pub field-some : (cond has n 0 ≡ 0 → ⊥) → has ≡ true
  field-some e = by has e
    where
      by : (t : Bool) → (cond t n 0 ≡ 0 → ⊥) → t ≡ true
      by true e = refl
      by false e = absurd (e refl)

-- At most ID, source and destination stand in front of the data.
pub front_length_three : (l : SerialLink) (r : StartRow) → front_length l r ≤ 3
front_length_three l r = omega (arith, field-most (has_id r) 1, field-most (has_addresses l) 2)

-- RS485 has no event.
abbrev pub Has : SerialLink → StartRow → Type 0
Has Uart r = Unit
Has Rs485 Request = Unit
Has Rs485 Reply = Unit
Has Rs485 Nack = Unit
Has Rs485 Event = ⊥

-- A start byte stands for its row.
pub row_of-start : (l : SerialLink) (r : StartRow) → Has l r → start_row l (start_byte l r) ≡ Some r
unfolding start_row
row_of-start Uart Request h = refl
row_of-start Uart Reply h = refl
row_of-start Uart Nack h = refl
row_of-start Uart Event h = refl
row_of-start Rs485 Request h = refl
row_of-start Rs485 Reply h = refl
row_of-start Rs485 Nack h = refl
row_of-start Rs485 Event h = absurd h

-- And the row of a byte has it for its start byte.
start-found : (l : SerialLink) (b n : ℕ) (r r₁ : StartRow) → start_byte l r₁ ≡ n → Has l r₁ → b ≡ n → Some r₁ ≡ Some r → (start_byte l r ≡ b) × Has l r
start-found l b n r r₁ hn has hb f = let g : r ≡ r₁ = cc in rw g (hn ∙ sym hb, has)

no_start : {P : Type 0} (r : StartRow) → None ≡ Some r → P
no_start r f = absurd (let z : ◌≡◌ {A = ℕ} 0 1 = cc in omega arith)

pub start_of_row : (l : SerialLink) (b : ℕ) (r : StartRow) → start_row l b ≡ Some r → (start_byte l r ≡ b) × Has l r
unfolding start_row
start_of_row Uart b r e =
    by_row b 0x7F _ _ _ (start-found Uart b 0x7F r Request refl tt) (by_row b 0x07 _ _ _ (start-found Uart b 0x07 r Reply refl tt)
    (by_row b 0x0F _ _ _ (start-found Uart b 0x0F r Nack refl tt) (by_row b 0x2F _ _ _ (start-found Uart b 0x2F r Event refl tt) (no_start r))))
    e
start_of_row Rs485 b r e =
    by_row b 0x80 _ _ _ (start-found Rs485 b 0x80 r Request refl tt) (by_row b 0x08 _ _ _ (start-found Rs485 b 0x08 r Reply refl tt)
    (by_row b 0x10 _ _ _ (start-found Rs485 b 0x10 r Nack refl tt) (no_start r)))
    e

-- The fields in front of the data, each read back from its place.
pub fields_again : (l : SerialLink) (r : StartRow) (m : Message) (q : List ℕ) → let d = front_fields l r m ++ q in
    (id_field r d ≡ cond (has_id r) m.id 255)
    × (address_field l r d 0 ≡ cond (has_addresses l) m.source 0)
    × (address_field l r d 1 ≡ cond (has_addresses l) m.destination 0)
    × (drop (front_length l r) d ≡ q)
unfolding front_fields id_bytes address_bytes id_field address_field
fields_again l r m q = by (has_id r) (has_addresses l)
  where
    by : (i a : Bool) → let d = (cond i (m.id ∷ []) [] ++ cond a (m.source ∷ m.destination ∷ []) []) ++ q in
        (cond i (get_or d 0 0) 255 ≡ cond i m.id 255)
        × (cond a (get_or d (cond i 1 0 + 0) 0) 0 ≡ cond a m.source 0)
        × (cond a (get_or d (cond i 1 0 + 1) 0) 0 ≡ cond a m.destination 0)
        × (drop (cond i 1 0 + cond a 2 0) d ≡ q)
    by true true = (refl, refl, refl, refl)
    by true false = (refl, refl, refl, refl)
    by false true = (refl, refl, refl, refl)
    by false false = (refl, refl, refl, refl)

pub fields_length : (l : SerialLink) (r : StartRow) (m : Message) → length (front_fields l r m) ≡ front_length l r
unfolding front_fields id_bytes address_bytes
fields_length l r m = by (has_id r) (has_addresses l)
  where
    by : (i a : Bool) → length (cond i (m.id ∷ []) [] ++ cond a (m.source ∷ m.destination ∷ []) []) ≡ cond i 1 0 + cond a 2 0
    by true true = refl
    by true false = refl
    by false true = refl
    by false false = refl

-- An event's ID is 255, whatever was written.
pub id_carried : (k : Kind) (id : ℕ) → cond (has_id (row_of k)) id 255 ≡ cond (is_event k) 255 id
id_carried KindOf.Telecommand id = refl
id_carried KindOf.TelecommandAck id = refl
id_carried KindOf.TelecommandNack id = refl
id_carried KindOf.TelemetryRequest id = refl
id_carried KindOf.TelemetryResponse id = refl
id_carried KindOf.TelemetryNack id = refl
id_carried KindOf.Event id = refl

-- A legal ID of a kind decides for that kind in its row.
telecommand_id : (id : ℕ) (tc tlm : Kind) → leb 0 id && leb id 127 ≡ true → by_id id tc tlm ≡ Some tc
unfolding by_id
telecommand_id id tc tlm h = rw (both_true (leb 0 id) (leb id 127) h).1

telemetry_id : (id : ℕ) (tc tlm : Kind) → leb 128 id && leb id 254 ≡ true → by_id id tc tlm ≡ Some tlm
unfolding by_id
telemetry_id id tc tlm h =
    let g = both_true (leb 128 id) (leb id 254) h in
    rw (lt-leb id 127 (leb-true 128 id g.0), g.1)

pub kind_of-id : (k : Kind) (id : ℕ) → id_legal k id ≡ true → kind_of (row_of k) (cond (is_event k) 255 id) ≡ Some k
unfolding id_legal inside kind_of
kind_of-id KindOf.Telecommand id h = telecommand_id id _ _ h
kind_of-id KindOf.TelecommandAck id h = telecommand_id id _ _ h
kind_of-id KindOf.TelecommandNack id h = telecommand_id id _ _ h
kind_of-id KindOf.TelemetryRequest id h = telemetry_id id _ _ h
kind_of-id KindOf.TelemetryResponse id h = telemetry_id id _ _ h
kind_of-id KindOf.TelemetryNack id h = telemetry_id id _ _ h
kind_of-id KindOf.Event id h = refl

-- And the kind of an ID in a row is of that row.
row_of-id : (id : ℕ) (tc tlm k : Kind) (r : StartRow) → row_of tc ≡ r → row_of tlm ≡ r → by_id id tc tlm ≡ Some k → row_of k ≡ r
unfolding by_id
row_of-id id tc tlm k r htc htlm e = by (leb id 127) refl (leb id 254) refl
  where
    by : (t : Bool) → leb id 127 ≡ t → (u : Bool) → leb id 254 ≡ u → row_of k ≡ r
    by true q u v = let g : k ≡ tc = cc (rw q at e) in rw g htc
    by false q true v = let g : k ≡ tlm = cc (rw (q, v) at e) in rw g htlm
    by false q false v = absurd (let z : ◌≡◌ {A = ℕ} 0 1 = cc (rw (q, v) at e) in omega arith)

pub row_of-kind : (r : StartRow) (id : ℕ) (k : Kind) → kind_of r id ≡ Some k → row_of k ≡ r
unfolding kind_of
row_of-kind Request id k e = row_of-id id _ _ k Request refl refl e
row_of-kind Reply id k e = row_of-id id _ _ k Reply refl refl e
row_of-kind Nack id k e = row_of-id id _ _ k Nack refl refl e
row_of-kind Event id k e = let g : k ≡ KindOf.Event = cc in ap row_of g

-- An event is told, whatever its error, and RS485 has a row for every other kind.
event-told : (k : Kind) (e : Option ℕ) → is_event k ≡ true → error_told k e ≡ true
unfolding error_told
event-told k (Some e) h = refl
event-told KindOf.Telecommand None h = refl
event-told KindOf.TelecommandAck None h = refl
event-told KindOf.TelecommandNack None h = absurd (let z : ◌≡◌ {A = ℕ} 0 1 = cc in omega arith)
event-told KindOf.TelemetryRequest None h = refl
event-told KindOf.TelemetryResponse None h = refl
event-told KindOf.TelemetryNack None h = absurd (let z : ◌≡◌ {A = ℕ} 0 1 = cc in omega arith)
event-told KindOf.Event None h = refl

plain_has : (k : Kind) → is_event k ≡ false → Has Rs485 (row_of k)
plain_has KindOf.Telecommand h = tt
plain_has KindOf.TelecommandAck h = tt
plain_has KindOf.TelecommandNack h = tt
plain_has KindOf.TelemetryRequest h = tt
plain_has KindOf.TelemetryResponse h = tt
plain_has KindOf.TelemetryNack h = tt
plain_has KindOf.Event h = absurd (let z : ◌≡◌ {A = ℕ} 0 1 = cc in omega arith)

has_plain : (k : Kind) → Has Rs485 (row_of k) → is_event k ≡ false
has_plain KindOf.Telecommand h = refl
has_plain KindOf.TelecommandAck h = refl
has_plain KindOf.TelecommandNack h = refl
has_plain KindOf.TelemetryRequest h = refl
has_plain KindOf.TelemetryResponse h = refl
has_plain KindOf.TelemetryNack h = refl
has_plain KindOf.Event h = absurd h

-- What a link can write has a row there, and is told.
pub written_row : (l : SerialLink) (m : Message) → writable (serial_carries l) m ≡ true → Has l (row_of m.kind) × (error_told m.kind m.error ≡ true)
unfolding writable
written_row Uart m w = (tt, by (is_event m.kind) refl)
  where
    by : (b : Bool) → is_event m.kind ≡ b → error_told m.kind m.error ≡ true
    by true q = event-told m.kind m.error q
    by false q = rw q at w
written_row Rs485 m w = let h = plain-writable m w in (plain_has m.kind h.0, h.1)

-- And what was read there can be written.
pub read-writable : (l : SerialLink) (m : Message) → Has l (row_of m.kind) → error_told m.kind m.error ≡ true → writable (serial_carries l) m ≡ true
unfolding writable
read-writable Uart m h t = by (is_event m.kind) refl
  where
    by : (b : Bool) → is_event m.kind ≡ b → writable (serial_carries Uart) m ≡ true
    by true q = rw q
    by false q = rw (q, t)
read-writable Rs485 m h t = writable-plain m (has_plain m.kind h) t

-- A body is its fields in front of the data, and the data.
pub body-again : (l : SerialLink) (r : StartRow) (d : List ℕ) (m : Message) → front_length l r ≤ length d
    → m.id ≡ id_field r d → m.source ≡ address_field l r d 0 → m.destination ≡ address_field l r d 1 → front_fields l r m ++ drop (front_length l r) d ≡ d
unfolding front_fields id_bytes address_bytes id_field address_field
body-again l r d m long i s t = rw (i, s, t) (by (has_id r) (has_addresses l) long)
  where
    by : (i a : Bool) → cond i 1 0 + cond a 2 0 ≤ length d
        → (cond i (cond i (get_or d 0 0) 255 ∷ []) [] ++ cond a (cond a (get_or d (cond i 1 0 + 0) 0) 0 ∷ cond a (get_or d (cond i 1 0 + 1) 0) 0 ∷ []) []) ++ drop (cond i 1 0 + cond a 2 0) d ≡ d
    by true true h = rw (← drop-cons d 2 0 (omega arith), ← drop-cons d 1 0 (omega arith), ← drop-cons d 0 0 (omega arith))
    by true false h = rw (← drop-cons d 0 0 (omega arith))
    by false true h = rw (← drop-cons d 1 0 (omega arith), ← drop-cons d 0 0 (omega arith))
    by false false h = refl
