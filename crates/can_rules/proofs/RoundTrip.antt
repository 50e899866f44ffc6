-- Both round trips of CAN (demand 2), by induction on the frames still to come.
use Prim.Native.Nat.{ℕ, zero, suc, ◌+◌, ◌*◌, ◌/◌, ◌≤◌, ◌<◌}
use mathlib.Core.Bool.{Bool, true, false, cond, ◌&&◌, ◌||◌, or-true}
use mathlib.Core.List.{List, [], ◌∷◌, ◌++◌, append-nil}
use mathlib.Core.Path.{◌≡◌, refl, sym, ◌∙◌}
use native.Mathlib.Omega.{arith}
use borrow.Author.Tests.{le-leb, eq-eqb, leb-true, ltb-true, ltb-false, lt-ltb, le-ltb, eqb-true}
use lib.Dec.{leb, ltb, eqb}
use lib.ListN.{length, get_or, take, drop, length-append, length-drop, take-append-drop}
use lib.Seq.{length-take-le}
use Rattle.message_rules.specs.Answer.{Answer, refused, given, passed, require, after, written}
use Rattle.message_rules.specs.Checks.{id_legal, error_legal, field_checks, payload_legal, writable, write_checks}
use Rattle.message_rules.specs.Kinds.{inside, is_event, type_number, type_kind, error_carried, index_carried, carried_on}
use Rattle.message_rules.specs.declared.Kind.{Kind}
use Rattle.message_rules.specs.declared.Kind.TheVariants.{Telecommand, TelecommandAck, TelecommandNack, TelemetryRequest, TelemetryResponse, TelemetryNack, Event}
use Rattle.message_rules.specs.declared.Message.{Message}
use Rattle.message_rules.proofs.Answers.{after-given}
use Rattle.message_rules.proofs.Checks.{require-passed, both_true, fields_passed, fields_pass}
use Rattle.can_rules.specs.Can.{series_type, series_kind, kind_or, kind_of_type, identifier, can_frame, in_series, series, frames_after, can_bytes, can_carries, can_write, type_legal, first_fits, later_fits, prepend, later_frames, all_frames, can_error, can_message, can_id_legal, can_fits, message_checks, complete, can_read}
use Rattle.can_rules.proofs.Frames.{later-frame, first_frame, single_frame}
use Rattle.can_rules.proofs.Series.{single_type, series_type_lem, single_back, series_all_back}

-- What a payload that a kind can have says of the kind's type, in a series
series_kind_lem : (k : Kind) (n : ℕ) → payload_legal k n ≡ true → in_series k n ≡ true
    → (type_legal (series_type (type_number k)) ≡ true) × (leb 7 (series_type (type_number k)) ≡ true) × (kind_of_type (series_type (type_number k)) ≡ k) × (can_fits (series_type (type_number k)) k n ≡ true) × (8 < n) × (n ≤ 256)
unfolding payload_legal inside in_series type_legal series_type kind_of_type kind_or series_kind type_kind can_fits
series_kind_lem Telecommand n p s = let long = ltb-true 8 n s in let most = both_true (leb 0 n) (leb n 256) p in (refl, refl, refl, rw p (lt-ltb _ n (omega arith)), long, leb-true n 256 most.1)
series_kind_lem TelecommandAck n p s = absurd (omega (arith, leb-true n 0 (both_true (leb 0 n) (leb n 0) p).1, ltb-true 8 n s))
series_kind_lem TelecommandNack n p s = absurd (omega (arith, leb-true n 0 (both_true (leb 0 n) (leb n 0) p).1, ltb-true 8 n s))
series_kind_lem TelemetryRequest n p s = absurd (omega (arith, leb-true n 0 (both_true (leb 0 n) (leb n 0) p).1, ltb-true 8 n s))
series_kind_lem TelemetryResponse n p s = let long = ltb-true 8 n s in let most = both_true (leb 0 n) (leb n 256) p in (refl, refl, refl, rw p (lt-ltb _ n (omega arith)), long, leb-true n 256 most.1)
series_kind_lem TelemetryNack n p s = absurd (omega (arith, leb-true n 0 (both_true (leb 0 n) (leb n 0) p).1, ltb-true 8 n s))
series_kind_lem Event n p s = let h = both_true (leb 24 n) (leb n 24) p in let low = leb-true 24 n h.0 in let high = leb-true n 24 h.1 in (refl, refl, refl, rw p (lt-ltb _ n (omega arith)), omega arith, omega arith)

-- and in a single frame.
single_kind : (k : Kind) (n : ℕ) → payload_legal k n ≡ true → in_series k n ≡ false
    → (type_legal (type_number k) ≡ true) × (leb 7 (type_number k) ≡ false) × (kind_of_type (type_number k) ≡ k) × (first_fits (type_number k) n 0 ≡ true) × (can_fits (type_number k) k n ≡ true) × (n ≤ 8)
unfolding payload_legal inside in_series type_legal kind_of_type kind_or series_kind type_kind can_fits first_fits
single_kind Telecommand n p s = let short = ltb-false 8 n s in (refl, refl, refl, le-leb n 8 short, rw p, short)
single_kind TelecommandAck n p s = let none = leb-true n 0 (both_true (leb 0 n) (leb n 0) p).1 in (refl, refl, refl, eq-eqb n 0 (omega arith), rw p, omega arith)
single_kind TelecommandNack n p s = let none = leb-true n 0 (both_true (leb 0 n) (leb n 0) p).1 in (refl, refl, refl, eq-eqb n 0 (omega arith), rw p, omega arith)
single_kind TelemetryRequest n p s = let none = leb-true n 0 (both_true (leb 0 n) (leb n 0) p).1 in (refl, refl, refl, eq-eqb n 0 (omega arith), rw p, omega arith)
single_kind TelemetryResponse n p s = let short = ltb-false 8 n s in (refl, refl, refl, le-leb n 8 short, rw p, short)
single_kind TelemetryNack n p s = let none = leb-true n 0 (both_true (leb 0 n) (leb n 0) p).1 in (refl, refl, refl, eq-eqb n 0 (omega arith), rw p, omega arith)
single_kind Event n p s = absurd (let z : ◌≡◌ {A = ℕ} 0 1 = cc in omega arith)

-- The later frames of a written series give its payload.
series-reads : (a b c t n : ℕ) (p : List ℕ) → type_legal t ≡ true → 7 * n ≤ length p → length p ≤ 7 * n + 6
    → later_frames (a ∷ b ∷ c ∷ t ∷ []) (suc n) (series (a ∷ b ∷ c ∷ t ∷ []) n p) ≡ given [] p
unfolding series later_fits later_frames prepend
series-reads a b c t zero p legal low high =
    let size : length (p ++ (0 ∷ [])) ≡ length p + 1 = rw length-append in
    let fits : later_fits 0 (length (p ++ (0 ∷ []))) ≡ true = rw (size, le-leb 1 (length p + 1) (omega arith), le-leb (length p + 1) 7 (omega arith)) in
    rw (append-nil (can_frame (a ∷ b ∷ c ∷ t ∷ []) (p ++ (0 ∷ [])))) at (later-frame a b c t p 0 [] (omega arith) legal fits) ∙ rw append-nil
series-reads a b c t (suc n) p legal low high =
    let seven : length (take 7 p) ≡ 7 = length-take-le 7 p (omega arith) in
    let size : length (take 7 p ++ (suc n ∷ [])) ≡ 8 = simp length-append (omega (arith, seven)) in
    let fits : later_fits (suc n) (length (take 7 p ++ (suc n ∷ []))) ≡ true = rw size in
    let again = series-reads a b c t n (drop 7 p) legal (rw length-drop (omega arith)) (rw length-drop (omega arith)) in
    later-frame a b c t (take 7 p) (suc n) (series (a ∷ b ∷ c ∷ t ∷ []) n (drop 7 p)) (omega (arith, seven)) legal fits
    ∙ rw (again, take-append-drop)

-- A written series gives its payload.
series_all : (a b c t n : ℕ) (p : List ℕ) → type_legal t ≡ true → leb 7 t ≡ true → 8 < length p → length p ≤ 256 → length p / 7 ≡ n
    → all_frames (series (a ∷ b ∷ c ∷ t ∷ []) n p) ≡ given [] p
unfolding series prepend
series_all a b c t zero p legal long low high e = absurd (omega arith)
series_all a b c t (suc n) p legal long low high e =
    let seven : length (take 7 p) ≡ 7 = length-take-le 7 p (omega arith) in
    let count : leb 1 (suc n) && leb (suc n) 36 ≡ true = rw (le-leb 1 (suc n) (omega arith), le-leb (suc n) 36 (omega arith)) in
    let rest = series-reads a b c t n (drop 7 p) legal (rw length-drop (omega arith)) (rw length-drop (omega arith)) in
    first_frame a b c t (take 7 p) (suc n) (series (a ∷ b ∷ c ∷ t ∷ []) n (drop 7 p)) (omega (arith, seven)) legal long seven count
    ∙ rw (rest, take-append-drop)

can_id : (k : Kind) (id : ℕ) → id_legal k id ≡ true → can_id_legal k (cond (is_event k) 255 id) ≡ true
unfolding can_id_legal
can_id k id h = by (is_event k) refl
  where
    by : (b : Bool) → is_event k ≡ b → can_id_legal k (cond (is_event k) 255 id) ≡ true
    by true q = rw q
    by false q = rw q h

-- The message of a complete input is known by the identifier of its first frame.
complete-given : (b : List ℕ) (dst src id t : ℕ) (p : List ℕ) (k : Kind) → get_or b 0 0 ≡ dst → get_or b 1 0 ≡ src → get_or b 2 0 ≡ id → get_or b 3 0 ≡ t
    → kind_of_type t ≡ k → can_id_legal k id ≡ true → can_fits t k (length p) ≡ true
    → complete b (given [] p) ≡ given (record { kind = k; id = id; source = src; destination = dst; error = can_error k; index = 0 }) p
unfolding complete message_checks can_message require after
complete-given b dst src id t p k h0 h1 h2 h3 hk hid fits = rw (h0, h1, h2, h3, hk, hid, fits)

series_fields : (a b c t n : ℕ) (p : List ℕ)
    → (get_or (series (a ∷ b ∷ c ∷ t ∷ []) n p) 0 0 ≡ a) × (get_or (series (a ∷ b ∷ c ∷ t ∷ []) n p) 1 0 ≡ b) × (get_or (series (a ∷ b ∷ c ∷ t ∷ []) n p) 2 0 ≡ c) × (get_or (series (a ∷ b ∷ c ∷ t ∷ []) n p) 3 0 ≡ t)
unfolding series can_frame
series_fields a b c t zero p = (refl, refl, refl, refl)
series_fields a b c t (suc n) p = (refl, refl, refl, refl)

-- Reading what was written returns every carried field and the payload. CAN carries the addresses, and nothing that tells the error.
pub bytes_read : (m : Message) (p : List ℕ) → id_legal m.kind m.id ≡ true → payload_legal m.kind (length p) ≡ true → can_read (can_bytes m p) ≡ given (carried_on true false m) p
unfolding can_read can_bytes frames_after identifier can_error carried_on error_carried index_carried can_frame
bytes_read m p legal fits = by (in_series m.kind (length p)) refl
  where
    -- the ID as it is written
    id : ℕ
    id = get_or (identifier 0 m) 2 0

    legal-id : can_id_legal m.kind id ≡ true
    legal-id = can_id m.kind m.id legal

    by : (b : Bool) → in_series m.kind (length p) ≡ b → can_read (can_bytes m p) ≡ given (carried_on true false m) p
    by true q =
        let s = series_kind_lem m.kind (length p) fits q in
        let f = series_fields m.destination m.source id (series_type (type_number m.kind)) (length p / 7) p in
        rw (q, series_all m.destination m.source id (series_type (type_number m.kind)) (length p / 7) p s.0 s.1 s.4 s.5 refl)
        (complete-given _ _ _ id (series_type (type_number m.kind)) p m.kind f.0 f.1 f.2 f.3 s.2 legal-id s.3)
    by false q =
        let s = single_kind m.kind (length p) fits q in
        rw (q, single_frame m.destination m.source id (type_number m.kind) p s.5 s.0 s.1 s.3)
        (complete-given _ _ _ id (type_number m.kind) p m.kind refl refl refl refl s.2 legal-id s.4)

pub written-reads : (m : Message) (p b : List ℕ) → can_write m p ≡ written b → can_read b ≡ given (carried_on true false m) p
unfolding can_write write_checks
written-reads m p b e =
    let g = after-given (write_checks can_carries m (length p)) tt tt (can_bytes m p) b e in
    let w = require-passed (writable can_carries m) 9 _ g.0 in
    let h = fields_passed m (payload_legal m.kind (length p)) w.1 in
    rw (← g.2) (bytes_read m p h.0 h.1)

-- CAN can write every kind,
pub can_writable : (m : Message) → writable can_carries m ≡ true
unfolding writable
can_writable m = by (is_event m.kind) refl
  where
    by : (b : Bool) → is_event m.kind ≡ b → writable can_carries m ≡ true
    by true q = rw q
    by false q = rw q

-- with the ID that was read,
id_back : (k : Kind) (id : ℕ) → can_id_legal k id ≡ true → (id_legal k id ≡ true) × (cond (is_event k) 255 id ≡ id)
unfolding can_id_legal id_legal inside
id_back Telecommand id h = (h, refl)
id_back TelecommandAck id h = (h, refl)
id_back TelecommandNack id h = (h, refl)
id_back TelemetryRequest id h = (h, refl)
id_back TelemetryResponse id h = (h, refl)
id_back TelemetryNack id h = (h, refl)
id_back Event id h = let e = eqb-true id 255 h in (rw e, sym e)

-- and the error that a message without an error byte reads as.
pub error_back : (k : Kind) → error_legal k (can_error k) ≡ true
unfolding error_legal can_error inside
error_back Telecommand = refl
error_back TelecommandAck = refl
error_back TelecommandNack = refl
error_back TelemetryRequest = refl
error_back TelemetryResponse = refl
error_back TelemetryNack = refl
error_back Event = refl

pub empty : (r : List ℕ) → length r ≡ 0 → r ≡ []
empty [] h = refl
empty (x ∷ r) h = absurd (omega arith)

-- What a complete input was made of.
pub complete_back : (b : List ℕ) (x : Answer (List ℕ) (List ℕ)) (m : Message) (p : List ℕ) → complete b x ≡ given m p
    → (x ≡ given [] p) × (can_message b ≡ m) × (can_id_legal (kind_of_type (get_or b 3 0)) (get_or b 2 0) ≡ true) × (can_fits (get_or b 3 0) (kind_of_type (get_or b 3 0)) (length p) ≡ true)
unfolding complete message_checks can_message
complete_back b (refused n) m p e = absurd (let z : ◌≡◌ {A = ℕ} 0 1 = cc in omega arith)
complete_back b (given rest q) m p e =
    let g = after-given _ (can_message b) m q p e in
    let h4 = require-passed (eqb (length rest) 0) 4 _ g.0 in
    let h5 = require-passed (can_id_legal (kind_of_type (get_or b 3 0)) (get_or b 2 0)) 5 _ h4.1 in
    let h6 = require-passed (can_fits (get_or b 3 0) (kind_of_type (get_or b 3 0)) (length q)) 6 passed h5.1 in
    (rw (empty rest (eqb-true (length rest) 0 h4.0), g.2), g.1, h5.0, rw (← g.2) h6.0)

-- Writing what was read returns the bytes: first of an input that has an identifier and a DLC,
module _ (a b c t l : ℕ) (s : List ℕ) where
  bytes_back : (p : List ℕ) → can_id_legal (kind_of_type t) c ≡ true → can_fits t (kind_of_type t) (length p) ≡ true → all_frames (a ∷ b ∷ c ∷ t ∷ l ∷ s) ≡ given [] p
      → can_bytes (can_message (a ∷ b ∷ c ∷ t ∷ l ∷ s)) p ≡ a ∷ b ∷ c ∷ t ∷ l ∷ s
  unfolding can_bytes can_message identifier in_series frames_after can_fits
  bytes_back p id fits e = by (leb 7 t) refl
    where
      f : (payload_legal (kind_of_type t) (length p) ≡ true) × ((ltb t 7 || ltb 8 (length p)) ≡ true)
      f = both_true (payload_legal (kind_of_type t) (length p)) (ltb t 7 || ltb 8 (length p)) fits

      by : (x : Bool) → leb 7 t ≡ x → can_bytes (can_message (a ∷ b ∷ c ∷ t ∷ l ∷ s)) p ≡ a ∷ b ∷ c ∷ t ∷ l ∷ s
      by false q =
          let g = single_back a b c t l s [] p q e in
          let k = single_type t g.2 q in
          rw (k.1, le-ltb 8 (length p) g.1, k.0) (sym (g.0 ∙ append-nil _))
      by true q =
          let g = series_all_back a b c t l s [] p q e in
          let long : ltb 8 (length p) ≡ true = rw (le-ltb t 7 (leb-true 7 t q)) at f.1 in
          rw (long, or-true (is_event (kind_of_type t)), (id_back (kind_of_type t) c id).1, series_type_lem t g.1 q) (sym (g.0 ∙ append-nil _))

  message_writes : (p : List ℕ) → can_id_legal (kind_of_type t) c ≡ true → can_fits t (kind_of_type t) (length p) ≡ true → all_frames (a ∷ b ∷ c ∷ t ∷ l ∷ s) ≡ given [] p
      → can_write (can_message (a ∷ b ∷ c ∷ t ∷ l ∷ s)) p ≡ written (a ∷ b ∷ c ∷ t ∷ l ∷ s)
  unfolding can_write write_checks can_message can_fits require after
  message_writes p id fits e =
      let m = can_message (a ∷ b ∷ c ∷ t ∷ l ∷ s) in
      let legal = (both_true (payload_legal (kind_of_type t) (length p)) (ltb t 7 || ltb 8 (length p)) fits).0 in
      let passes : field_checks m (payload_legal (kind_of_type t) (length p)) ≡ passed =
      fields_pass m _ (id_back (kind_of_type t) c id).0 legal (error_back (kind_of_type t)) in
      rw (can_writable m, passes, bytes_back p id fits e)

no_frame_lem : {P : Type 0} (p : List ℕ) → ◌≡◌ {A = Answer (List ℕ) (List ℕ)} (refused 1) (given [] p) → P
no_frame_lem p e = absurd (let z : ◌≡◌ {A = ℕ} 0 1 = cc in omega arith)

-- then of any bytes: fewer are no frame.
pub read_writes : (b : List ℕ) (m : Message) (p : List ℕ) → can_read b ≡ given m p → can_write m p ≡ written b
unfolding can_read all_frames require after
read_writes [] m p e = no_frame_lem p (complete_back [] (all_frames []) m p e).0
read_writes (a ∷ []) m p e = no_frame_lem p (complete_back (a ∷ []) (all_frames (a ∷ [])) m p e).0
read_writes (a ∷ b ∷ []) m p e = no_frame_lem p (complete_back (a ∷ b ∷ []) (all_frames (a ∷ b ∷ [])) m p e).0
read_writes (a ∷ b ∷ c ∷ []) m p e = no_frame_lem p (complete_back (a ∷ b ∷ c ∷ []) (all_frames (a ∷ b ∷ c ∷ [])) m p e).0
read_writes (a ∷ b ∷ c ∷ t ∷ []) m p e = no_frame_lem p (complete_back (a ∷ b ∷ c ∷ t ∷ []) (all_frames (a ∷ b ∷ c ∷ t ∷ [])) m p e).0
read_writes (a ∷ b ∷ c ∷ t ∷ l ∷ s) m p e =
    let g = complete_back (a ∷ b ∷ c ∷ t ∷ l ∷ s) (all_frames (a ∷ b ∷ c ∷ t ∷ l ∷ s)) m p e in
    rw (← g.1) (message_writes a b c t l s p g.2 g.3 g.0)
