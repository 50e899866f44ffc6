-- The laws of frame records: what a record looks at, how a list of them grows from the front, and what a lent list keeps. Carried by the laws of
-- `take` and `drop`.
use Prim.Native.Nat.{ℕ, zero, suc, ◌+◌, ◌*◌, ◌/◌, ◌%◌, ◌≤◌, ◌<◌}
use mathlib.Core.Bool.{Bool, true, false}
use mathlib.Core.List.{List, [], ◌∷◌, ◌++◌}
use mathlib.Core.Path.{◌≡◌, refl, sym, ◌∙◌, ap}
use native.Mathlib.Numerals.{add-one}
use native.Mathlib.Omega.{arith}
use borrow.Author.Tests.{lt-leb}
use lib.ListN.{length, get_or, set, take, drop, get_or-append, length-drop, take-append-drop}
use lib.Seq.{take-append-le, drop-append-le, drop-cons, drop-drop, set_at, append_snoc, length-take-le, drop_at}
use Rattle.little_endian_rules.specs.LittleEndian.{from_bytes}
use Rattle.message_rules.specs.Answer.{refused, given}
use Rattle.message_rules.specs.declared.Message.{Message}
use Rattle.message_rules.specs.Checks.{write_checks}
use Rattle.message_rules.specs.Kinds.{type_number}
use Rattle.message_rules.proofs.Answers.{after-given}
use Rattle.can_rules.specs.Can.{frame_size, data_size, series_type, identifier, in_series, can_bytes, can_carries, can_write}
use Rattle.can_rules.specs.declared.CanFrame.{CanFrame}
use Rattle.can_rules.specs.Records.{record_of, records_of, fitting, filled}
use Rattle.can_rules.proofs.Lengths.{identifier-length, frame_length_lem, message-length, single_most}

-- "Refusal numbers": a list with fewer records than the answer is 8.
pub too_few : (a : Unit) (r : List CanFrame) (room : ℕ) → room < length r → fitting room (given a r) ≡ refused 8
unfolding fitting
too_few a r room h = rw (lt-leb (length r) room h)

-- "Records past the last one stay unchanged."
pub past_last : (a : Unit) (r frames : List CanFrame) → drop (length r) (filled (given a r) frames) ≡ drop (length r) frames
unfolding filled
past_last a r frames = drop_at r (drop (length r) frames) (length r) refl

-- A record looks at 13 bytes, whatever follows them.
record_local : (b rest : List ℕ) → 13 ≤ length b → record_of (b ++ rest) ≡ record_of b
unfolding record_of
record_local b rest h = rw (take-append-le 4 b rest (omega arith), get_or-append b rest 0 4 (omega arith), drop-append-le 5 b rest (omega arith), take-append-le 8 (drop 5 b) rest (rw length-drop (omega arith)))

-- So its frame alone is enough.
pub record_front : (b : List ℕ) → frame_size ≤ length b → record_of b ≡ record_of (take frame_size b)
record_front b h = ap record_of (sym (take-append-drop frame_size b)) ∙ record_local (take frame_size b) (drop frame_size b) (rw (length-take-le frame_size b h) (omega arith))

pub records_local : (n : ℕ) (b rest : List ℕ) → n * 13 ≤ length b → records_of n (b ++ rest) ≡ records_of n b
unfolding records_of
records_local zero b rest h = refl
records_local (suc n) b rest h =
    rw (record_local b rest (omega arith), drop-append-le 13 b rest (omega arith), records_local n (drop 13 b) rest (rw length-drop (omega arith)))

pub records-length : (n : ℕ) (b : List ℕ) → length (records_of n b) ≡ n
unfolding records_of
records-length zero b = refl
records-length (suc n) b = ap suc (records-length n (drop 13 b))

-- A record that is put together byte by byte is the one of the definition.
pub record_is : (f : List ℕ) (r : CanFrame) → 4 ≤ length f
    → r.identifier ≡ from_bytes (get_or f 0 0 ∷ get_or f 1 0 ∷ get_or f 2 0 ∷ get_or f 3 0 ∷ []) → r.dlc ≡ get_or f 4 0 → r.«data» ≡ take data_size (drop 5 f) → r ≡ record_of f
unfolding record_of
record_is (a ∷ b ∷ c ∷ d ∷ f) r h first second third = λ i. record { identifier = first i; dlc = second i; «data» = third i }
record_is [] r h first second third = absurd (omega arith)
record_is (a ∷ []) r h first second third = absurd (omega arith)
record_is (a ∷ b ∷ []) r h first second third = absurd (omega arith)
record_is (a ∷ b ∷ c ∷ []) r h first second third = absurd (omega arith)

-- One more record at the end.
records-more : (i : ℕ) (b : List ℕ) → records_of (i + 1) b ≡ records_of i b ++ (record_of (drop (13 * i) b) ∷ [])
unfolding records_of
records-more zero b = refl
records-more (suc i) b =
    let next : 13 + 13 * i ≡ 13 * suc i = omega arith in
    let more : suc i + 1 ≡ suc (i + 1) = omega arith in
    rw (more, records-more i (drop 13 b), drop-drop, next)

-- A list whose first i records are filled: one more is filled at place i.
module _ (b : List ℕ) (xs : List CanFrame) where
  abbrev pub filled_to : ℕ → List CanFrame
  filled_to i = records_of i b ++ drop i xs

  pub filled_turn : (i : ℕ) (r : CanFrame) → i < length xs → r ≡ record_of (drop (13 * i) b) → set (filled_to i) i r ≡ filled_to (i + 1)
  filled_turn i r h e =
      rw (e, records-more i b, append_snoc, drop-cons xs i (record_of b) h, add-one) (set_at (records_of i b) (get_or xs i (record_of b)) (drop (suc i) xs) (record_of (drop (13 * i) b)) i (records-length i b))

-- No byte of the form is left out: it has 13 for each record.
pub form_whole : (m : Message) (p b : List ℕ) → can_write m p ≡ given tt b → length b ≡ 13 * length (records_of (length b / 13) b)
unfolding can_write can_bytes
form_whole m p b e = rw (records-length (length b / 13) b) (omega (arith, by (in_series m.kind (length p)) refl))
  where
    is : b ≡ can_bytes m p
    is = sym (after-given (write_checks can_carries m (length p)) tt tt (can_bytes m p) b e).2

    by : (t : Bool) → in_series m.kind (length p) ≡ t → length b % 13 ≡ 0
    by true q = rw (is, q, message-length (series_type (type_number m.kind)) m p) (omega arith)
    by false q =
        let i = identifier (type_number m.kind) m in
        rw (is, q, frame_length_lem i (identifier-length (type_number m.kind) m) p (single_most m.kind (length p) q)) refl
