-- The lengths of what is written: a frame has 13 bytes, and the rest is counting frames.
use Prim.Native.Nat.{ℕ, zero, suc, ◌+◌, ◌*◌, ◌/◌, ◌≤◌, ◌<◌}
use mathlib.Core.Bool.{Bool, true, false, ◌||◌}
use mathlib.Core.List.{List, [], ◌∷◌, ◌++◌}
use mathlib.Core.Path.{◌≡◌, refl}
use native.Mathlib.Omega.{arith}
use borrow.Author.Tests.{ltb-false}
use lib.Dec.{ltb}
use lib.ListN.{length, take, drop, length-append, length-drop, length-replicate}
use lib.Seq.{length-take-le}
use Rattle.message_rules.specs.Answer.{written}
use Rattle.message_rules.specs.Checks.{write_checks}
use Rattle.message_rules.specs.Kinds.{is_event, type_number}
use Rattle.message_rules.specs.declared.Kind.{Kind}
use Rattle.message_rules.specs.declared.Message.{Message}
use Rattle.message_rules.proofs.Answers.{after-given}
use Rattle.message_rules.proofs.Checks.{payload-most}
use Rattle.can_rules.specs.Can.{longest_series, series_type, identifier, can_frame, series, frames_after, in_series, can_bytes, can_carries, can_write}

pub identifier-length : (t : ℕ) (m : Message) → length (identifier t m) ≡ 4
unfolding identifier
identifier-length t m = refl

-- A frame takes 13 bytes, and a series 13 for each of its frames.
module _ (i : List ℕ) (four : length i ≡ 4) where
  pub frame_length_lem : (d : List ℕ) → length d ≤ 8 → length (can_frame i d) ≡ 13
  unfolding can_frame
  frame_length_lem d h = simp (length-append, length-replicate) (omega arith)

  -- The data of a frame of a series: at most 7 bytes, and the count.
  counted-length : (d : List ℕ) (count : ℕ) → length d ≤ 7 → length (can_frame i (d ++ (count ∷ []))) ≡ 13
  counted-length d count h = frame_length_lem (d ++ (count ∷ [])) (rw length-append (omega arith))

  pub series-length : (n : ℕ) (p : List ℕ) → n * 7 ≤ length p → length p < n * 7 + 7 → length (series i n p) ≡ 13 * (n + 1)
  unfolding series
  series-length zero p l h = counted-length p _ (omega arith)
  series-length (suc n) p l h =
      let seven : length (take 7 p) ≤ 7 = rw (length-take-le 7 p (omega arith)) (omega arith) in
      let later = series-length n (drop 7 p) (rw length-drop (omega arith)) (rw length-drop (omega arith)) in
      rw (length-append, counted-length, later) (omega arith)

-- As many frames after the first as there are whole sevens in the payload's length.
pub message-length : (t : ℕ) (m : Message) (p : List ℕ) → length (series (identifier t m) (frames_after (length p)) p) ≡ 13 * (length p / 7 + 1)
unfolding frames_after
message-length t m p = series-length (identifier t m) (identifier-length t m) (length p / 7) p (omega arith) (omega arith)

-- What goes as a single frame has at most 8 bytes.
pub single_most : (k : Kind) (n : ℕ) → in_series k n ≡ false → n ≤ 8
unfolding in_series
single_most k n e = ltb-false 8 n (by (is_event k) e)
  where
    by : (t : Bool) → t || ltb 8 n ≡ false → ltb 8 n ≡ false
    by true q = absurd (let z : ◌≡◌ {A = ℕ} 0 1 = cc in omega arith)
    by false q = q

-- The longest payload takes the longest series.
bytes_most : (m : Message) (p : List ℕ) → length p ≤ 256 → length (can_bytes m p) ≤ longest_series
unfolding can_bytes
bytes_most m p h = by (in_series m.kind (length p)) refl
  where
    by : (t : Bool) → in_series m.kind (length p) ≡ t → length (can_bytes m p) ≤ longest_series
    by true q = rw (q, message-length (series_type (type_number m.kind)) m p) (omega arith)
    by false q =
        let i = identifier (type_number m.kind) m in
        rw (q, frame_length_lem i (identifier-length (type_number m.kind) m) p (single_most m.kind (length p) q)) (omega arith)

pub written-most : (m : Message) (p b : List ℕ) → can_write m p ≡ written b → length b ≤ longest_series
unfolding can_write
written-most m p b e =
    let g = after-given (write_checks can_carries m (length p)) tt tt (can_bytes m p) b e in
    rw (← g.2) (bytes_most m p (payload-most can_carries m (length p) g.0))
