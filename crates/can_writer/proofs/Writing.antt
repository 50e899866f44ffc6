-- How frames are put together, and a series of them. Carried by the parts of a list: what is stored after others is found after them.
use Rattle.std.specs.Prelude.{Err, Ok}
use Prim.Native.Nat.{ℕ, zero, suc, ◌+◌, ◌-◌, ◌*◌, ◌/◌, ◌≤◌, ◌<◌}
use mathlib.Core.List.{List, [], ◌∷◌, ◌++◌, append_assoc}
use mathlib.Core.Path.{◌≡◌, refl, ◌∙◌, sym}
use borrow.Rule.Slice.PartMut.{put_mid}
use native.Mathlib.Omega.{arith}
use lib.ListN.{length, set, take, drop, replicate, length-append, length-take}
use lib.Seq.{set_at, take_at, drop_at, drop-drop}
use Rattle.std.proofs.lemmas.List.{drop-replicate}
use Rattle.std.proofs.lemmas.Slice.{take-put_mid}
use Rattle.message_rules.specs.Answer.{written, write_result, within, counted, output_after}
use Rattle.message_rules.specs.declared.Refusal.TheVariants.{OutputTooShort}
use Rattle.message_rules.proofs.Answers.{too_short, long_enough}
use Rattle.can_rules.specs.Can.{can_frame, series}
use Rattle.can_rules.proofs.Lengths.{frame_length_lem}

module _ (i : List ℕ) (four : length i ≡ 4) where
  -- The identifier, the DLC and the data, each over zeros.
  pub frame_stored_lem : (d : List ℕ) → length d ≤ 8 → put_mid 5 (length d) (set (i ++ replicate 9 0) 4 (length d)) d ≡ can_frame i d
  unfolding can_frame
  frame_stored_lem d h =
      let head = i ++ (length d ∷ []) in
      let five : length head ≡ 5 = rw length-append (omega arith) in
      let stored : set (i ++ replicate 9 0) 4 (length d) ≡ head ++ replicate 8 0 = set_at i 0 (replicate 8 0) (length d) 4 four ∙ sym (append_assoc i (length d ∷ []) (replicate 8 0)) in
      rw (stored, take_at head (replicate 8 0) 5 five, drop_at head (replicate 8 0) 5 five, drop-replicate {X = ℕ} (length d) 8 0, append_assoc)

  -- The count after the data, which the DLC counts too.
  pub counted-stored : (d : List ℕ) (n : ℕ) → length d ≤ 7 → set (set (can_frame i d) 4 (length d + 1)) (4 + (length d + 1)) n ≡ can_frame i (d ++ (n ∷ []))
  unfolding can_frame
  counted-stored d n h =
      let z : List ℕ = replicate (7 - length d) 0 in
      let one : 8 - length d ≡ suc (7 - length d) = omega arith in
      let less : 8 - (length d + 1) ≡ 7 - length d = omega arith in
      let head = i ++ ((length d + 1) ∷ d) in
      let place : 4 + (length d + 1) ≡ 5 + length d = omega arith in
      let long : length head ≡ 5 + length d = rw length-append (omega arith) in
      let dlc : set (i ++ (length d ∷ (d ++ (0 ∷ z)))) 4 (length d + 1) ≡ head ++ (0 ∷ z) = set_at i (length d) (d ++ (0 ∷ z)) (length d + 1) 4 four ∙ sym (append_assoc i ((length d + 1) ∷ d) (0 ∷ z)) in
      rw (one, place, dlc, set_at head 0 z n (5 + length d) long, length-append, less, append_assoc, append_assoc)

-- Before the frame k of a series: what is stored, and the frames from k on, are the series.
abbrev pub Going : List ℕ → List ℕ → List ℕ → ℕ → Type 0
Going i p out k = take (13 * k) out ++ series i (length p / 7 - k) (drop (7 * k) p) ≡ series i (length p / 7) p

module _ (i : List ℕ) (four : length i ≡ 4) (p out : List ℕ) (k : ℕ) (room : length out ≡ 13 * (length p / 7 + 1)) where
  -- A frame that is not the last, and the series after it.
  turn : (n : ℕ) → 0 < n → (q : List ℕ) → series i n q ≡ can_frame i (take 7 q ++ (n ∷ [])) ++ series i (n - 1) (drop 7 q)
  unfolding series
  turn zero h q = absurd (omega arith)
  turn (suc n) h q = let back : suc n - 1 ≡ n = omega arith in rw back

  pub going_more : k < length p / 7 → Going i p out k → (f : List ℕ) → f ≡ can_frame i (take 7 (drop (7 * k) p) ++ ((length p / 7 - k) ∷ [])) → Going i p (put_mid (13 * k) 13 out f) (k + 1)
  going_more h going f e =
      let n = length p / 7 - k in
      let more : 0 < n = omega arith in
      let next : length p / 7 - (k + 1) ≡ n - 1 = omega arith in
      let seven : 7 * (k + 1) ≡ 7 * k + 7 = omega arith in
      let short : length (take 7 (drop (7 * k) p)) ≤ 7 = rw length-take (omega arith) in
      let long : length f ≡ 13 = rw e (frame_length_lem i four (take 7 (drop (7 * k) p) ++ (n ∷ [])) (rw length-append (omega arith))) in
      let stored : take (13 * (k + 1)) (put_mid (13 * k) 13 out f) ≡ take (13 * k) out ++ f = take-put_mid (13 * k) 13 out f (13 * (k + 1)) (omega (arith, long)) (omega arith) in
      rw (stored, next, seven, ← drop-drop, append_assoc, e) ((rw (turn n more (drop (7 * k) p)) at going))

  -- The last takes what is left of the payload.
  pub going_done : k ≡ length p / 7 → Going i p out k → (f : List ℕ) → f ≡ can_frame i (drop (7 * k) p ++ (0 ∷ [])) → take (13 * k) out ++ f ≡ series i (length p / 7) p
  unfolding series
  going_done z going f e =
      let none : length p / 7 - k ≡ 0 = omega arith in
      rw e (rw none at going)

-- The answer where the bytes do not fit, and where they lie at the start of the output.
module _ (b out : List ℕ) (n : ℕ) (size : length b ≡ n) where
  pub refused_short : length out < n → (write_result (Err OutputTooShort) ≡ counted (within out (written b))) × (out ≡ output_after (within out (written b)) out)
  unfolding write_result counted output_after
  refused_short h = rw (too_short out (tt {0}) b (rw size h)) (refl, refl)

  pub given-filled : (left : List ℕ) → n ≤ length out → left ≡ b → (write_result (Ok n) ≡ counted (within out (written b))) × (left ++ drop n out ≡ output_after (within out (written b)) out)
  unfolding write_result counted output_after
  given-filled left h e =
      let fits : length b ≤ length out = rw size h in
      rw (long_enough out (tt {0}) b fits, e, size) (refl, refl)
