-- The order of a reader's refusals: each law computes the definitions of Can from what it supposes of a frame or of what the frames give. What
-- it leaves open can be anything.
use Prim.Native.Nat.{ℕ, zero, suc, ◌-◌, ◌≤◌, ◌<◌}
use mathlib.Core.Bool.{Bool, true, false, ◌&&◌, and-false}
use mathlib.Core.List.{List, [], ◌∷◌}
use mathlib.Core.Path.{◌≡◌, refl}
use native.Mathlib.Omega.{arith}
use borrow.Author.Tests.{le-leb, lt-leb, ne_eqb, leb-true, eqb-true}
use lib.Dec.{leb, eqb}
use lib.ListN.{length, get_or, take, drop}
use Rattle.message_rules.specs.Answer.{refused, given, passed, failed, require, after}
use Rattle.can_rules.specs.Can.{kind_of_type, type_field, dlc, data_field, type_legal, zeros, first_fits, first_checks, later_fits, same_bytes, later_checks, prepend, later_frames, all_frames, can_id_legal, message_checks, can_message, complete, can_read}
use Rattle.can_rules.proofs.Frames.{same_bytes_lem}

-- A type that is none of 1..9, with higher bits or without; a byte past the DLC that is not 0.
no_type : (t : ℕ) → (1 ≤ t → t ≤ 9 → ⊥) → type_legal t ≡ false
unfolding type_legal
no_type t other = by (leb 1 t) refl (leb t 9) refl
  where
    by : (x : Bool) → leb 1 t ≡ x → (y : Bool) → leb t 9 ≡ y → leb 1 t && leb t 9 ≡ false
    by true p true q = absurd (other (leb-true 1 t p) (leb-true t 9 q))
    by true p false q = rw (p, q)
    by false p y q = rw p

not_zeros : (s : List ℕ) (j : ℕ) → (get_or s j 0 ≡ 0 → ⊥) → zeros s ≡ false
unfolding zeros
not_zeros [] j h = absurd (h refl)
not_zeros (b ∷ s) zero h = rw (ne_eqb b 0 h)
not_zeros (b ∷ s) (suc j) h = rw (not_zeros s j h) (and-false (eqb b 0))

-- "Within it 2, 6, 7, 10", of a first frame and of a later one of any series, with any number of frames still to come.
module _ (f : List ℕ) where
  -- 2 whatever the DLC,
  module _ (other : 1 ≤ type_field f → type_field f ≤ 9 → ⊥) where
    pub first_two : first_checks f ≡ failed 2
    unfolding first_checks require
    first_two = rw (no_type _ other)

    pub later_two : (i : List ℕ) (n : ℕ) → later_checks i n f ≡ failed 2
    unfolding later_checks require
    later_two i n = rw (no_type _ other)

  module _ (legal : type_legal (type_field f) ≡ true) where
    -- 6 whatever the bytes past the DLC,
    pub first_six : first_fits (type_field f) (dlc f) (get_or (data_field f) 7 0) ≡ false → first_checks f ≡ failed 6
    unfolding first_checks require
    first_six wrong = rw (legal, wrong)

    pub later_six : (i : List ℕ) (n : ℕ) → later_fits n (dlc f) ≡ false → later_checks i n f ≡ failed 6
    unfolding later_checks require
    later_six i n wrong = rw (legal, wrong)

    -- 7 whatever the identifier and the count,
    module _ (j : ℕ) (past : get_or (drop (dlc f) (data_field f)) j 0 ≡ 0 → ⊥) where
      pub first_seven : first_fits (type_field f) (dlc f) (get_or (data_field f) 7 0) ≡ true → first_checks f ≡ failed 7
      unfolding first_checks require
      first_seven fits = rw (legal, fits, not_zeros _ j past)

      pub later_seven : (i : List ℕ) (n : ℕ) → later_fits n (dlc f) ≡ true → later_checks i n f ≡ failed 7
      unfolding later_checks require
      later_seven i n fits = rw (legal, fits, not_zeros _ j past)

    -- 10 for another identifier as for a wrong count.
    pub later_ten : (i : List ℕ) (n : ℕ) → later_fits n (dlc f) ≡ true → zeros (drop (dlc f) (data_field f)) ≡ true
        → (take 4 f ≡ i → get_or (data_field f) (dlc f - 1) 0 ≡ n → ⊥) → later_checks i n f ≡ failed 10
    unfolding later_checks require
    later_ten i n fits clean other = rw (legal, fits, clean) (by (same_bytes (take 4 f) i) refl (eqb count n) refl)
      where
        count : ℕ
        count = get_or (data_field f) (dlc f - 1) 0

        by : (x : Bool) → same_bytes (take 4 f) i ≡ x → (y : Bool) → eqb count n ≡ y → require (same_bytes (take 4 f) i && eqb count n) 10 passed ≡ failed 10
        by true p true q = absurd (other (same_bytes_lem _ i p) (eqb-true _ n q))
        by true p false q = rw (p, q)
        by false p y q = rw p

-- "The first faulty frame from the left decides", whatever follows it: the first,
pub first_decides : (b : List ℕ) (k : ℕ) → 13 ≤ length b → first_checks (take 13 b) ≡ failed k → can_read b ≡ refused k
unfolding can_read complete all_frames require after
first_decides b k whole fault = rw (le-leb 13 _ whole, fault)

-- or one that is reached after faultless ones: n frames of the series with identifier i are to come in s.
pub data Reached (b i : List ℕ) : ℕ → List ℕ → Type 0 where
  after_first : 13 ≤ length b → first_checks (take 13 b) ≡ passed → 7 ≤ type_field b → i ≡ take 4 b → Reached b i (get_or (data_field b) 7 0) (drop 13 b)
  after-later : (n : ℕ) (s : List ℕ) → Reached b i (suc n) s → 13 ≤ length s → later_checks i n (take 13 s) ≡ passed → Reached b i n (drop 13 s)

reached_refused : (b i : List ℕ) (n : ℕ) (s : List ℕ) (k : ℕ) → Reached b i n s → later_frames i n s ≡ refused k → can_read b ≡ refused k
unfolding can_read complete all_frames later_frames prepend require after
reached_refused b i n s k (after_first whole good long same) fault = rw (le-leb 13 _ whole, good, le-leb 7 _ long, ← same, fault)
reached_refused b i n s k (after-later n' s' r whole good) fault = reached_refused b i (suc n') s' k r (rw (le-leb 13 _ whole, good, fault))

pub later_decides : (b i : List ℕ) (n : ℕ) (s : List ℕ) (k : ℕ) → Reached b i (suc n) s → 13 ≤ length s → later_checks i n (take 13 s) ≡ failed k → can_read b ≡ refused k
unfolding later_frames require after
later_decides b i n s k r whole fault = reached_refused b i (suc n) s k r (rw (le-leb 13 _ whole, fault))

-- "2, 3, 4 and 6 have DLC 0": above it they are 6, whatever follows.
pub no_data_six : (b : List ℕ) → 13 ≤ length b → (let t = type_field (take 13 b) in (2 ≤ t) × (t ≤ 6) × (t ≡ 5 → ⊥)) → 0 < dlc (take 13 b) → can_read b ≡ refused 6
unfolding type_legal first_fits
no_data_six b whole t some =
    let f = take 13 b in
    let legal : type_legal (type_field f) ≡ true = rw (le-leb 1 (type_field f) (omega arith), le-leb (type_field f) 9 (omega arith)) in
    let wrong : first_fits (type_field f) (dlc f) (get_or (data_field f) 7 0) ≡ false =
    rw (ne_eqb (type_field f) 1 (λ e. omega arith), ne_eqb (type_field f) 5 t.2, lt-leb 7 (type_field f) (omega arith), ne_eqb (dlc f) 0 (λ e. omega arith)) in
    first_decides b 6 whole (first_six f legal wrong)

-- "Anything after a complete message 4", whatever the ID and the length;
pub trailing_four : (b : List ℕ) (x : ℕ) (rest p : List ℕ) → all_frames b ≡ given (x ∷ rest) p → can_read b ≡ refused 4
unfolding can_read complete require after
trailing_four b x rest p frames = rw (frames, ne_eqb (length (x ∷ rest)) 0 (λ e. omega arith))

-- "then 5", whatever the length.
pub unknown_five : (b p : List ℕ) → all_frames b ≡ given [] p → can_id_legal (kind_of_type (type_field b)) (get_or b 2 0) ≡ false → can_read b ≡ refused 5
unfolding can_read complete message_checks can_message require after
unknown_five b p frames other = rw (frames, other)
