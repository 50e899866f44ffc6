-- A series that was read is the series that is written, by induction on the frames still to come.
use Prim.Native.Nat.{ℕ, zero, suc, ◌+◌, ◌-◌, ◌*◌, ◌/◌, ◌≤◌}
use mathlib.Core.Bool.{Bool, true, false, cond, ◌&&◌, ◌||◌}
use mathlib.Core.List.{List, [], ◌∷◌, ◌++◌, append_assoc, append-nil}
use mathlib.Core.Path.{◌≡◌, refl, ap, sym, ◌∙◌}
use native.Mathlib.Omega.{arith}
use borrow.Author.Tests.{leb-true, leb-false, eqb-true, ne_eqb}
use lib.Dec.{leb, eqb}
use lib.ListN.{length, get_or, take, drop, length-append}
use lib.Seq.{take_at, drop_at, get_or-take, length-take-le}
use Rattle.message_rules.specs.Answer.{Answer, refused, given}
use Rattle.message_rules.specs.Kinds.{is_event, type_number, type_kind}
use Rattle.message_rules.proofs.Answers.{after-passed}
use Rattle.message_rules.proofs.Checks.{require-passed, both_true}
use Rattle.can_rules.specs.Can.{series_type, series_kind, kind_or, kind_of_type, can_frame, series, type_legal, zeros, first_fits, first_checks, all_frames, later_fits, same_bytes, later_checks, prepend, later_frames}
use Rattle.can_rules.proofs.Frames.{same_bytes_lem, frame_back, used-count}

-- What a payload in front leaves after it.
pub prepend-given : (d : List ℕ) (x : Answer (List ℕ) (List ℕ)) (rest p : List ℕ) → prepend d x ≡ given rest p → (q : List ℕ) × (x ≡ given rest q) × (d ++ q ≡ p)
unfolding prepend
prepend-given d (refused n) rest p e = absurd (let z : ◌≡◌ {A = ℕ} 0 1 = cc in omega arith)
prepend-given d (given r q) rest p e =
    let hr : r ≡ rest = cc in
    let hp : d ++ q ≡ p = cc in
    (q, rw hr, hp)

-- The DLC of a later frame that fits.
pub later-dlc : (n d : ℕ) → later_fits n d ≡ true → (1 ≤ d) × (d ≤ 8)
unfolding later_fits
later-dlc zero d e = let h = both_true (leb 1 d) (leb d 7) e in (leb-true 1 d h.0, omega (arith, leb-true d 7 h.1))
later-dlc (suc n) d e = (omega (arith, eqb-true d 8 e), omega (arith, eqb-true d 8 e))

-- A later frame that was read: its payload bytes, what follows it, and what that gives.
pub record Later (i : List ℕ) (n : ℕ) (s rest p : List ℕ) : Type 0 where
  pub front : List ℕ
  pub after : List ℕ
  pub left : List ℕ
  pub whole : s ≡ can_frame i (front ++ (n ∷ [])) ++ after
  pub fits : later_fits n (length front + 1) ≡ true
  pub again : later_frames i n after ≡ given rest left
  pub parts : front ++ left ≡ p

later_one : (i : List ℕ) (n a b c t l : ℕ) (s rest p : List ℕ) → later_frames i (suc n) (a ∷ b ∷ c ∷ t ∷ l ∷ s) ≡ given rest p → Later i n (a ∷ b ∷ c ∷ t ∷ l ∷ s) rest p
unfolding later_frames later_checks
later_one i n a b c t l s rest p e =
    let f = after-passed _ _ rest p e in
    let h1 = require-passed (leb 13 (length (a ∷ b ∷ c ∷ t ∷ l ∷ s))) 1 _ f.0 in
    let h2 = require-passed (type_legal t) 2 _ h1.1 in
    let h6 = require-passed (later_fits n l) 6 _ h2.1 in
    let h7 = require-passed (zeros (drop l (take 8 s))) 7 _ h6.1 in
    let h10 = require-passed (same_bytes (a ∷ b ∷ c ∷ t ∷ []) i && eqb (get_or (take 8 s) (l - 1) 0) n) 10 _ h7.1 in
    let g = both_true (same_bytes (a ∷ b ∷ c ∷ t ∷ []) i) (eqb (get_or (take 8 s) (l - 1) 0) n) h10.0 in
    let same : a ∷ b ∷ c ∷ t ∷ [] ≡ i = same_bytes_lem _ i g.0 in
    let d = later-dlc n l h6.0 in
    let long = leb-true 13 (length (a ∷ b ∷ c ∷ t ∷ l ∷ s)) h1.0 in
    let eight : 8 ≤ length s = omega arith in
    let count : get_or s (l - 1) 0 ≡ n = sym (get_or-take 8 s (l - 1) 0 (omega (arith, d.0, d.1))) ∙ eqb-true _ n g.1 in
    let used : take l s ≡ take (l - 1) s ++ (n ∷ []) = rw count at (used-count l s d.0 (omega (arith, d.1))) in
    let size : length (take (l - 1) s) + 1 ≡ l = omega (arith, length-take-le (l - 1) s (omega (arith, d.1)), d.0) in
    let r = prepend-given (take (l - 1) s) (later_frames i n (drop 8 s)) rest p f.1 in
    record {
      front = take (l - 1) s;
      after = drop 8 s;
      left = r.0;
      whole = rw (← used, ← same) (frame_back a b c t l s eight d.1 h7.0);
      fits = rw size h6.0;
      again = r.1;
      parts = r.2;
    }

-- Fewer than five bytes are no frame.
later_short : (i : List ℕ) (n : ℕ) (s rest p : List ℕ) → later_frames i (suc n) s ≡ given rest p → 13 ≤ length s
unfolding later_frames
later_short i n s rest p e = leb-true 13 (length s) (require-passed (leb 13 (length s)) 1 _ (after-passed _ _ rest p e).0).0

later_any : (i : List ℕ) (n : ℕ) (s rest p : List ℕ) → later_frames i (suc n) s ≡ given rest p → Later i n s rest p
later_any i n [] rest p e = absurd (omega (arith, later_short i n [] rest p e))
later_any i n (a ∷ []) rest p e = absurd (omega (arith, later_short i n (a ∷ []) rest p e))
later_any i n (a ∷ b ∷ []) rest p e = absurd (omega (arith, later_short i n (a ∷ b ∷ []) rest p e))
later_any i n (a ∷ b ∷ c ∷ []) rest p e = absurd (omega (arith, later_short i n (a ∷ b ∷ c ∷ []) rest p e))
later_any i n (a ∷ b ∷ c ∷ t ∷ []) rest p e = absurd (omega (arith, later_short i n (a ∷ b ∷ c ∷ t ∷ []) rest p e))
later_any i n (a ∷ b ∷ c ∷ t ∷ l ∷ s) rest p e = later_one i n a b c t l s rest p e

-- All later frames.
pub series_back : (i : List ℕ) (n : ℕ) (s rest p : List ℕ) → later_frames i (suc n) s ≡ given rest p → (s ≡ series i n p ++ rest) × (7 * n ≤ length p) × (length p ≤ 7 * n + 6)
unfolding series later_frames later_fits
series_back i zero s rest p e =
    let l = later_any i zero s rest p e in
    let after : l.after ≡ rest = cc l.again in
    let none : [] ≡ l.left = cc l.again in
    let all : l.front ≡ p = sym (append-nil l.front) ∙ rw none l.parts in
    let g = both_true (leb 1 (length l.front + 1)) (leb (length l.front + 1) 7) l.fits in
    let high = leb-true (length l.front + 1) 7 g.1 in (
      l.whole ∙ ap (λ (x : List ℕ). can_frame i (l.front ++ (0 ∷ [])) ++ x) after ∙ ap (λ (x : List ℕ). can_frame i (x ++ (0 ∷ [])) ++ rest) all,
      omega arith,
      omega (arith, high, ap length all),
    )
series_back i (suc n) s rest p e =
    let l = later_any i (suc n) s rest p e in
    let again = series_back i n l.after rest l.left l.again in
    let seven : length l.front ≡ 7 = omega (arith, eqb-true (length l.front + 1) 8 l.fits) in
    let size : length l.front + length l.left ≡ length p = sym (length-append l.front l.left) ∙ ap length l.parts in
    let front : take 7 p ≡ l.front = ap (λ (x : List ℕ). take 7 x) (sym l.parts) ∙ take_at l.front l.left 7 seven in
    let left : drop 7 p ≡ l.left = ap (λ (x : List ℕ). drop 7 x) (sym l.parts) ∙ drop_at l.front l.left 7 seven in (
      rw (front, left, append_assoc, ← again.0) l.whole,
      omega (arith, size, seven, again.1),
      omega (arith, size, seven, again.2),
    )

-- A type of a single frame is its kind's own, and one of a series its kind's in a series.
pub single_type : (t : ℕ) → type_legal t ≡ true → leb 7 t ≡ false → (type_number (kind_of_type t) ≡ t) × (is_event (kind_of_type t) ≡ false)
unfolding type_legal kind_of_type kind_or series_kind type_kind
single_type zero legal h = absurd (let z : ◌≡◌ {A = ℕ} 0 1 = cc in omega arith)
single_type (suc zero) legal h = (refl, refl)
single_type (suc (suc zero)) legal h = (refl, refl)
single_type (suc (suc (suc zero))) legal h = (refl, refl)
single_type (suc (suc (suc (suc zero)))) legal h = (refl, refl)
single_type (suc (suc (suc (suc (suc zero))))) legal h = (refl, refl)
single_type (suc (suc (suc (suc (suc (suc zero)))))) legal h = (refl, refl)
single_type (suc (suc (suc (suc (suc (suc (suc t))))))) legal h = absurd (omega (arith, leb-false 7 (suc (suc (suc (suc (suc (suc (suc t))))))) h))

pub series_type_lem : (t : ℕ) → type_legal t ≡ true → leb 7 t ≡ true → series_type (type_number (kind_of_type t)) ≡ t
unfolding type_legal kind_of_type kind_or series_kind type_kind series_type
series_type_lem zero legal h = absurd (let z : ◌≡◌ {A = ℕ} 0 1 = cc in omega arith)
series_type_lem (suc zero) legal h = absurd (let z : ◌≡◌ {A = ℕ} 0 1 = cc in omega arith)
series_type_lem (suc (suc zero)) legal h = absurd (let z : ◌≡◌ {A = ℕ} 0 1 = cc in omega arith)
series_type_lem (suc (suc (suc zero))) legal h = absurd (let z : ◌≡◌ {A = ℕ} 0 1 = cc in omega arith)
series_type_lem (suc (suc (suc (suc zero)))) legal h = absurd (let z : ◌≡◌ {A = ℕ} 0 1 = cc in omega arith)
series_type_lem (suc (suc (suc (suc (suc zero))))) legal h = absurd (let z : ◌≡◌ {A = ℕ} 0 1 = cc in omega arith)
series_type_lem (suc (suc (suc (suc (suc (suc zero)))))) legal h = absurd (let z : ◌≡◌ {A = ℕ} 0 1 = cc in omega arith)
series_type_lem (suc (suc (suc (suc (suc (suc (suc zero))))))) legal h = refl
series_type_lem (suc (suc (suc (suc (suc (suc (suc (suc zero)))))))) legal h = refl
series_type_lem (suc (suc (suc (suc (suc (suc (suc (suc (suc zero))))))))) legal h = refl
series_type_lem (suc (suc (suc (suc (suc (suc (suc (suc (suc (suc t)))))))))) legal h =
    let n : ℕ = suc (suc (suc (suc (suc (suc (suc (suc (suc (suc t))))))))) in
    absurd (omega (arith, leb-true n 9 (both_true (leb 1 n) (leb n 9) legal).1))

-- The DLC of a first frame that fits: of a single frame,
pub first-dlc : (t l n : ℕ) → leb 7 t ≡ false → first_fits t l n ≡ true → l ≤ 8
unfolding first_fits
first-dlc t l n h f = by (eqb t 1 || eqb t 5) refl
  where
    by : (x : Bool) → (eqb t 1 || eqb t 5) ≡ x → l ≤ 8
    by true q = leb-true l 8 (rw q at f)
    by false q = let e = eqb-true l 0 (rw (q, h) at f) in omega arith

-- and of a series, with its count.
pub first_count : (t l n : ℕ) → leb 7 t ≡ true → first_fits t l n ≡ true → (l ≡ 8) × (1 ≤ n) × (n ≤ 36)
unfolding first_fits
first_count t l n h f =
    let low = leb-true 7 t h in
    let g = both_true (eqb l 8) (leb 1 n && leb n 36) (rw (ne_eqb t 1 (λ e. omega (arith, low, e)), ne_eqb t 5 (λ e. omega (arith, low, e)), h) at f) in
    let k = both_true (leb 1 n) (leb n 36) g.1 in
    (eqb-true l 8 g.0, leb-true 1 n k.0, leb-true n 36 k.1)

-- The first frame that was read, single,
first_checked : (a b c t l : ℕ) (s rest p : List ℕ) → all_frames (a ∷ b ∷ c ∷ t ∷ l ∷ s) ≡ given rest p
    → (8 ≤ length s) × (type_legal t ≡ true) × (first_fits t l (get_or (take 8 s) 7 0) ≡ true) × (zeros (drop l (take 8 s)) ≡ true)
    × (cond (leb 7 t) (prepend (take 7 s) (later_frames (a ∷ b ∷ c ∷ t ∷ []) (get_or s 7 0) (drop 8 s))) (given (drop 8 s) (take l s)) ≡ given rest p)
unfolding all_frames first_checks
first_checked a b c t l s rest p e =
    let f = after-passed _ _ rest p e in
    let h1 = require-passed (leb 13 (length (a ∷ b ∷ c ∷ t ∷ l ∷ s))) 1 _ f.0 in
    let h2 = require-passed (type_legal t) 2 _ h1.1 in
    let h6 = require-passed (first_fits t l (get_or (take 8 s) 7 0)) 6 _ h2.1 in
    let h7 = require-passed (zeros (drop l (take 8 s))) 7 _ h6.1 in
    let long = leb-true 13 (length (a ∷ b ∷ c ∷ t ∷ l ∷ s)) h1.0 in
    (omega arith, h2.0, h6.0, h7.0, f.1)

pub single_back : (a b c t l : ℕ) (s rest p : List ℕ) → leb 7 t ≡ false → all_frames (a ∷ b ∷ c ∷ t ∷ l ∷ s) ≡ given rest p
    → (a ∷ b ∷ c ∷ t ∷ l ∷ s ≡ can_frame (a ∷ b ∷ c ∷ t ∷ []) p ++ rest) × (length p ≤ 8) × (type_legal t ≡ true)
single_back a b c t l s rest p h e =
    let f = first_checked a b c t l s rest p e in
    let g : given (drop 8 s) (take l s) ≡ given rest p = rw h at f.4 in
    let hr : drop 8 s ≡ rest = cc in
    let hp : take l s ≡ p = cc in
    let short = first-dlc t l (get_or (take 8 s) 7 0) h f.2 in
    (frame_back a b c t l s f.0 short f.3 ∙ rw (hr, hp), omega (arith, ap length hp, length-take-le l s (omega (arith, f.0)), short), f.1)

-- or of a series.
pub series_all_back : (a b c t l : ℕ) (s rest p : List ℕ) → leb 7 t ≡ true → all_frames (a ∷ b ∷ c ∷ t ∷ l ∷ s) ≡ given rest p
    → (a ∷ b ∷ c ∷ t ∷ l ∷ s ≡ series (a ∷ b ∷ c ∷ t ∷ []) (length p / 7) p ++ rest) × (type_legal t ≡ true)
unfolding series
series_all_back a b c t l s rest p h e =
    let i = a ∷ b ∷ c ∷ t ∷ [] in
    let f = first_checked a b c t l s rest p e in
    let count : get_or (take 8 s) 7 0 ≡ get_or s 7 0 = get_or-take 8 s 7 0 (omega arith) in
    let d = first_count t l (get_or (take 8 s) 7 0) h f.2 in
    let k = get_or s 7 0 - 1 in
    let count-is : get_or s 7 0 ≡ suc k = omega (arith, d.1, count) in
    let g : prepend (take 7 s) (later_frames i (get_or s 7 0) (drop 8 s)) ≡ given rest p = rw h at f.4 in
    let r = prepend-given (take 7 s) (later_frames i (get_or s 7 0) (drop 8 s)) rest p g in
    let later : later_frames i (suc k) (drop 8 s) ≡ given rest r.0 = ap (λ (n : ℕ). later_frames i n (drop 8 s)) (sym count-is) ∙ r.1 in
    let back = series_back i k (drop 8 s) rest r.0 later in
    let seven : length (take 7 s) ≡ 7 = length-take-le 7 s (omega (arith, f.0)) in
    let size : length (take 7 s) + length r.0 ≡ length p = sym (length-append (take 7 s) r.0) ∙ ap length r.2 in
    let frames : length p / 7 ≡ suc k = omega (arith, size, seven, back.1, back.2) in
    let front : take 7 p ≡ take 7 s = ap (λ (x : List ℕ). take 7 x) (sym r.2) ∙ take_at (take 7 s) r.0 7 seven in
    let left : drop 7 p ≡ r.0 = ap (λ (x : List ℕ). drop 7 x) (sym r.2) ∙ drop_at (take 7 s) r.0 7 seven in
    let used : take 8 s ≡ take 7 s ++ (suc k ∷ []) = used-count 8 s (omega arith) f.0 ∙ ap (λ (n : ℕ). take 7 s ++ (n ∷ [])) count-is in
    let whole : a ∷ b ∷ c ∷ t ∷ l ∷ s ≡ can_frame i (take 8 s) ++ drop 8 s =
    rw d.0 (frame_back a b c t 8 s f.0 (omega arith) (rw d.0 at f.3)) in
    (whole ∙ rw (frames, front, left, used, append_assoc, ← back.0), f.1)
