-- The laws of one frame: written, it passes the checks of its place and gives its data back, with what follows it. Carried by its length,
-- since used bytes and zeros are always eight: `take` and `drop` of a concatenation then find each part.
use Prim.Native.Nat.{ℕ, zero, suc, ◌-◌, ◌≤◌}
use mathlib.Core.Bool.{true, false, ◌&&◌}
use mathlib.Core.List.{List, [], ◌∷◌, ◌++◌, append_assoc}
use mathlib.Core.Path.{◌≡◌, refl, ap, ◌∙◌}
use native.Mathlib.Omega.{arith}
use borrow.Author.Tests.{le-leb, eq-eqb, ne_eqb, leb-true, eqb-true}
use lib.Dec.{leb, eqb}
use lib.ListN.{length, get_or, take, drop, replicate, drop_of_length-le, length-append, length-replicate, length-drop, take-append-drop}
use lib.Seq.{take_all, take-take, take-suc, length-take-le, take_at, drop_at, get_or_at}
use Rattle.message_rules.specs.Answer.{require, after, given}
use Rattle.message_rules.proofs.Checks.{both_true}
use Rattle.can_rules.specs.Can.{can_frame, type_legal, zeros, first_fits, first_checks, later_fits, same_bytes, later_checks, prepend, later_frames, all_frames}

zeros-replicate : (n : ℕ) → zeros (replicate n 0) ≡ true
unfolding zeros
zeros-replicate zero = refl
zeros-replicate (suc n) = zeros-replicate n

same_self : (s : List ℕ) → same_bytes s s ≡ true
unfolding same_bytes
same_self [] = refl
same_self (b ∷ s) = rw (eq-eqb b b refl, same_self s)

-- Used bytes with zeros after them are eight.
padded : (d : List ℕ) → length d ≤ 8 → length (d ++ replicate (8 - length d) 0) ≡ 8
padded d h = simp (length-append, length-replicate) (omega arith)

-- The last used byte.
last-used : (q : List ℕ) (n : ℕ) (s : List ℕ) → get_or ((q ++ (n ∷ [])) ++ s) (length (q ++ (n ∷ [])) - 1) 0 ≡ n
last-used q n s =
    let e : length (q ++ (n ∷ [])) - 1 ≡ length q = simp length-append (omega arith) in
    rw (e, append_assoc) (get_or_at q n s 0 (length q) refl)

front-used : (q : List ℕ) (n : ℕ) (s r : List ℕ) → take (length (q ++ (n ∷ [])) - 1) (((q ++ (n ∷ [])) ++ s) ++ r) ≡ q
front-used q n s r =
    let e : length (q ++ (n ∷ [])) - 1 ≡ length q = simp length-append (omega arith) in
    simp (e, append_assoc) (take_at q _ (length q) refl)

module _ (a b c t : ℕ) (q : List ℕ) (n : ℕ) (rest : List ℕ) (short : length q ≤ 7) where
  pub later-frame : type_legal t ≡ true → later_fits n (length (q ++ (n ∷ []))) ≡ true
      → later_frames (a ∷ b ∷ c ∷ t ∷ []) (suc n) (can_frame (a ∷ b ∷ c ∷ t ∷ []) (q ++ (n ∷ [])) ++ rest) ≡ prepend q (later_frames (a ∷ b ∷ c ∷ t ∷ []) n rest)
  unfolding later_frames later_checks can_frame require after
  later-frame legal fits =
      let i = a ∷ b ∷ c ∷ t ∷ [] in
      let d = q ++ (n ∷ []) in
      let z : List ℕ = replicate (8 - length d) 0 in
      let eight : length (d ++ z) ≡ 8 = padded d (simp length-append (omega arith)) in
      let long : 13 ≤ length (a ∷ b ∷ c ∷ t ∷ length d ∷ ((d ++ z) ++ rest)) = simp length-append (omega (arith, simp length-append at eight)) in
      rw (le-leb _ _ long, take_at (d ++ z) rest 8 eight, drop_at (d ++ z) rest 8 eight, legal, fits, drop_at d z (length d) refl, zeros-replicate (8 - length d), same_self i, last-used q n z, eq-eqb n n refl, front-used q n z rest)

  -- The first frame of a series has seven payload bytes and its count.
  pub first_frame : type_legal t ≡ true → leb 7 t ≡ true → length q ≡ 7 → leb 1 n && leb n 36 ≡ true
      → all_frames (can_frame (a ∷ b ∷ c ∷ t ∷ []) (q ++ (n ∷ [])) ++ rest) ≡ prepend q (later_frames (a ∷ b ∷ c ∷ t ∷ []) n rest)
  unfolding all_frames first_checks first_fits can_frame require after
  first_frame legal long seven count =
      let d = q ++ (n ∷ []) in
      let z : List ℕ = replicate (8 - length d) 0 in
      let used : length d ≡ 8 = simp length-append (omega arith) in
      let eight : length (d ++ z) ≡ 8 = padded d (omega arith) in
      let fits : 13 ≤ length (a ∷ b ∷ c ∷ t ∷ length d ∷ ((d ++ z) ++ rest)) = simp length-append (omega (arith, simp length-append at eight)) in
      let seventh : (r : List ℕ) → get_or ((d ++ z) ++ r) 7 0 ≡ n = λ r. simp append_assoc (get_or_at q n (z ++ r) 0 7 seven) in
      let inner : get_or (d ++ z) 7 0 ≡ n = simp append_assoc (get_or_at q n z 0 7 seven) in
      let front : take 7 ((d ++ z) ++ rest) ≡ q = simp append_assoc (take_at q _ 7 seven) in
      let low = leb-true 7 t long in
      let single = ne_eqb t 1 (λ e. omega (arith, low, e)) in
      let short-single = ne_eqb t 5 (λ e. omega (arith, low, e)) in
      rw (le-leb _ _ fits, take_at (d ++ z) rest 8 eight, drop_at (d ++ z) rest 8 eight, legal, single, short-single, long, inner, count, drop_at d z (length d) refl, zeros-replicate (8 - length d), front, seventh rest, eq-eqb (length d) 8 used)

-- A frame that is no series' has no count.
any_count : (t n k : ℕ) → leb 7 t ≡ false → first_fits t n k ≡ first_fits t n 0
unfolding first_fits
any_count t n k h = rw h

-- A single frame.
pub single_frame : (a b c t : ℕ) (p : List ℕ) → length p ≤ 8 → type_legal t ≡ true → leb 7 t ≡ false → first_fits t (length p) 0 ≡ true
    → all_frames (can_frame (a ∷ b ∷ c ∷ t ∷ []) p) ≡ given [] p
unfolding all_frames first_checks can_frame require after
single_frame a b c t p short legal single fits =
    let z : List ℕ = replicate (8 - length p) 0 in
    let eight : length (p ++ z) ≡ 8 = padded p short in
    let long : 13 ≤ length (a ∷ b ∷ c ∷ t ∷ length p ∷ (p ++ z)) = omega (arith, eight) in
    let all : take 8 (p ++ z) ≡ p ++ z = take_all 8 (p ++ z) (omega arith) in
    let none : drop 8 (p ++ z) ≡ [] = drop_of_length-le (p ++ z) {i = 8} (omega arith) in
    rw (le-leb _ _ long, all, legal, any_count t (length p) (get_or (p ++ z) 7 0) single, fits, drop_at p z (length p) refl, zeros-replicate (8 - length p), single, none, take_at p z (length p) refl)

-- The other way round: a list of zeros is so many,
zeros_are : (s : List ℕ) → zeros s ≡ true → s ≡ replicate (length s) 0
unfolding zeros
zeros_are [] h = refl
zeros_are (b ∷ s) h =
    let g = both_true (eqb b 0) (zeros s) h in
    rw (eqb-true b 0 g.0) (ap (λ (l : List ℕ). 0 ∷ l) (zeros_are s g.1))

-- identifiers whose bytes are the same are the same,
pub same_bytes_lem : (r s : List ℕ) → same_bytes r s ≡ true → r ≡ s
unfolding same_bytes
same_bytes_lem [] [] h = refl
same_bytes_lem [] (b ∷ s) h = absurd (let z : ◌≡◌ {A = ℕ} 0 1 = cc in omega arith)
same_bytes_lem (a ∷ r) [] h = absurd (let z : ◌≡◌ {A = ℕ} 0 1 = cc in omega arith)
same_bytes_lem (a ∷ r) (b ∷ s) h =
    let g = both_true (eqb a b) (same_bytes r s) h in
    rw (eqb-true a b g.0, same_bytes_lem r s g.1)

-- and a frame with zeros past its DLC is its used bytes as they are written, with what follows it.
pub frame_back : (a b c t n : ℕ) (s : List ℕ) → 8 ≤ length s → n ≤ 8 → zeros (drop n (take 8 s)) ≡ true
    → a ∷ b ∷ c ∷ t ∷ n ∷ s ≡ can_frame (a ∷ b ∷ c ∷ t ∷ []) (take n s) ++ drop 8 s
unfolding can_frame
frame_back a b c t n s long short h =
    let size : length (take n s) ≡ n = length-take-le n s (omega arith) in
    let left : length (drop n (take 8 s)) ≡ 8 - n = rw (length-drop, length-take-le 8 s long) in
    let rest : drop n (take 8 s) ≡ replicate (8 - n) 0 = rw left at (zeros_are (drop n (take 8 s)) h) in
    let whole : take n s ++ replicate (8 - n) 0 ≡ take 8 s =
    rw (← rest, ← take-take n 8 s short) (take-append-drop n (take 8 s)) in
    rw (size, whole, take-append-drop)

-- The used bytes end with the count.
pub used-count : (n : ℕ) (s : List ℕ) → 1 ≤ n → n ≤ length s → take n s ≡ take (n - 1) s ++ (get_or s (n - 1) 0 ∷ [])
used-count n s one long =
    let e : n ≡ suc (n - 1) = omega arith in
    ap (λ (k : ℕ). take k s) e ∙ take-suc s (n - 1) 0 (omega arith)
