-- The laws of the scan: what the checks of a frame come to, and what the frames from a place on add to those before it. Carried by the
-- definitions, which compute once a frame's length and checks are known, so that a count in front of a count adds up.
use Prim.Native.Nat.{ℕ, suc, ◌+◌, ◌-◌, ◌≤◌, ◌<◌}
use mathlib.Core.Bool.{true}
use mathlib.Core.List.{List, []}
use mathlib.Core.Path.{◌≡◌, refl, ap, ◌∙◌}
use native.Mathlib.Nat.{add-zero}
use native.Mathlib.Omega.{arith}
use borrow.Author.Tests.{le-leb, lt-leb}
use lib.ListN.{length, get_or, take, drop, length-append, length-drop}
use lib.Seq.{get_or-drop, get_or-take, length-take-le}
use Rattle.message_rules.specs.Answer.{Answer, refused, given, passed, failed, require, after, counted}
use Rattle.message_rules.proofs.Answers.{counted-refused}
use Rattle.message_rules.proofs.Checks.{require-passed}
use Rattle.can_rules.specs.Can.{type_legal, first_fits, first_checks, later_fits, later_checks, prepend, later_frames, all_frames}
use Rattle.can_rules.proofs.Series.{later-dlc, first-dlc, first_count}
use Rattle.can_scan.specs.Measured.{measured}

-- The payload of an answer, and what its count tells.
abbrev pub payload : {A : Type 0} → Answer A (List ℕ) → List ℕ
payload (refused n) = []
payload (given a p) = p

module _ {A : Type 0} where
  pub counted-given : (x : Answer A (List ℕ)) (a : A) (n : ℕ) → counted x ≡ given a n → (x ≡ given a (payload x)) × (length (payload x) ≡ n)
  unfolding counted
  counted-given (refused k) a n e = absurd (let z : ◌≡◌ {A = ℕ} 0 1 = cc in omega arith)
  counted-given (given b p) a n e = (cc, cc)

-- What is left of the input after the frames, and how long both parts are.
abbrev pub rest_of : Answer (List ℕ) (List ℕ) → List ℕ
rest_of (refused n) = []
rest_of (given r p) = r

measured-refused : (x : Answer (List ℕ) (List ℕ)) (n : ℕ) → counted x ≡ refused n → measured x ≡ refused n
unfolding measured
measured-refused x n e = rw (counted-refused x n e)

measured-given : (x : Answer (List ℕ) (List ℕ)) (r : List ℕ) (n : ℕ) → counted x ≡ given r n → measured x ≡ given (length r) n
unfolding measured
measured-given x r n e = let g = counted-given x r n e in rw g.0 (ap (given (length r)) g.1)

pub refused-measured : (x : Answer (List ℕ) (List ℕ)) (n : ℕ) → measured x ≡ refused n → x ≡ refused n
unfolding measured
refused-measured (refused k) n e = cc
refused-measured (given r p) n e = absurd (let z : ◌≡◌ {A = ℕ} 0 1 = cc in omega arith)

pub given-measured : (x : Answer (List ℕ) (List ℕ)) (k n : ℕ) → measured x ≡ given k n → (counted x ≡ given (rest_of x) n) × (length (rest_of x) ≡ k)
unfolding measured counted
given-measured (refused j) k n e = absurd (let z : ◌≡◌ {A = ℕ} 0 1 = cc in omega arith)
given-measured (given r p) k n e = (let s : length p ≡ n = cc in ap (given r) s, cc)

-- A first frame that passed its checks.
first_fits_lem : (b : List ℕ) → first_checks (take 13 b) ≡ passed → first_fits (get_or b 3 0) (get_or b 4 0) (get_or b 12 0) ≡ true
unfolding first_checks
first_fits_lem b e =
    let f = take 13 b in
    let h2 = require-passed (type_legal (get_or f 3 0)) 2 _ e in
    let h6 = require-passed (first_fits (get_or f 3 0) (get_or f 4 0) (get_or (drop 5 f) 7 0)) 6 _ h2.1 in
    rw (get_or-drop 5 f 7 0, get_or-take 13 b 3 0 (omega arith), get_or-take 13 b 4 0 (omega arith), get_or-take 13 b 12 0 (omega arith)) at h6.0

module _ (b : List ℕ) (room : 13 ≤ length b) (checks : first_checks (take 13 b) ≡ passed) where
  pub all_single : get_or b 3 0 < 7 → all_frames b ≡ given (drop 13 b) (take (get_or b 4 0) (drop 5 b))
  unfolding all_frames require after
  all_single h = rw (le-leb 13 (length b) room, checks, lt-leb 7 (get_or b 3 0) h)

  pub all_series : 7 ≤ get_or b 3 0 → all_frames b ≡ prepend (take 7 (drop 5 b)) (later_frames (take 4 b) (get_or b 12 0) (drop 13 b))
  unfolding all_frames require after
  all_series h = rw (le-leb 13 (length b) room, checks, le-leb 7 (get_or b 3 0) h, get_or-drop 5 b 7 0)

  pub single_dlc : get_or b 3 0 < 7 → get_or b 4 0 ≤ 8
  single_dlc h = first-dlc (get_or b 3 0) (get_or b 4 0) (get_or b 12 0) (lt-leb 7 (get_or b 3 0) h) (first_fits_lem b checks)

  pub series-dlc : 7 ≤ get_or b 3 0 → get_or b 4 0 ≡ 8
  series-dlc h = (first_count (get_or b 3 0) (get_or b 4 0) (get_or b 12 0) (le-leb 7 (get_or b 3 0) h) (first_fits_lem b checks)).0

  pub single_counted : get_or b 3 0 < 7 → counted (all_frames b) ≡ given (drop 13 b) (get_or b 4 0)
  unfolding counted
  single_counted h =
      rw (all_single h)
      (ap (given (drop 13 b)) (length-take-le (get_or b 4 0) (drop 5 b) (rw length-drop (omega (arith, single_dlc h)))))

-- So many bytes more in front of a payload that was counted.
abbrev pub longer : ℕ → Answer (List ℕ) ℕ → Answer (List ℕ) ℕ
longer k (refused n) = refused n
longer k (given r n) = given r (k + n)

longer_longer : (j k : ℕ) (x : Answer (List ℕ) ℕ) → longer j (longer k x) ≡ longer (j + k) x
longer_longer j k (refused n) = refl
longer_longer j k (given r n) = ap (given r) (omega arith)

counted-prepend : (d : List ℕ) (x : Answer (List ℕ) (List ℕ)) → counted (prepend d x) ≡ longer (length d) (counted x)
unfolding counted prepend
counted-prepend d (refused n) = refl
counted-prepend d (given r p) = ap (given r) (length-append d p)

-- A later frame at the start of what is left of the input, with n still to come.
module _ (i : List ℕ) (n : ℕ) (r : List ℕ) where
  later_cut : length r < 13 → later_frames i (suc n) r ≡ refused 1
  unfolding later_frames require after
  later_cut h = rw (lt-leb 13 (length r) h)

  later-failed : (k : ℕ) → 13 ≤ length r → later_checks i n (take 13 r) ≡ failed k → later_frames i (suc n) r ≡ refused k
  unfolding later_frames require after
  later-failed k h e = rw (le-leb 13 (length r) h, e)

  pub later-passed : 13 ≤ length r → later_checks i n (take 13 r) ≡ passed → later_frames i (suc n) r ≡ prepend (take (get_or r 4 0 - 1) (drop 5 r)) (later_frames i n (drop 13 r))
  unfolding later_frames require after
  later-passed h e = rw (le-leb 13 (length r) h, e)

  pub passed-dlc : later_checks i n (take 13 r) ≡ passed → (1 ≤ get_or r 4 0) × (get_or r 4 0 ≤ 8)
  unfolding later_checks
  passed-dlc e =
      let f = take 13 r in
      let h2 = require-passed (type_legal (get_or f 3 0)) 2 _ e in
      let h6 = require-passed (later_fits n (get_or f 4 0)) 6 _ h2.1 in
      rw (← get_or-take 13 r 4 0 (omega arith)) (later-dlc n (get_or f 4 0) h6.0)

  later-counted : 13 ≤ length r → later_checks i n (take 13 r) ≡ passed → counted (later_frames i (suc n) r) ≡ longer (get_or r 4 0 - 1) (counted (later_frames i n (drop 13 r)))
  later-counted h e =
      let d = passed-dlc e in
      let size : length (take (get_or r 4 0 - 1) (drop 5 r)) ≡ get_or r 4 0 - 1 = length-take-le (get_or r 4 0 - 1) (drop 5 r) (rw length-drop (omega (arith, d))) in
      rw (later-passed h e, counted-prepend, size)

-- All frames come to what the later ones come to that are left, with so many bytes in front.
abbrev pub Ahead : List ℕ → List ℕ → ℕ → ℕ → Type 0
Ahead b r size k = counted (all_frames b) ≡ longer size (counted (later_frames (take 4 b) k r))

pub ahead_first : (b : List ℕ) → 13 ≤ length b → first_checks (take 13 b) ≡ passed → 7 ≤ get_or b 3 0 → Ahead b (drop 13 b) 7 (get_or b 12 0)
ahead_first b room checks h =
    let size : length (take 7 (drop 5 b)) ≡ 7 = length-take-le 7 (drop 5 b) (rw length-drop (omega arith)) in
    rw (all_series b room checks h, counted-prepend, size)

-- The first frame cut short or refused.
pub first_cut : (b : List ℕ) → length b < 13 → measured (all_frames b) ≡ refused 1
unfolding all_frames measured require after
first_cut b h = rw (lt-leb 13 (length b) h)

pub first-failed : (b : List ℕ) (k : ℕ) → 13 ≤ length b → first_checks (take 13 b) ≡ failed k → measured (all_frames b) ≡ refused k
unfolding all_frames measured require after
first-failed b k h e = rw (le-leb 13 (length b) h, e)

module _ (b r : List ℕ) (size left : ℕ) (more : 0 < left) (ahead : Ahead b r size left) where
  ahead_more : Ahead b r size (suc (left - 1))
  ahead_more = let one : left ≡ suc (left - 1) = omega arith in rw one at ahead

  pub ahead_cut : length r < 13 → measured (all_frames b) ≡ refused 1
  unfolding counted
  ahead_cut h = measured-refused (all_frames b) 1 (ahead_more ∙ rw (later_cut (take 4 b) (left - 1) r h))

  -- The next frame, and what is left after it.
  module _ (f others : List ℕ) (parts : (f ≡ take 13 r) × (others ≡ drop 13 r) × (length others + 13 ≡ length r)) where
    room : 13 ≤ length r
    room = omega arith

    pub ahead_failed : (j : ℕ) → later_checks (take 4 b) (left - 1) f ≡ failed j → measured (all_frames b) ≡ refused j
    unfolding counted
    ahead_failed j e = measured-refused (all_frames b) j (ahead_more ∙ rw (later-failed (take 4 b) (left - 1) r j room (rw parts.0 at e)))

    pub ahead-dlc : later_checks (take 4 b) (left - 1) f ≡ passed → (1 ≤ get_or f 4 0) × (get_or f 4 0 ≤ 8)
    ahead-dlc e = rw (parts.0, get_or-take 13 r 4 0 (omega arith)) (passed-dlc (take 4 b) (left - 1) r (rw parts.0 at e))

    pub ahead_passed : later_checks (take 4 b) (left - 1) f ≡ passed → Ahead b others (size + (get_or f 4 0 - 1)) (left - 1)
    ahead_passed e =
        ahead_more
        ∙ rw (parts.0, parts.1, get_or-take 13 r 4 0 (omega arith), later-counted (take 4 b) (left - 1) r room (rw parts.0 at e), longer_longer)

pub ahead_done : (b r : List ℕ) (size : ℕ) → Ahead b r size 0 → measured (all_frames b) ≡ given (length r) size
unfolding later_frames counted
ahead_done b r size e = measured-given (all_frames b) r size (e ∙ ap (given r) (add-zero size))

pub single_measured : (b : List ℕ) → 13 ≤ length b → first_checks (take 13 b) ≡ passed → get_or b 3 0 < 7 → measured (all_frames b) ≡ given (length b - 13) (get_or b 4 0)
single_measured b room checks h = measured-given (all_frames b) (drop 13 b) (get_or b 4 0) (single_counted b room checks h) ∙ rw length-drop
