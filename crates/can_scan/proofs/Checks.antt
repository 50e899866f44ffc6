-- The checks of a frame by its bytes. Carried by the laws of `drop`, a byte of the data being a byte of the frame five further on, and by
-- the tests' recursion, which is the library's.
use Prim.Native.Nat.{ℕ, ◌+◌, ◌-◌}
use mathlib.Core.Bool.{Bool, true, false, ◌&&◌, not}
use mathlib.Core.List.{List, [], ◌∷◌}
use mathlib.Core.Path.{◌≡◌, refl, ap, sym, ◌∙◌}
use native.Mathlib.Omega.{arith}
use lib.Dec.{eqb}
use lib.ListN.{get_or, take, drop}
use lib.Seq.{get_or-drop}
use Rattle.std.specs.List.{list_all}
use Rattle.std.specs.Cmp.Lexicographic.{pointwise}
use Rattle.message_rules.specs.Answer.{Check, passed, failed, require}
use Rattle.can_rules.specs.Can.{type_legal, zeros, frame_checks, later_fits, later_checks, same_bytes}
use Rattle.can_rules.proofs.Series.{later-dlc}

-- The tests of all bytes, and of two identifiers, as the library has them.
pub zeros_all : (s : List ℕ) → list_all (λ b. eqb b 0) s ≡ zeros s
unfolding zeros
zeros_all [] = refl
zeros_all (b ∷ s) = ap (λ (t : Bool). eqb b 0 && t) (zeros_all s)

same_pointwise : (r s : List ℕ) → pointwise eqb r s ≡ same_bytes r s
unfolding same_bytes
same_pointwise [] [] = refl
same_pointwise [] (b ∷ s) = refl
same_pointwise (a ∷ r) [] = refl
same_pointwise (a ∷ r) (b ∷ s) = ap (λ (t : Bool). eqb a b && t) (same_pointwise r s)

pub differ_told : (r s : List ℕ) (differ : Bool) → differ ≡ not (pointwise eqb r s) → same_bytes r s ≡ not differ
differ_told r s differ e = rw (← same_pointwise r s, e) (by (pointwise eqb r s))
  where
    by : (t : Bool) → t ≡ not (not t)
    by true = refl
    by false = refl

-- What follows a frame's checks is looked at where they pass.
module _ (f : List ℕ) (fits : Bool) (after : Check) where
  pub checks_passed : frame_checks f fits passed ≡ passed → frame_checks f fits after ≡ after
  unfolding require
  checks_passed e = by (type_legal (get_or f 3 0)) fits (zeros (drop (get_or f 4 0) (drop 5 f))) e
    where
      by : (t u v : Bool) → require t 2 (require u 6 (require v 7 passed)) ≡ passed → require t 2 (require u 6 (require v 7 after)) ≡ after
      by true true true e = refl
      by true true false e = cc
      by true false v e = cc
      by false u v e = cc

  pub checks_failed : (n : ℕ) → frame_checks f fits passed ≡ failed n → frame_checks f fits after ≡ failed n
  unfolding require
  checks_failed n e = by (type_legal (get_or f 3 0)) fits (zeros (drop (get_or f 4 0) (drop 5 f))) e
    where
      by : (t u v : Bool) → require t 2 (require u 6 (require v 7 passed)) ≡ failed n → require t 2 (require u 6 (require v 7 after)) ≡ failed n
      by true true true e = cc
      by true true false e = e
      by true false v e = e
      by false u v e = e

-- The checks of a later frame, by what those of a frame at any place came to: a number decides, and else its identifier and its count do.
module _ (i : List ℕ) (n : ℕ) (f : List ℕ) (fits : Bool) (says : fits ≡ later_fits n (get_or f 4 0)) where
  pub later_failed : (k : ℕ) → frame_checks f fits passed ≡ failed k → later_checks i n f ≡ failed k
  unfolding later_checks
  later_failed k e = rw (← says) (checks_failed f fits _ k e)

  pub later_rest : fits ≡ true → frame_checks f fits passed ≡ passed → later_checks i n f ≡ require (same_bytes (take 4 f) i && eqb (get_or f (4 + get_or f 4 0) 0) n) 10 passed
  unfolding later_checks
  later_rest h e =
      let one : 5 + (get_or f 4 0 - 1) ≡ 4 + get_or f 4 0 = omega (arith, later-dlc n (get_or f 4 0) (sym says ∙ h)) in
      rw (← says) (checks_passed f fits _ e ∙ rw (get_or-drop 5 f (get_or f 4 0 - 1) 0, one))
