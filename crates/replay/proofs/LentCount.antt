-- The laws of a list of which a beginning is lent. Carried by the laws of `take` and `drop`.
use Prim.Native.Nat.{ℕ, ◌≤◌}
use mathlib.Core.Bool.{Bool, true, false, cond}
use mathlib.Core.List.{List, ◌++◌, append_assoc}
use mathlib.Core.Path.{◌≡◌, refl}
use native.Mathlib.Omega.{arith}
use borrow.Author.Tests.{leb-true, ltb-true}
use lib.Dec.{leb, ltb}
use lib.ListN.{length, take, drop, take-append-drop}
use lib.Seq.{drop-append-le, length-take-le}
use Rattle.message_rules.specs.Answer.{Answer, refused, given}
use Rattle.can_rules.specs.declared.CanFrame.{CanFrame}
use Rattle.can_rules.specs.Records.{fitting, filled}
use Rattle.replay.specs.LentCount.{lent_count}

-- A list of which the first n are lent, and the others stay after them.
pub filled-part : (n : ℕ) (x : Answer Unit (List CanFrame)) (fs : List CanFrame) → n ≤ length fs → filled (fitting n x) (take n fs) ++ drop n fs ≡ filled (fitting n x) fs
unfolding filled fitting
filled-part n (refused k) fs h = take-append-drop n fs
filled-part n (given t r) fs h = by (leb (length r) n) refl
  where
    by : (y : Bool) → leb (length r) n ≡ y → filled (cond y (given t r) (refused 8)) (take n fs) ++ drop n fs ≡ filled (cond y (given t r) (refused 8)) fs
    by true e =
        let fits : length r ≤ length (take n fs) = rw (length-take-le n fs h) (leb-true _ _ e) in
        rw (append_assoc, ← drop-append-le (length r) (take n fs) (drop n fs) fits, take-append-drop)
    by false e = take-append-drop n fs

pub lent-most : (c : ℕ) → lent_count c ≤ 64
lent-most c = by (ltb c 64) refl
  where
    by : (y : Bool) → ltb c 64 ≡ y → cond y c 64 ≤ 64
    by true e = omega (arith, ltb-true c 64 e)
    by false e = omega arith
