-- Runs of stores, by induction over the bytes stored: one goes on where another stopped, and from the start on they put bytes over an output.
use Prim.Native.Nat.{ℕ, suc, ◌+◌, ◌≤◌, ◌<◌}
use mathlib.Core.List.{List, [], ◌∷◌, ◌++◌}
use mathlib.Core.Path.{◌≡◌, ◌∙◌}
use native.Mathlib.Nat.{add-zero, zero-add}
use native.Mathlib.Numerals.{add-one}
use native.Mathlib.Omega.{arith}
use lib.ListN.{length, get_or, set, drop, length-append, drop_of_length-le}
use lib.Seq.{sets, sets-eq, drop-cons}

pub sets-append : (l : List ℕ) (i : ℕ) (a b : List ℕ) → sets (sets l i a) (i + length a) b ≡ sets l i (a ++ b)
sets-append l i [] b = rw add-zero
sets-append l i (x ∷ a) b =
    let next : i + suc (length a) ≡ suc i + length a = omega arith in
    rw next (sets-append (set l i x) (suc i) a b)

pub sets-start : (b out : List ℕ) → length b ≤ length out → sets out 0 b ≡ b ++ drop (length b) out
sets-start b out h = sets-eq b out 0 (omega arith) ∙ rw zero-add

-- A turn of a loop that stores `s` byte by byte, and its end.
module _ (s out : List ℕ) (at i : ℕ) where
  pub store_turn : i < length s → sets (set out (at + i) (get_or s i 0)) (at + (i + 1)) (drop (i + 1) s) ≡ sets out (at + i) (drop i s)
  store_turn h =
      let next : at + suc i ≡ suc (at + i) = omega arith in
      rw (add-one, drop-cons s i 0, next)

  pub store-end : length s ≤ i → sets out (at + i) (drop i s) ≡ out
  store-end h = rw (drop_of_length-le s h)

-- What putting s at a place of `out` gives: the place after it, and the output then.
abbrev pub Put : List ℕ → ℕ → List ℕ → ℕ → List ℕ → Type 0
Put out at s next left = (next ≡ at + length s) × (left ≡ sets out at s)

pub put-more : (a b out mid left : List ℕ) (at m n : ℕ) → Put out at a m mid → Put mid m b n left → Put out at (a ++ b) n left
put-more a b out mid left at m n p q =
    rw (q.0, q.1, p.0, p.1, length-append) (omega arith, sets-append out at a b)
