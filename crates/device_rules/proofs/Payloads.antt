-- A payload of a known length is its bytes, one by one.
use Prim.Native.Nat.{ℕ}
use mathlib.Core.List.{List, [], ◌∷◌}
use mathlib.Core.Path.{◌≡◌, refl}
use native.Mathlib.Omega.{arith}
use lib.ListN.{length, get_or}

pub two_bytes : (p : List ℕ) → length p ≡ 2 → get_or p 0 0 ∷ get_or p 1 0 ∷ [] ≡ p
two_bytes [] h = absurd (omega arith)
two_bytes (a ∷ []) h = absurd (omega arith)
two_bytes (a ∷ b ∷ []) h = refl
two_bytes (a ∷ b ∷ x ∷ p) h = absurd (omega arith)
