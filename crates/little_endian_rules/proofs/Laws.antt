-- The laws of little-endian numbers, by induction on the width: each definition undoes the other.
use Prim.Native.Nat.{ℕ, zero, suc, ◌+◌, ◌*◌, ◌/◌, ◌%◌, ◌^◌, ◌<◌}
use mathlib.Core.List.{List, [], ◌∷◌}
use mathlib.Core.Path.{◌≡◌, refl, ap}
use native.Mathlib.Nat.{pow-suc}
use native.Mathlib.Omega.{arith}
use lib.ListN.{length}
use Rattle.little_endian_rules.specs.LittleEndian.{Bytes, from_bytes, to_bytes}

pub to-length : (w n : ℕ) → length (to_bytes w n) ≡ w
unfolding to_bytes
to-length zero n = refl
to-length (suc w) n = ap suc (to-length w (n / 256))

pub from_to_lem : (w n : ℕ) → n < 256 ^ w → from_bytes (to_bytes w n) ≡ n
unfolding to_bytes from_bytes
from_to_lem zero n h = omega arith
from_to_lem (suc w) n h =
    let less : n / 256 < 256 ^ w = omega (arith, pow-suc 256 w, h) in
    rw (from_to_lem w (n / 256) less) (omega arith)

pub to_bytes_lem : (w n : ℕ) → Bytes (to_bytes w n)
unfolding to_bytes
to_bytes_lem zero n = tt
to_bytes_lem (suc w) n = (omega arith, to_bytes_lem w (n / 256))

pub to-from : (bs : List ℕ) → Bytes bs → to_bytes (length bs) (from_bytes bs) ≡ bs
unfolding to_bytes from_bytes
to-from [] h = refl
to-from (b ∷ bs) h =
    let low : (b + 256 * from_bytes bs) % 256 ≡ b = omega (arith, h.0) in
    let high : (b + 256 * from_bytes bs) / 256 ≡ from_bytes bs = omega (arith, h.0) in
    rw (low, high, to-from bs h.1)
