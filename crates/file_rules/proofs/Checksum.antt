-- The checksum is below 65,536, and goes on from byte to byte: carried by the register's steps.
use Prim.Native.Nat.{ℕ, ◌+◌, ◌<◌}
use mathlib.Core.List.{List, [], ◌∷◌, ◌++◌}
use mathlib.Core.Path.{◌≡◌, refl}
use native.Mathlib.Omega.{arith}
use native.Mathlib.Numerals.{add-one}
use lib.ListN.{length, get_or, drop}
use lib.Seq.{drop-cons}
use Rattle.file_rules.specs.Checksum.{all_ones, byte_step, byte_steps, checksum}
use Rattle.file_rules.proofs.Linear.{bytes_below}

pub checksum_below : (s : List ℕ) → checksum s < 65536
unfolding checksum
checksum_below s = bytes_below all_ones s (omega arith)

pub bytes-append : (register : ℕ) (s t : List ℕ) → byte_steps register (s ++ t) ≡ byte_steps (byte_steps register s) t
unfolding byte_steps
bytes-append register [] t = refl
bytes-append register (b ∷ s) t = bytes-append (byte_step register b) s t

-- One more byte of what is left.
pub bytes_turn : (s : List ℕ) (i register : ℕ) → i < length s → byte_steps (byte_step register (get_or s i 0)) (drop (i + 1) s) ≡ byte_steps register (drop i s)
unfolding byte_steps
bytes_turn s i register h = rw (drop-cons s i 0 h, add-one)
