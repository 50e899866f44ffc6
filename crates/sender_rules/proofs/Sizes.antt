-- The sizes that a sender takes: carried by arithmetic from the two ends of them.
use Prim.Native.Nat.{ℕ, ◌≤◌}
use mathlib.Core.Bool.{true}
use mathlib.Core.Path.{◌≡◌}
use native.Mathlib.Omega.{arith}
use borrow.Author.Tests.{leb-true}
use lib.Dec.{leb}
use Rattle.message_rules.proofs.Checks.{both_true}
use Rattle.file_rules.specs.File.{size_legal, frame_count}

-- A legal file has a frame at least, and its frames have numbers of two bytes.
pub count-legal : (n : ℕ) → size_legal n ≡ true → (1 ≤ frame_count n) × (frame_count n ≤ 65535) × (n ≤ 16776960)
unfolding size_legal frame_count
count-legal n h =
    let g = both_true (leb 1 n) (leb n 16776960) h in
    let low = leb-true 1 n g.0 in
    let high = leb-true n 16776960 g.1 in
    (omega arith, omega arith, high)
