-- A frame as a part of the file: carried by the length of what `drop` leaves.
use Prim.Native.Nat.{ℕ, ◌+◌, ◌*◌, ◌-◌, ◌≤◌, ◌<◌, min}
use mathlib.Core.List.{List, []}
use mathlib.Core.Path.{◌≡◌}
use native.Mathlib.Omega.{arith}
use lib.ListN.{length, take, drop, length-take, length-drop, drop_of_length-le}
use lib.Seq.{take_all}
use Rattle.file_rules.specs.File.{file_frame}

module _ (file : List ℕ) (i : ℕ) where
  pub frame_length_lem : length (file_frame file i) ≡ min 256 (length file - 256 * i)
  unfolding file_frame
  frame_length_lem = simp (length-take, length-drop)

  pub frame-most : length (file_frame file i) ≤ 256
  frame-most = rw frame_length_lem (omega arith)

  pub past_end : length file ≤ 256 * i → [] ≡ file_frame file i
  unfolding file_frame
  past_end h = rw (drop_of_length-le file h)

  pub last_frame : length file < 256 * i + 256 → take (length file - 256 * i) (drop (256 * i) file) ≡ file_frame file i
  unfolding file_frame
  last_frame h =
      rw (take_all (length file - 256 * i) (drop (256 * i) file) (rw length-drop (omega arith)), take_all 256 (drop (256 * i) file) (rw length-drop (omega arith)))

  pub whole-frame : take (256 * i + 256 - 256 * i) (drop (256 * i) file) ≡ file_frame file i
  unfolding file_frame
  whole-frame = let same : 256 * i + 256 - 256 * i ≡ 256 = omega arith in rw same
