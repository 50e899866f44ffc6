-- The file of an upload, in frames (document 01, "The sender and its rounds", and refusal 11).
use Rattle.std.specs.Prelude.{ℕ, ◌+◌, ◌*◌, ◌/◌, Bool, ◌&&◌, List, leb, take, drop}

-- 11: "file of 0 or more than 16,776,960 bytes".
unfoldable pub size_legal : ℕ → Bool
size_legal n = leb 1 n && leb n 16776960

-- "The file goes in frames of 256 bytes, the last shorter if need be: at most 65,535 frames."
unfoldable pub frame_count : ℕ → ℕ
frame_count n = (n + 255) / 256

unfoldable pub file_frame : List ℕ → ℕ → List ℕ
file_frame file i = take 256 (drop (256 * i) file)
