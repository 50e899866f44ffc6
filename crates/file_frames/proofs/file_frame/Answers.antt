-- Carried by where the frame starts: past the end of the file, within its last bytes, or before them.
use Rattle.std.proofs.Common.{◌≡◌, ℕ, ◌+◌, ◌*◌, ◌-◌, ◌≤◌, ◌<◌, min, ◌⊎◌, List, length, take, drop, inl, inr, arith}
use Rattle.std.proofs.lemmas.Bool.{cases_lt}
use Rattle.file_rules.specs.File.{file_frame}
use Rattle.file_rules.proofs.Frames.{past_end, last_frame, whole-frame}
use Rattle.file_frames.proofs.file_frame.Goals as goal

module _ (file : List ℕ) (i start end : ℕ) (start-is : start ≡ min (256 * i) (length file)) (end-is : end ≡ min (start + 256) (length file)) where
  by : (length file < 256 * i) ⊎ (256 * i ≤ length file) → (length file < start + 256) ⊎ (start + 256 ≤ length file) → take (end - start) (drop start file) ≡ file_frame file i
  by (inl h) g = let none : end - start ≡ 0 = omega arith in rw none (past_end file i (omega arith))
  by (inr h) (inl g) =
      let s : start ≡ 256 * i = omega arith in
      let e : end ≡ length file = omega arith in
      rw (e, s) (last_frame file i (omega arith))
  by (inr h) (inr g) =
      let s : start ≡ 256 * i = omega arith in
      let e : end ≡ 256 * i + 256 = omega arith in
      rw (e, s) (whole-frame file i)

pub returns : goal.returns
returns c =
    let file = c.args.file.now in
    let i = c.args.frame in
    by file i c.min-start.result c.min-end.result c.min-start.ensures c.min-end.ensures (cases_lt _ _) (cases_lt _ _)
