-- What `put` leaves where a part of an output is lent to it. Carried by the laws of parts: what comes back stands after the bytes before it.
use Prim.Native.Nat.{ℕ, ◌+◌, ◌-◌, ◌≤◌}
use mathlib.Core.List.{List, ◌++◌, append_assoc}
use mathlib.Core.Path.{◌≡◌, ◌∙◌}
use native.Mathlib.Omega.{arith}
use borrow.Rule.Slice.PartMut.{put_mid}
use lib.ListN.{length, take, drop, length-drop}
use lib.Seq.{sets, sets-eq, drop-drop}
use Rattle.message_rules.specs.Answer.{written, within, output_after}
use Rattle.message_rules.proofs.Answers.{long_enough}
use Rattle.message_rules.proofs.Parts.{part-from, put-from}

-- Bytes put into `&mut out[at..]`, which has room for them, are stores from `at` on.
pub put-part : (d out last : List ℕ) (at : ℕ) → at + length d ≤ length out
    → (let part : List ℕ = take (length out - at) (drop at out) in last ≡ output_after (within part (written d)) part)
    → put_mid at (length out - at) out last ≡ sets out at d
unfolding output_after
put-part d out last at room e =
    let fits : length d ≤ length (drop at out) = rw length-drop (omega arith) in
    let all : last ≡ d ++ drop (length d) (drop at out) = (rw part-from at e) ∙ rw (long_enough (drop at out) (tt {0}) d fits) in
    put-from at out last (omega arith) ∙ rw (all, sets-eq d out at room, drop-drop, append_assoc)
