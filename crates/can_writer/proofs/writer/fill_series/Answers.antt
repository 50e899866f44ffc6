-- Carried by the laws of one frame: what is stored, and the frames from there on, are the series.
use mathlib.Core.Path.{◌≡◌, ◌∙◌}
use Prim.Native.Nat.{◌+◌, ◌*◌, ◌-◌, ◌/◌, ◌≤◌}
use native.Mathlib.Omega.{arith}
use lib.ListN.{length, length-drop}
use Rattle.can_rules.specs.Can.{frames_after}
use Rattle.message_rules.proofs.Parts.{part-from, put-from}
use Rattle.can_writer.proofs.Writing.{going_more, going_done}
use Rattle.can_writer.proofs.writer.fill_series.Goals as goal

pub slice_bounds-copy_from_slice-end : goal.slice_bounds-copy_from_slice-end
unfolding frames_after
slice_bounds-copy_from_slice-end c = omega (arith, c.requires.1, c.loop-k.auto.out)

pub slice_bounds-copy_from_slice-count-2 : goal.slice_bounds-copy_from_slice-count-2
unfolding frames_after
slice_bounds-copy_from_slice-count-2 c = omega (arith, c.requires.1, c.loop-k.auto.out)

pub slice_bounds-copy_from_slice-start-2 : goal.slice_bounds-copy_from_slice-start-2
slice_bounds-copy_from_slice-start-2 c = slice_bounds-copy_from_slice-count-2 c

pub copy_from_slice-requires-2 : goal.copy_from_slice-requires-2
unfolding frames_after
copy_from_slice-requires-2 c = rw (part-from, length-drop) (omega (arith, c.requires.1, c.loop-k.auto.out))

pub loop-k-preserved : goal.loop-k-preserved
unfolding frames_after
loop-k-preserved c =
    let l = c.loop-k in
    let size : 13 * (l.k + 1) - 13 * l.k ≡ 13 = omega arith in
    let seven : 7 * (l.k + 1) - 7 * l.k ≡ 7 = omega arith in
    rw (size, c.copy_from_slice.ensures.after)
    (going_more _ c.told-identifier c.args.payload.now l.out l.k (l.auto.out ∙ c.requires.1) c.loop-k-test.true l.invariant _ (rw seven at c.counted_frame-counted.ensures))

pub returns : goal.returns
unfolding frames_after
returns c =
    let l = c.loop-k in
    let all : l.k ≡ length c.args.payload.now / 7 = omega arith in
    let room : 13 * (length c.args.payload.now / 7) ≤ length l.out = omega (arith, c.requires.1, l.auto.out) in
    put-from _ l.out _ room ∙ rw c.copy_from_slice-2.ensures.after
    (rw all at (going_done _ c.told-identifier c.args.payload.now l.out l.k (l.auto.out ∙ c.requires.1) all l.invariant _ (rw (part-from, ← all) at c.counted_frame-last.ensures)))
