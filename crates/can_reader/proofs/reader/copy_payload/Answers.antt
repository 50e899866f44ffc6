-- Carried by the laws of one frame: what is stored, and the payload of the frames left, are the whole payload.
use mathlib.Core.Path.{ap, ◌∙◌}
use native.Mathlib.Nat.{add-sub_cancel_left}
use native.Mathlib.Omega.{arith}
use Rattle.std.specs.Slice.Iter.{chunks_exact_size}
use Rattle.can_reader.proofs.Reading.{frame_room, single_room, single-payload, store-first, store_turn, store-last}
use Rattle.can_reader.proofs.reader.copy_payload.Goals as goal

pub bounds-bytes-3 : goal.bounds-bytes-3
bounds-bytes-3 c = omega (arith, frame_room _ _ c.requires)

pub slice_bounds-copy_from_slice-end : goal.slice_bounds-copy_from_slice-end
slice_bounds-copy_from_slice-end c = single_room _ _ c.requires c.if-bytes-lt-FIRST_SERIES.true

pub returns-then-bytes-lt-FIRST_SERIES : goal.returns-then-bytes-lt-FIRST_SERIES
returns-then-bytes-lt-FIRST_SERIES c =
    rw (c.copy_from_slice.ensures.after, add-sub_cancel_left) (single-payload _ _ c.requires c.if-bytes-lt-FIRST_SERIES.true)

pub loop-frame-init : goal.loop-frame-init
loop-frame-init c =
    let chunks = c.chunks_exact-frame-items.ensures in
    let i = c.into_iter-frame-iterator.ensures.into_iter_gives in
    record { size = ap chunks_exact_size i ∙ chunks.size; storing = rw (i, chunks.rest) (store-first _ _ _ c.requires c.if-bytes-lt-FIRST_SERIES.false) }

pub overflow_sub-n : goal.overflow_sub-n
overflow_sub-n c =
    let l = c.loop-frame in
    let next = c.in-Some.ensures.steps in
    let t = store_turn _ _ _ _ _ _ _ l.auto.out next.1.0 (next.1.1 ∙ l.invariant.size) l.invariant.storing in
    t.low

pub slice_bounds-copy_from_slice-end-in-loop-frame : goal.slice_bounds-copy_from_slice-end-in-loop-frame
slice_bounds-copy_from_slice-end-in-loop-frame c =
    let l = c.loop-frame in
    let next = c.in-Some.ensures.steps in
    let t = store_turn _ _ _ _ _ _ _ l.auto.out next.1.0 (next.1.1 ∙ l.invariant.size) l.invariant.storing in
    omega (arith, t.inside, l.auto.out)

pub slice_bounds-copy_from_slice-end-in-loop-frame-2 : goal.slice_bounds-copy_from_slice-end-in-loop-frame-2
slice_bounds-copy_from_slice-end-in-loop-frame-2 c =
    let l = c.loop-frame in
    let next = c.in-Some.ensures.steps in
    let t = store_turn _ _ _ _ _ _ _ l.auto.out next.1.0 (next.1.1 ∙ l.invariant.size) l.invariant.storing in
    omega (arith, t.high, next.1.1, l.invariant.size)

pub loop-frame-preserved : goal.loop-frame-preserved
loop-frame-preserved c =
    let l = c.loop-frame in
    let next = c.in-Some.ensures.steps in
    let t = store_turn _ _ _ _ _ _ _ l.auto.out next.1.0 (next.1.1 ∙ l.invariant.size) l.invariant.storing in
    record { size = next.0 ∙ l.invariant.size; storing = rw (c.copy_from_slice-in-loop-frame.ensures.after, add-sub_cancel_left l.to _, add-sub_cancel_left) t.next }

pub returns : goal.returns
returns c =
    let l = c.loop-frame in
    store-last _ _ _ l.to (rw (← l.auto.out) at l.invariant.storing) (omega (arith, c.in-None.ensures.steps.1.0, l.invariant.size))
