-- Carried by the laws of the two loops, and by the bound on a listing's length, for which the places in the text fit.
use Rattle.std.specs.Prelude.{Option, None, Some}
use Rattle.std.specs.Option.{is_some}
use mathlib.Core.Bool.{true, false}
use Prim.Native.Nat.{ℕ, ◌+◌, ◌≤◌}
use mathlib.Core.List.{List}
use mathlib.Core.Path.{◌≡◌, refl, ap, sym, ◌∙◌}
use native.Mathlib.Omega.{arith}
use lib.ListN.{length, get_or, drop}
use lib.Seq.{length-sets}
use Rattle.serial_rules.specs.Frames.{start_row}
use Rattle.serial_rules.specs.Stuffing.{frame_scan}
use Rattle.serial_rules.specs.declared.SerialLink.TheVariants.{Uart}
use Rattle.serial_rules.specs.declared.StartRow.{StartRow}
use Rattle.serial_scan.specs.Scan.{scan_from}
use Rattle.serial_scan.specs.declared.Scanned.{Scanned}
use Rattle.listing_rules.specs.Listing.{frame_length, frame_line}
use Rattle.listing_rules.proofs.Walking.{Begins, Hunted, hunted_byte, hunted_pair, end-inside, line-fits, walked-frame, scanned, walked_end}
use Rattle.listing_writer.proofs.walk.walk.Goals as goal

-- What stands where the hunt is left.
begins : (b : List ℕ) (from at : ℕ) → Hunted b from at → at + 2 ≤ length b → get_or b at 0 ≡ 0x1F
    → (found : Option StartRow) → found ≡ start_row Uart (get_or b (at + 1) 0) → is_some found ≡ true → Begins b from at
begins b from at h room esc None is some = absurd (let z : ◌≡◌ {A = ℕ} 0 1 = cc in omega arith)
begins b from at h room esc (Some row) is some = record { hunted = h; room = room; esc = esc; row = row; known = sym is }

no_row : (found : Option StartRow) → is_some found ≡ false → found ≡ None
no_row None none = refl
no_row (Some row) none = absurd (let z : ◌≡◌ {A = ℕ} 0 1 = cc in omega arith)

-- Where its frame ends.
ends : (b : List ℕ) (at : ℕ) (r : Scanned) → r ≡ scan_from b (at + 2)
    → (r.stop ≡ (frame_scan (drop at b)).stop) × (r.end ≡ at + frame_length (drop at b))
ends b at r e = scanned b at r.stop r.end (ap (λ (x : Scanned). x.stop) e) (ap (λ (x : Scanned). x.end) e)

pub loop-at-preserved-then-bytes-at-ne-ESC : goal.loop-at-preserved-then-bytes-at-ne-ESC
loop-at-preserved-then-bytes-at-ne-ESC c = hunted_byte c.args.bytes.now c.frames.at c.loop-at.at c.loop-at.invariant (omega arith) c.if-bytes-at-ne-ESC.true

pub loop-at-preserved : goal.loop-at-preserved
loop-at-preserved c =
    hunted_pair c.args.bytes.now c.frames.at c.loop-at.at c.loop-at.invariant (omega arith) c.if-bytes-at-ne-ESC.false (sym c.start_row.ensures ∙ no_row c.start_row.result (sym c.is_some.ensures ∙ c.if-is_some.false))

pub frame_line-requires : goal.frame_line-requires
frame_line-requires c =
    let b = c.args.bytes.now in
    let at = c.loop-at.at in
    let g = begins b c.frames.at at c.loop-at.invariant (omega arith) c.if-bytes-at-ne-ESC.false c.start_row.result c.start_row.ensures (sym c.is_some.ensures ∙ c.if-is_some.true) in
    let e = ends b at c.scan-scanned.result c.scan-scanned.ensures in
    record { stop_value = e.0; end_value = (e.1, rw e.1 (end-inside b _ _ g)) }

pub put_line-requires : goal.put_line-requires
unfolding frame_line
put_line-requires c =
    let b = c.args.bytes.now in
    let at = c.loop-at.at in
    let g = begins b c.frames.at at c.loop-at.invariant (omega arith) c.if-bytes-at-ne-ESC.false c.start_row.result c.start_row.ensures (sym c.is_some.ensures ∙ c.if-is_some.true) in
    record { room = rw c.frame_line.ensures (line-fits b _ _ g _ _ _ _ c.frames.invariant.0 (rw c.requires.start at c.put.ensures.at) c.requires.short) }

pub frames-preserved : goal.frames-preserved
unfolding frame_line
frames-preserved c =
    let b = c.args.bytes.now in
    let at = c.loop-at.at in
    let g = begins b c.frames.at at c.loop-at.invariant (omega arith) c.if-bytes-at-ne-ESC.false c.start_row.result c.start_row.ensures (sym c.is_some.ensures ∙ c.if-is_some.true) in
    let e = ends b at c.scan-scanned.result c.scan-scanned.ensures in
    let put = rw c.frame_line.ensures at c.put_line.ensures in
    (rw e.1 (walked-frame b _ _ g _ _ _ _ c.frames.invariant.0 _ _ (put.at, put.out) (rw (put.out, length-sets))), put.same ∙ c.frames.invariant.1)

pub returns : goal.returns
returns c =
    let head = rw c.requires.start at c.put.ensures in
    let w = walked_end c.args.bytes.now c.args.text.now.out.now _ _ _ _ c.frames.at c.loop-at.at c.requires.short (head.at, head.out) c.frames.invariant.0 c.loop-at.invariant c.if-bytes-at.true in
    record { at = omega (arith, w.0, c.requires.start); out = rw c.requires.start w.1; same = c.frames.invariant.1 ∙ c.put.ensures.same }
