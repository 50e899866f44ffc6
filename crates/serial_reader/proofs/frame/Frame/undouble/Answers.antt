-- Carried by the steps of a scan: before a turn the rest of the body, stored from `to` on, makes the output whole.
use Prim.Native.Nat.{ℕ, ◌-◌, ◌≤◌}
use mathlib.Core.List.{List, ◌++◌}
use mathlib.Core.Path.{◌≡◌, refl, sym, ◌∙◌}
use native.Mathlib.Omega.{arith}
use borrow.Author.Rules.{rules}
use lib.ListN.{length, drop, length-drop, length-set}
use Rattle.message_rules.proofs.Stores.{sets-start}
use Rattle.serial_rules.specs.Stuffing.{frame_scan}
use Rattle.serial_reader.specs.Undouble.{Skipped, AtEscape, body_stored}
use Rattle.serial_reader.proofs.Undoubling.{store-doubled, store_tail}
use Rattle.serial_reader.proofs.frame.Frame.undouble.Goals as goal

-- What the output is once all is stored, from the place after n bytes of the body.
whole : (b out : List ℕ) (at n count : ℕ) → Skipped b 2 n at → count ≡ length (frame_scan b).body → count - n ≤ length out
    → body_stored b at out 0 ≡ drop n (frame_scan b).body ++ drop (count - n) out
whole b out at n count h size room =
    let body : List ℕ = (frame_scan b).body in
    rw (h.body, size) (rw length-drop at (sets-start (drop n body) out (rw length-drop (omega arith))))

-- The ESC that the plain bytes of a turn end at.
at-escape : {b part all out : List ℕ} {at to : ℕ} → AtEscape b part out at to → part ≡ all → AtEscape b all out at to
at-escape e h = record { escape = e.escape; next = e.next; left = record { fits = e.left.fits; same = e.left.same ∙ h } }

pub loop-at-init : goal.loop-at-init
loop-at-init c =
    let s = c.skip-at.ensures in
    let f = c.args.self.now in
    (refl, record { fits = record { ended = s.stop ∙ f.ended; room = rw (s.body, length-drop) (omega arith) }; same = refl })

pub returns-then-bytes-at : goal.returns-then-bytes-at
returns-then-bytes-at c =
    let a = c.args in
    store_tail _ _ _ _ _ (at-escape c.copy_plain-plain.ensures c.loop-at.invariant.1.same) (c.if-bytes-at.true ∙ c.tail-last.ensures)
    ∙ whole a.self.now.bytes.now a.out.now c.skip-at.result a.n a.self.now.count c.skip-at.ensures a.self.now.size c.requires.room

pub bounds-out-to : goal.bounds-out-to
bounds-out-to c =
    (store-doubled _ _ _ _ _ (at-escape c.copy_plain-plain.ensures c.loop-at.invariant.1.same) c.escape-esc.result c.escape-esc.ensures (λ q. c.if-bytes-at.false (q ∙ sym c.tail-last.ensures))).0

pub loop-at-preserved : goal.loop-at-preserved
loop-at-preserved c =
    let h = store-doubled _ _ _ _ _ (at-escape c.copy_plain-plain.ensures c.loop-at.invariant.1.same) c.escape-esc.result c.escape-esc.ensures (λ q. c.if-bytes-at.false (q ∙ sym c.tail-last.ensures)) in
    (rw length-set (search rules), h.1)
