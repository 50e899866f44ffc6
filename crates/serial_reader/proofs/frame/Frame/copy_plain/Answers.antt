-- Carried by the steps of a scan: before a turn the rest of the body, stored after the bytes copied, makes the output whole.
use Prim.Native.Nat.{◌+◌}
use mathlib.Core.Path.{◌≡◌, refl}
use native.Mathlib.Nat.{add-zero}
use native.Mathlib.Omega.{arith}
use lib.ListN.{length-set}
use Rattle.serial_reader.proofs.Undoubling.{store_byte, ended-inside, ended-next, plain_byte}
use Rattle.serial_reader.proofs.frame.Frame.copy_plain.Goals as goal

pub loop-bytes-init : goal.loop-bytes-init
loop-bytes-init c =
    let a = c.args in
    let f = c.requires in
    rw (add-zero a.from, add-zero a.to) (ended-inside _ _ f.ended, refl, record { fits = f; same = refl })

pub returns-then-byte-esc : goal.returns-then-byte-esc
returns-then-byte-esc c =
    let s = c.loop-bytes.invariant.2 in
    let e = rw c.escape-esc.ensures at c.if-byte-esc.true in
    record { escape = e; next = ended-next _ _ s.fits.ended e; left = s }

pub bounds-out-to : goal.bounds-out-to
bounds-out-to c =
    let l = c.loop-bytes in
    let a = c.args in
    (store_byte _ _ l.out (a.from + l.n) 1 (a.to + l.n) l.invariant.2 (plain_byte _ _ l.invariant.0 (rw c.escape-esc.ensures at c.if-byte-esc.false))).0

pub loop-bytes-preserved : goal.loop-bytes-preserved
loop-bytes-preserved c =
    let l = c.loop-bytes in
    let a = c.args in
    let h = store_byte _ _ l.out (a.from + l.n) 1 (a.to + l.n) l.invariant.2 (plain_byte _ _ l.invariant.0 (rw c.escape-esc.ensures at c.if-byte-esc.false)) in
    let at : a.from + (l.n + 1) ≡ a.from + l.n + 1 = omega arith in
    let to : a.to + (l.n + 1) ≡ a.to + l.n + 1 = omega arith in
    rw (at, to) (ended-inside _ _ h.1.fits.ended, rw length-set l.invariant.1, h.1)
