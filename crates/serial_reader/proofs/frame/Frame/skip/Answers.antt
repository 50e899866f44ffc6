-- Carried by the steps of a scan: before a turn `at` stands as many encoded bytes after the start byte as there were turns.
use native.Mathlib.Omega.{arith}
use Rattle.serial_reader.proofs.Undoubling.{skip-inside, skip-plain, skip-doubled}
use Rattle.serial_reader.proofs.frame.Frame.skip.Goals as goal
use Rattle.serial_reader.proofs.frame.Frame.skip.Goals.{then-bytes-at, else-bytes-at}

pub bounds-bytes-at : goal.bounds-bytes-at
bounds-bytes-at c =
    let l = c.loop in
    skip-inside c.args.self.now.bytes.now 2 l.counter l.at l.invariant (omega arith)

pub overflow_add-at : goal.overflow_add-at
overflow_add-at c =
    let l = c.loop in
    let inside = skip-inside c.args.self.now.bytes.now 2 l.counter l.at l.invariant (omega arith) in
    elim c.if-bytes-at.branch [ then-bytes-at w ↦ omega (arith, w.at-is, inside) | else-bytes-at w ↦ omega (arith, w.at-is, inside) ]

pub loop-preserved : goal.loop-preserved
loop-preserved c =
    let l = c.loop in
    elim c.if-bytes-at.branch [
      | then-bytes-at w ↦ rw w.at-is (skip-doubled c.args.self.now.bytes.now 2 l.counter l.at l.invariant (omega arith) (rw c.escape-esc.ensures at w.if-bytes-at.true)).1
      | else-bytes-at w ↦ rw w.at-is (skip-plain c.args.self.now.bytes.now 2 l.counter l.at l.invariant (omega arith) (rw c.escape-esc.ensures at w.if-bytes-at.false))
    ]
