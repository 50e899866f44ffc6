-- Carried by the law that an encoded byte stands for the first of its bytes, at the place i encoded bytes after.
use native.Mathlib.Omega.{arith}
use Rattle.serial_reader.proofs.Undoubling.{skip-inside, skip-byte}
use Rattle.serial_reader.proofs.frame.Frame.byte.Goals as goal

pub bounds-self-skip : goal.bounds-self-skip
bounds-self-skip c =
    let a = c.args in
    skip-inside a.self.now.bytes.now 2 a.i c.skip.result c.skip.ensures (omega arith)

pub returns : goal.returns
returns c =
    let a = c.args in
    skip-byte a.self.now.bytes.now 2 a.i c.skip.result c.skip.ensures (omega arith)
