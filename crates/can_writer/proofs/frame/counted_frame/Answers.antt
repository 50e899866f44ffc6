-- Carried by the parts of a frame: the count stands after the data, and the DLC counts it.
use Rattle.can_writer.proofs.Writing.{counted-stored}
use Rattle.can_writer.proofs.frame.counted_frame.Goals as goal

pub returns : goal.returns
returns c = rw c.frame-counted.ensures (counted-stored c.args.identifier.now c.told-identifier c.args.part.now c.args.count c.requires)
