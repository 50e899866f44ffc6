-- Carried by the parts of a frame, each stored over zeros.
use native.Mathlib.Nat.{add-sub_cancel_left}
use Rattle.can_writer.proofs.Writing.{frame_stored_lem}
use Rattle.can_writer.proofs.frame.frame.Goals as goal

pub returns : goal.returns
returns c = rw (c.copy_from_slice.ensures.after, c.copy_from_slice-2.ensures.after, add-sub_cancel_left) (frame_stored_lem c.args.identifier.now c.told-identifier c.args.used.now c.requires)
