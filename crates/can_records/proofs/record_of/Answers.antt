-- Carried by the law of a record put together byte by byte.
use mathlib.Core.Path.{refl}
use native.Mathlib.Omega.{arith}
use Rattle.can_rules.proofs.Records.{record_is}
use Rattle.can_records.proofs.record_of.Goals as goal

pub returns : goal.returns
returns c = record_is c.args.frame.now _ (omega arith) c.u32_from_bytes.ensures refl (rw (c.copy_from_slice.ensures.after, c.requires))
