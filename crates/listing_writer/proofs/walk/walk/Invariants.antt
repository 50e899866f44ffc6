-- Hunt and frames each come nearer the end of the bytes.
use Prim.Native.Nat.{◌-◌}
use mathlib.Core.Path.{◌≡◌}
use lib.ListN.{length}
use Rattle.listing_rules.proofs.Walking.{Hunted, Walked}
use Rattle.listing_writer.proofs.walk.walk.Given as goal

abbrev pub invariant-loop-at : goal.invariant-loop-at
invariant-loop-at l = Hunted l.bytes l.initial.at l.at

abbrev pub decreases-loop-at : goal.decreases-loop-at
decreases-loop-at l = length l.bytes - l.at

abbrev pub invariant-frames : goal.invariant-frames
invariant-frames l = Walked l.bytes l.initial.text.out.now l.initial.text.at l.initial.at l.text.out.now l.text.at l.at × (l.text.out.ghost_name ≡ l.initial.text.out.ghost_name)

abbrev pub decreases-frames : goal.decreases-frames
decreases-frames l = length l.bytes - l.at
