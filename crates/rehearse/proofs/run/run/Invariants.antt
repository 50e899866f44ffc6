-- The rounds made so far: each turn makes one more.
use Rattle.rehearse.specs.Rounds.{Leaves}
use Rattle.rehearse.proofs.Rounds.{after}
use Rattle.rehearse.proofs.run.run.Given as goal

abbrev pub invariant-loop-count : goal.invariant-loop-count
invariant-loop-count g l = Leaves l.file l.initial.device l.initial.store l.initial.sender l.course (after l.device l.sender l.count) l.store
