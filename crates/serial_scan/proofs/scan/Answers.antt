-- Carried by the laws of one turn: each arm of the loop is one of them.
use mathlib.Core.Path.{◌∙◌}
use native.Mathlib.Omega.{arith}
use lib.ListN.{length-drop}
use Rattle.message_rules.proofs.Parts.{part-from}
use Rattle.serial_scan.proofs.Turns.{turn_plain, turn_end, turn_cut, turn_ended, turn_broken, turn_doubled}
use Rattle.serial_scan.proofs.scan.Goals as goal
use Rattle.serial_scan.proofs.scan.Goals.{then-b-esc, else-b-esc+in-len2-up-2, else-loop-at-test, then-loop-at-test+in_default, then-loop-at-test+in_default-2}

pub returns-in-len2-up : goal.returns-in-len2-up
returns-in-len2-up c = c.found.ensures ∙ turn_ended c.loop-at.invariant c.if-b-esc.false c.in-len2-up.len_at_least c.if-next-last.true

pub returns-in-len2-up-3 : goal.returns-in-len2-up-3
returns-in-len2-up-3 c = c.found-in-len2-up-3.ensures ∙ turn_broken c.loop-at.invariant c.if-b-esc.false c.in-len2-up.len_at_least c.if-next-last.false c.if-next-esc.false

pub loop-at-preserved : goal.loop-at-preserved
loop-at-preserved c =
    elim c.if-b-esc.branch [
      | then-b-esc w ↦ rw w.at-is (turn_plain c.loop-at.invariant c.in-len1-up.len_at_least w.if-b-esc.true)
      | else-b-esc+in-len2-up-2 w ↦ rw w.at-is (turn_doubled c.loop-at.invariant w.if-b-esc.false w.in-len2-up.len_at_least w.if-next-esc.true)
    ]

pub returns : goal.returns
returns c =
    elim c.loop-at-test.branch [
      | else-loop-at-test w ↦ c.found-2.ensures ∙ turn_end c.loop-at.invariant w.loop-at-test.false
      | then-loop-at-test+in_default w ↦ c.found-2.ensures ∙ turn_end c.loop-at.invariant (omega (arith, length-drop c.loop-at.at c.args.bytes.now, rw part-from at w.in_default.len_below))
      | then-loop-at-test+in_default-2 w ↦ c.found-2.ensures ∙ turn_cut c.loop-at.invariant w.if-b-esc.false w.loop-at-test.true w.in_default.len_below
    ]
