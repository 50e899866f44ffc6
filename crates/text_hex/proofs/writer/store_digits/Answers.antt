-- By the laws of storing: one turn stores the two digits of a byte.
use Rattle.std.proofs.Common.{sym, ◌∙◌, arith}
use Rattle.text_rules.proofs.Storing.{print_turn, print_end}
use Rattle.text_hex.proofs.writer.store_digits.Goals as goal

pub loop-i-preserved : goal.loop-i-preserved
loop-i-preserved c =
    let l = c.loop-i in
    let turn = print_turn c.args.bytes.now l.out l.i (omega arith) in
    rw (c.digit_of.ensures, c.digit_of-in-loop-i.ensures) (sym turn ∙ l.invariant)

pub returns : goal.returns
returns c = sym (print_end c.args.bytes.now c.loop-i.out c.loop-i.i c.loop-i-test.false) ∙ c.loop-i.invariant
