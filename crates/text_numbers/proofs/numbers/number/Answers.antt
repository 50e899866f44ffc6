-- By the laws of reading a number, digit by digit.
use Rattle.std.proofs.Common.{◌+◌, ◌*◌, get_or, sym, ◌∙◌, arith}
use Rattle.text_rules.specs.Digits.{digit_value}
use Rattle.text_rules.specs.Numbers.{number_of}
use Rattle.text_rules.proofs.NumberLaws.{number_digit, number-other, number-beyond, number-end}
use Rattle.text_numbers.proofs.numbers.number.Goals as goal

pub returns-then-is_empty : goal.returns-then-is_empty
unfolding number_of
returns-then-is_empty c = rw (sym c.is_empty.ensures ∙ c.if-is_empty.true)

pub loop-byte-init : goal.loop-byte-init
unfolding number_of
loop-byte-init c = (omega arith, rw (sym c.is_empty.ensures ∙ c.if-is_empty.false))

pub returns-in_err-digit : goal.returns-in_err-digit
returns-in_err-digit c =
    let a = c.args in
    let l = c.loop-byte in
    rw c.from_residual.ensures (sym (number-other a.most l.value a.word.now l.byte-index (omega arith) (omega (arith, c.in_err-digit.ensures))) ∙ l.invariant.1)

pub returns-then-digit-gt9 : goal.returns-then-digit-gt9
returns-then-digit-gt9 c =
    let a = c.args in
    let l = c.loop-byte in
    let digit = c.in_ok-digit.ensures in
    sym (number-other a.most l.value a.word.now l.byte-index (omega arith) (omega arith)) ∙ l.invariant.1

pub returns-then-value-from : goal.returns-then-value-from
returns-then-value-from c =
    let a = c.args in
    let l = c.loop-byte in
    let w = a.word.now in
    let i = l.byte-index in
    let digit = c.in_ok-digit.ensures in
    let beyond = number-beyond a.most (l.value * 10 + digit_value (get_or w i 0)) w (i + 1) (omega arith) in
    sym beyond ∙ (sym (number_digit a.most l.value w i (omega arith) (omega arith)) ∙ l.invariant.1)

pub loop-byte-preserved : goal.loop-byte-preserved
loop-byte-preserved c =
    let a = c.args in
    let l = c.loop-byte in
    let digit = c.in_ok-digit.ensures in
    let turn = number_digit a.most l.value a.word.now l.byte-index (omega arith) (omega arith) in
    (omega arith, rw (c.from.ensures, digit.0) (sym turn ∙ l.invariant.1))

pub returns : goal.returns
returns c =
    let a = c.args in
    let l = c.loop-byte in
    sym (number-end a.most l.value a.word.now l.byte-index (omega arith) (omega arith)) ∙ l.invariant.1
