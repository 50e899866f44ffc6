-- By the laws of splitting: word k from here is, past a space, the one before it, and past any other byte the same.
use Rattle.std.proofs.Common.{◌≡◌, arith, sym, ◌∙◌, length}
use Rattle.text_rules.specs.Words.{words}
use Rattle.text_words.proofs.WordLaws.{past_space, past_other, at-end}
use Rattle.text_words.proofs.word_start.Goals as goal
use Rattle.text_words.proofs.word_start.Goals.{then-byte-eq32, else-byte-eq32}

pub returns-then-left-eq0-clause-line_value : goal.returns-then-left-eq0-clause-line_value
unfolding words
returns-then-left-eq0-clause-line_value c =
    let here : c.loop-i.left ≡ 0 = omega arith in
    rw here at c.loop-i.invariant.1

pub loop-i-preserved : goal.loop-i-preserved
loop-i-preserved c =
    let line = c.args.line.now in
    let l = c.loop-i in (
      omega arith,
      elim c.if-byte-eq32.branch [
        | then-byte-eq32 w ↦ rw w.left-is (sym (past_space line l.i (omega arith) l.left (omega arith) w.if-byte-eq32.true) ∙ l.invariant.1)
        | else-byte-eq32 w ↦ rw w.left-is (sym (past_other line l.i (omega arith) l.left (omega arith) w.if-byte-eq32.false) ∙ l.invariant.1)
      ],
    )

pub returns-clause-line_value : goal.returns-clause-line_value
returns-clause-line_value c =
    let all : length c.args.line.now ≡ c.loop-i.i = omega arith in
    rw all (sym (at-end _ c.loop-i.i c.loop-i.left c.loop-i-test.false) ∙ c.loop-i.invariant.1)
