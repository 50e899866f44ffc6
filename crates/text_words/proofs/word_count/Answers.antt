-- By the laws of splitting, at a space and at any other byte.
use Rattle.std.proofs.Common.{List, ℕ, length, ap, arith, drop_of_length-le, rules}
use Rattle.text_rules.specs.Words.{later_words, words}
use Rattle.text_words.proofs.WordLaws.{later-space, later-other}
use Rattle.text_words.proofs.word_count.Goals as goal
use Rattle.text_words.proofs.word_count.Goals.{then-byte-eq32, else-byte-eq32}

pub loop-byte-init : goal.loop-byte-init
unfolding words
loop-byte-init c = search rules

pub loop-byte-preserved : goal.loop-byte-preserved
unfolding words
loop-byte-preserved c =
    let line = c.args.line.now in
    let i = c.loop-byte.byte-index in
    elim c.if-byte-eq32.branch [
      | then-byte-eq32 w ↦ omega (arith, ap length (later-space line i (omega arith) w.if-byte-eq32.true))
      | else-byte-eq32 w ↦ omega (arith, ap length (later-other line i (omega arith) w.if-byte-eq32.false))
    ]

pub returns : goal.returns
unfolding later_words
returns c = omega (arith, ap (λ (s : List ℕ). length (later_words s)) (drop_of_length-le c.args.line.now c.loop-byte-test.false))
