-- By the laws of splitting, at a space and at any other byte.
use Rattle.std.proofs.Common.{List, ℕ, length, ap, arith, drop_of_length-le}
use Rattle.text_rules.specs.Words.{first_word}
use Rattle.text_words.proofs.WordLaws.{first-space, first-other}
use Rattle.text_words.proofs.first_length.Goals as goal

pub returns-then-byte-eq32 : goal.returns-then-byte-eq32
returns-then-byte-eq32 c = omega (arith, ap length (first-space c.args.line.now c.loop-i.i (omega arith) c.if-byte-eq32.true))

pub loop-i-preserved : goal.loop-i-preserved
loop-i-preserved c = omega (arith, ap length (first-other c.args.line.now c.loop-i.i (omega arith) c.if-byte-eq32.false))

pub returns : goal.returns
unfolding first_word
returns c = omega (arith, ap (λ (s : List ℕ). length (first_word s)) (drop_of_length-le c.args.line.now c.loop-i-test.false))
