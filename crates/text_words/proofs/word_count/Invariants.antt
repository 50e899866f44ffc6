-- The words counted, and those after the next space, are all.
use Rattle.std.proofs.Common.{◌≡◌, ◌+◌, ◌≤◌, length, drop}
use Rattle.text_rules.specs.Words.{later_words, words}
use Rattle.text_words.proofs.word_count.Given as goal

abbrev pub invariant-loop-byte : goal.invariant-loop-byte
invariant-loop-byte l = (l.count ≤ l.byte-index + 1) × (l.count + length (later_words (drop l.byte-index l.line)) ≡ length (words l.line))
