-- The bytes passed, and the first word from here on, make the first word.
use Rattle.std.proofs.Common.{◌≡◌, ◌+◌, ◌≤◌, length, drop}
use Rattle.text_rules.specs.Words.{first_word}
use Rattle.text_words.proofs.first_length.Given as goal

abbrev pub invariant-loop-i : goal.invariant-loop-i
invariant-loop-i l = (l.i ≤ length l.line) × (length (first_word l.line) ≡ l.i + length (first_word (drop l.i l.line)))
