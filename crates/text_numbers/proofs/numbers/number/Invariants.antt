-- The answer from here on, after a value within the limit, is the word's.
use Rattle.std.proofs.Common.{◌≡◌, ◌≤◌, drop}
use Rattle.text_rules.specs.Numbers.{number_from, number_of}
use Rattle.text_numbers.proofs.numbers.number.Given as goal

abbrev pub invariant-loop-byte : goal.invariant-loop-byte
invariant-loop-byte l = (l.value ≤ l.most) × (number_from l.most l.value (drop l.byte-index l.word) ≡ number_of l.most l.word)
