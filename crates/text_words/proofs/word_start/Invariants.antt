-- The word that is asked for is, from here on, the one after as many spaces as are left.
use Rattle.std.proofs.Common.{◌≡◌, ◌≤◌, [], length, get_or, drop}
use Rattle.text_rules.specs.Words.{words}
use Rattle.text_words.proofs.word_start.Given as goal

abbrev pub invariant-loop-i : goal.invariant-loop-i
invariant-loop-i l = (l.i ≤ length l.line) × (get_or (words (drop l.i l.line)) l.left [] ≡ get_or (words l.line) l.k [])
