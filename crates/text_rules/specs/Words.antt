-- How a line splits into words. Quotes are of docs/REPLAY.md, "A script".
use Rattle.std.specs.Prelude.{ℕ, cond, List, [], ◌∷◌, eqb}

-- "Words are separated by exactly one space": the bytes in front of the first space, which is 0x20.
unfoldable pub first_word : List ℕ → List ℕ
first_word [] = []
first_word (b ∷ s) = cond (eqb b 32) [] (b ∷ first_word s)

-- The words after the first space. Every space ends a word, so two in a row have an empty word between them.
unfoldable pub later_words : List ℕ → List (List ℕ)
later_words [] = []
later_words (b ∷ s) = cond (eqb b 32) (first_word s ∷ later_words s) (later_words s)

-- All words of a line, always one at least. "There is none before the first word or after the last": a space there makes
-- an empty word, which no call has.
unfoldable pub words : List ℕ → List (List ℕ)
words s = first_word s ∷ later_words s
