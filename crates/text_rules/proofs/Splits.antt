-- The words of a line are what the library's split at each space gives: by the line, byte by byte, and the test of each.
use Rattle.std.proofs.Common.{◌≡◌, refl, sym, List, [], ◌∷◌, ℕ, Bool, true, false, cond, eqb}
use Rattle.std.specs.List.{slice_split, onto_first}
use Rattle.text_rules.specs.Words.{first_word, later_words, words}

pub words-split : (s : List ℕ) → words s ≡ slice_split (λ b. eqb b 32) s
unfolding words first_word later_words
words-split [] = refl
words-split (b ∷ s) = rw (sym (words-split s)) (by (eqb b 32))
  where
    by : (t : Bool) → cond t [] (b ∷ first_word s) ∷ cond t (first_word s ∷ later_words s) (later_words s)
        ≡ cond t ([] ∷ (first_word s ∷ later_words s)) (onto_first b (first_word s ∷ later_words s))
    by true = refl
    by false = refl
