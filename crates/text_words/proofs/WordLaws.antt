-- The laws of splitting a line: what the byte at place i makes of the words from there on. Carried by the test of that byte, at which the
-- definitions compute.
use Prim.Native.Nat.{ℕ, zero, suc, ◌+◌, ◌-◌, ◌≤◌, ◌<◌}
use mathlib.Core.Path.{◌≡◌, refl, ap}
use mathlib.Core.Bool.{Bool, true, false, cond}
use mathlib.Core.List.{List, [], ◌∷◌}
use native.Mathlib.Numerals.{add-one}
use native.Mathlib.Omega.{arith}
use borrow.Author.Tests.{eq-eqb, ne_eqb}
use lib.Dec.{eqb}
use lib.ListN.{length, get_or, take, drop, drop_of_length-le, length-drop}
use lib.Seq.{drop-cons, take_all}
use Rattle.text_rules.specs.Words.{first_word, later_words, words}

module _ (s : List ℕ) (i : ℕ) (h : i < length s) where
  pub first-space : get_or s i 0 ≡ 32 → first_word (drop i s) ≡ []
  unfolding first_word
  first-space e = rw (drop-cons s i 0, eq-eqb (get_or s i 0) 32 e)

  pub first-other : (get_or s i 0 ≡ 32 → ⊥) → first_word (drop i s) ≡ get_or s i 0 ∷ first_word (drop (i + 1) s)
  unfolding first_word
  first-other n = rw (add-one, drop-cons s i 0, ne_eqb (get_or s i 0) 32 n)

  pub later-space : get_or s i 0 ≡ 32 → later_words (drop i s) ≡ words (drop (i + 1) s)
  unfolding later_words words
  later-space e = rw (add-one, drop-cons s i 0, eq-eqb (get_or s i 0) 32 e)

  pub later-other : (get_or s i 0 ≡ 32 → ⊥) → later_words (drop i s) ≡ later_words (drop (i + 1) s)
  unfolding later_words
  later-other n = rw (add-one, drop-cons s i 0, ne_eqb (get_or s i 0) 32 n)

  -- Word k from here, past a space and past any other byte.
  pub past_space : (k : ℕ) → 0 < k → get_or s i 0 ≡ 32 → get_or (words (drop i s)) k [] ≡ get_or (words (drop (i + 1) s)) (k - 1) []
  unfolding words
  past_space zero p e = absurd (omega arith)
  past_space (suc k) p e = let n : k ≡ suc k - 1 = omega arith in rw (later-space e, ← n)

  pub past_other : (k : ℕ) → 0 < k → (get_or s i 0 ≡ 32 → ⊥) → get_or (words (drop i s)) k [] ≡ get_or (words (drop (i + 1) s)) k []
  unfolding words
  past_other zero p n = absurd (omega arith)
  past_other (suc k) p n = rw (later-other n)

-- At the end there is one empty word left.
pub at-end : (s : List ℕ) (i k : ℕ) → length s ≤ i → get_or (words (drop i s)) k [] ≡ first_word (drop i s)
unfolding words first_word later_words
at-end s i zero h = refl
at-end s i (suc k) h = rw (drop_of_length-le s h)

-- The first word is as much as its length takes.
take-first : (s : List ℕ) → take (length (first_word s)) s ≡ first_word s
unfolding first_word
take-first [] = refl
take-first (b ∷ s) = by (eqb b 32) (take-first s)
  where
    by : (t : Bool) → take (length (first_word s)) s ≡ first_word s → take (length (cond t [] (b ∷ first_word s))) (b ∷ s) ≡ cond t [] (b ∷ first_word s)
    by true e = refl
    by false e = ap (◌∷◌ b) e

pub first_part : (s : List ℕ) (n : ℕ) → n ≡ length (first_word s) → take n s ≡ first_word s
first_part s n e = rw e (take-first s)

-- What is left of a line from place i on, as a part of it.
pub rest : (s : List ℕ) (i : ℕ) → take (length s - i) (drop i s) ≡ drop i s
rest s i = take_all (length s - i) (drop i s) (omega (arith, length-drop i s))
