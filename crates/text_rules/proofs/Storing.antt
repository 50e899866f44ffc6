-- The laws of storing a byte string: when an output takes it, and what one turn leaves to be stored. Carried by the definitions, which
-- compute once a byte or two digits stand in front.
use Rattle.std.specs.Prelude.{None, Some}
use Prim.Native.Nat.{ℕ, suc, ◌+◌, ◌*◌, ◌/◌, ◌%◌, ◌≤◌, ◌<◌}
use mathlib.Core.Path.{◌≡◌, refl}
use mathlib.Core.Bool.{true}
use mathlib.Core.List.{List, [], ◌∷◌}
use native.Mathlib.Numerals.{add-one}
use native.Mathlib.Omega.{arith}
use borrow.Author.Tests.{le-leb, lt-leb}
use lib.ListN.{length, get_or, set, drop, drop_of_length-le, length-drop}
use lib.Seq.{drop-cons, sets, sets-eq}
use Rattle.text_rules.specs.Digits.{digit_value, digit_of, all_digits}
use Rattle.text_rules.specs.Hex.{hex_digits, pairs, converted, if_room, hex_answer, hex_output}
use Rattle.text_rules.proofs.DigitLaws.{digit_at}

module _ (out b : List ℕ) where
  -- An output that is too short stays as it came.
  pub no_room : length out < length b → (None ≡ hex_answer (if_room out (converted b))) × (out ≡ hex_output (if_room out (converted b)) out)
  unfolding if_room hex_answer hex_output
  no_room h = rw (lt-leb (length b) (length out) h) (refl, refl)

  -- Else stores from its start on put the bytes over it.
  pub has_room_lem : length b ≤ length out → (Some (length b) ≡ hex_answer (if_room out (converted b))) × (sets out 0 b ≡ hex_output (if_room out (converted b)) out)
  unfolding if_room hex_answer hex_output
  has_room_lem h =
      let z : 0 + length b ≡ length b = omega arith in
      rw (le-leb (length b) (length out) h) (refl, rw z at (sets-eq b out 0 (omega arith)))

module _ (s out : List ℕ) (i : ℕ) where
  pub print_turn : i < length s → sets out (i * 2) (hex_digits (drop i s)) ≡ sets (set (set out (i * 2) (digit_of (get_or s i 0 / 16))) (i * 2 + 1) (digit_of (get_or s i 0 % 16))) ((i + 1) * 2) (hex_digits (drop (i + 1) s))
  unfolding hex_digits
  print_turn h =
      let e : (i + 1) * 2 ≡ suc (suc (i * 2)) = omega arith in
      rw (e, add-one (i * 2), add-one i, drop-cons s i 0 h)

  pub print_end : length s ≤ i → sets out (i * 2) (hex_digits (drop i s)) ≡ out
  unfolding hex_digits
  print_end h = rw (drop_of_length-le s h)

-- The two digits of a byte; one alone makes none.
pub pair_digits : (s : List ℕ) (i : ℕ) → all_digits 16 s ≡ true → i * 2 + 1 < length s → (digit_value (get_or s (i * 2) 0) < 16) × (digit_value (get_or s (i * 2 + 1) 0) < 16)
pair_digits s i d h = (digit_at 16 s (i * 2) (omega arith) d, digit_at 16 s (i * 2 + 1) h d)

pairs_short : (s : List ℕ) → length s ≤ 1 → pairs s ≡ []
unfolding pairs
pairs_short [] h = refl
pairs_short (a ∷ []) h = refl
pairs_short (a ∷ b ∷ s) h = absurd (omega arith)

module _ (s out : List ℕ) (i : ℕ) where
  pub read_turn : i * 2 + 1 < length s → sets out i (pairs (drop (i * 2) s)) ≡ sets (set out i (digit_value (get_or s (i * 2) 0) * 16 + digit_value (get_or s (i * 2 + 1) 0))) (i + 1) (pairs (drop ((i + 1) * 2) s))
  unfolding pairs
  read_turn h =
      let e : (i + 1) * 2 ≡ suc (suc (i * 2)) = omega arith in
      rw (e, add-one (i * 2), add-one i, drop-cons s (i * 2) 0 (omega arith), drop-cons s (suc (i * 2)) 0 (omega arith))

  pub read-end : length s ≤ i * 2 + 1 → sets out i (pairs (drop (i * 2) s)) ≡ out
  read-end h = rw (pairs_short (drop (i * 2) s) (omega (arith, length-drop (i * 2) s)))
