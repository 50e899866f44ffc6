-- What a frame info of seven bytes means at B and at D: carried by its parts, which are its bytes two by two.
use Prim.Native.Nat.{ℕ, suc, ◌+◌, ◌/◌, ◌%◌, ◌≤◌, ◌<◌}
use mathlib.Core.Bool.{true, false, cond}
use mathlib.Core.List.{List, [], ◌∷◌, ◌++◌}
use mathlib.Core.Path.{◌≡◌, refl}
use native.Mathlib.Omega.{arith}
use borrow.Author.Tests.{eq-eqb, ne_eqb}
use lib.Dec.{eqb}
use lib.ListN.{length, get_or, take, drop}
use lib.Seq.{drop-cons}
use Rattle.little_endian_rules.specs.LittleEndian.{to_bytes, from_bytes}
use Rattle.file_rules.specs.Checksum.{checksum}
use Rattle.file_rules.proofs.Checksum.{checksum_below}
use Rattle.sender_rules.specs.Hearing.{info_number, info_size, info_checksum, info_error, informed, compared, confirmed, info_meaning}
use Rattle.sender_rules.specs.declared.Meaning.{Meaning}
use Rattle.sender_rules.specs.declared.Meaning.TheVariants.{Stay, Forward, Differs, Flagged}
use Rattle.sender_rules.specs.declared.Stage.{Stage}
use Rattle.sender_rules.specs.declared.Stage.TheVariants as StageOf

two_at : (p : List ℕ) (i : ℕ) → i + 2 ≤ length p → take 2 (drop i p) ≡ get_or p i 0 ∷ get_or p (suc i) 0 ∷ []
two_at p i h = rw (drop-cons p i 0 (omega arith), drop-cons p (suc i) 0 (omega arith))

-- An info of another length is any other answer, at every stage.
pub no_info : (s : Stage) (file : List ℕ) (i : ℕ) (p : List ℕ) → (length p ≡ 7 → ⊥) → Stay ≡ info_meaning s file i p
unfolding info_meaning informed
no_info StageOf.Setup file i p h = refl
no_info StageOf.Frame file i p h = refl
no_info StageOf.Back file i p h = refl
no_info StageOf.Compare file i p h = rw (ne_eqb (length p) 7 h)
no_info StageOf.Take file i p h = refl
no_info StageOf.Confirm file i p h = rw (ne_eqb (length p) 7 h)

module _ (p : List ℕ) (seven : length p ≡ 7) where
  pub flagged : (m : Meaning) → info_error p ≡ true → Flagged ≡ informed p m
  unfolding informed
  flagged m e = rw (eq-eqb (length p) 7 seven, e)

  pub unflagged : (m n : Meaning) → info_error p ≡ false → m ≡ n → m ≡ informed p n
  unfolding informed
  unflagged m n e same = rw (eq-eqb (length p) 7 seven, e) same

  module _ (frame : List ℕ) (size : ℕ) (is-size : size ≡ from_bytes (get_or p 2 0 ∷ get_or p 3 0 ∷ [])) where
    pub other-size : (size ≡ length frame → ⊥) → Differs ≡ compared frame p
    unfolding compared
    other-size h = rw (two_at p 2 (omega arith), ← is-size, ne_eqb size (length frame) h)

    module _ (same : size ≡ length frame) (check : ℕ) (is-check : check ≡ from_bytes (get_or p 4 0 ∷ get_or p 5 0 ∷ [])) where
      pub other-checksum : (check ≡ checksum frame → ⊥) → Differs ≡ compared frame p
      unfolding compared
      other-checksum h = rw (two_at p 2 (omega arith), ← is-size, eq-eqb size (length frame) same, two_at p 4 (omega arith), ← is-check, ne_eqb check (checksum frame) h)

      pub same-frame : check ≡ checksum frame → Forward ≡ compared frame p
      unfolding compared
      same-frame e = rw (two_at p 2 (omega arith), ← is-size, eq-eqb size (length frame) same, two_at p 4 (omega arith), ← is-check, eq-eqb check (checksum frame) e)

  module _ (i number : ℕ) (is_number : number ≡ from_bytes (get_or p 0 0 ∷ get_or p 1 0 ∷ [])) where
    pub other-number : (number ≡ i → ⊥) → Stay ≡ confirmed i p
    unfolding confirmed
    other-number h = rw (two_at p 0 (omega arith), ← is_number, ne_eqb number i h)

    pub same_number : number ≡ i → Forward ≡ confirmed i p
    unfolding confirmed
    same_number e = rw (two_at p 0 (omega arith), ← is_number, eq-eqb number i e)

-- A frame info of three numbers and flags.
module _ (number size check : ℕ) (flags : ℕ) where
  abbrev pub info : List ℕ
  info = to_bytes 2 number ++ (to_bytes 2 size ++ (to_bytes 2 check ++ (flags ∷ [])))

  info_number_lem : number < 65536 → info_number info ≡ number
  unfolding to_bytes from_bytes
  info_number_lem h = omega arith

  info_size_lem : size < 65536 → info_size info ≡ size
  unfolding to_bytes from_bytes
  info_size_lem h = omega arith

  info_checksum_lem : check < 65536 → info_checksum info ≡ check
  unfolding to_bytes from_bytes
  info_checksum_lem h = omega arith

  pub info_length : length info ≡ 7
  unfolding to_bytes
  info_length = refl

  info_flags : get_or info 6 0 ≡ flags
  unfolding to_bytes
  info_flags = refl

-- Without the error flag: at B one with the frame's size and checksum is what the sender waits for,
pub info_compared : (number : ℕ) (frame : List ℕ) (flags : ℕ) → length frame ≤ 256 → eqb (flags / 2 % 2) 1 ≡ false
    → let q = info number (length frame) (checksum frame) flags in informed q (compared frame q) ≡ Forward
unfolding informed compared
info_compared number frame flags most clear =
    let size = length frame in
    let check = checksum frame in
    rw (
      info_length number size check flags,
      info_flags number size check flags,
      clear,
      info_size_lem number size check flags (omega arith),
      eq-eqb size size refl,
      info_checksum_lem number size check flags (checksum_below frame),
      eq-eqb check check refl,
    )

-- and at D one with the frame's number, and no other.
pub info_confirmed : (number size check i flags : ℕ) → number < 65536 → eqb (flags / 2 % 2) 1 ≡ false
    → let q = info number size check flags in informed q (confirmed i q) ≡ cond (eqb number i) Forward Stay
unfolding informed confirmed
info_confirmed number size check i flags h clear =
    rw (info_length number size check flags, info_flags number size check flags, clear, info_number_lem number size check flags h)
