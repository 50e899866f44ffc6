-- The laws of the answer shapes, by the test of the output's length and the case of the answer; those of a copy by one byte more at its place.
use Rattle.std.specs.Prelude.{Err, Ok, Result, ℕ}
use Prim.Native.Nat.{ℕ, suc, ◌+◌, ◌≤◌, ◌<◌}
use mathlib.Core.Path.{◌≡◌, refl, ◌∙◌, ap}
use mathlib.Core.Bool.{Bool, true, false}
use mathlib.Core.List.{List, [], ◌∷◌, ◌++◌, append-nil}
use native.Mathlib.Numerals.{add-one}
use native.Mathlib.Omega.{arith}
use borrow.Author.Tests.{le-leb, lt-leb, leb-true, leb-false}
use lib.Dec.{leb}
use lib.ListN.{length, get_or, set, take, drop, length-append}
use lib.Seq.{drop-cons, take-suc, append_snoc, set_at, length-take-le, take-length, take_at, drop-length}
use Rattle.message_rules.specs.declared.Refusal.{Refusal}
use Rattle.message_rules.specs.Answer.{Check, passed, failed, refusal_number, write_result, written, Answer, refused, given, require, after, within, counted, output_after, about}

module _ {A : Type 0} (out : List ℕ) (a : A) (b : List ℕ) where
  pub too_short : length out < length b → within out (given a b) ≡ refused 8
  unfolding within require after
  too_short h = rw lt-leb

  pub long_enough : length b ≤ length out → within out (given a b) ≡ given a b
  unfolding within require after
  long_enough h = rw le-leb

-- Of the output its length alone decides.
pub same-room : {A : Type 0} (out out' : List ℕ) → length out ≡ length out' → (x : Answer A (List ℕ)) → within out x ≡ within out' x
unfolding within
same-room out out' e (refused n) = refl
same-room out out' e (given a b) = rw e

-- What a caller can tell from an answer: a refusal is the output's, and a count is that of the bytes, which fit.
module _ {A : Type 0} (a : A) (out b : List ℕ) (n : ℕ) where
  pub counted_short : counted (within out (given a b)) ≡ refused n → (length out < length b) × (n ≡ 8)
  unfolding counted within require after
  counted_short e = by (leb (length b) (length out)) refl
    where
      by : (t : Bool) → leb (length b) (length out) ≡ t → (length out < length b) × (n ≡ 8)
      by true q = absurd (let z : ◌≡◌ {A = ℕ} 0 1 = cc (rw q at e) in omega arith)
      by false q = (leb-false _ _ q, cc (rw q at e))

  pub counted-fits : (a' : A) → counted (within out (given a b)) ≡ given a' n → (length b ≤ length out) × (n ≡ length b)
  unfolding counted within require after
  counted-fits a' e = by (leb (length b) (length out)) refl
    where
      by : (t : Bool) → leb (length b) (length out) ≡ t → (length b ≤ length out) × (n ≡ length b)
      by true q = (leb-true _ _ q, cc (rw q at e))
      by false q = absurd (let z : ◌≡◌ {A = ℕ} 0 1 = cc (rw q at e) in omega arith)

-- What was told, and what lies in the output, give back the answer.
module _ {A : Type 0} (x : Answer A (List ℕ)) where
  pub counted-refused : (n : ℕ) → counted x ≡ refused n → x ≡ refused n
  unfolding counted
  counted-refused n e = by x refl
    where
      by : (y : Answer A (List ℕ)) → x ≡ y → x ≡ refused n
      by (refused k) q = q ∙ cc (rw q at e)
      by (given a b) q = absurd (let z : ◌≡◌ {A = ℕ} 0 1 = cc (rw q at e) in omega arith)

  -- The bytes at the start of the output.
  pub counted-given : (out left : List ℕ) → left ≡ output_after x out → (a : A) (n : ℕ) → counted x ≡ given a n → (x ≡ given a (take n left)) × (n ≤ length left)
  unfolding counted output_after
  counted-given out left output-is a n e = by x refl
    where
      by : (y : Answer A (List ℕ)) → x ≡ y → (x ≡ given a (take n left)) × (n ≤ length left)
      by (refused k) q = absurd (let z : ◌≡◌ {A = ℕ} 0 1 = cc (rw q at e) in omega arith)
      by (given a' b) q =
          let same : given a' (length b) ≡ given a n = rw q at e in
          let size : length b ≡ n = cc in
          let lies = rw q at output-is in
          (q ∙ cc (rw (take_at b (drop (length b) out) n size) at (ap (take n) lies)), rw (lies, length-append) (omega arith))

  pub counted_empty : (a : A) → counted x ≡ given a 0 → x ≡ given a []
  unfolding counted
  counted_empty a e = by x refl
    where
      by : (y : Answer A (List ℕ)) → x ≡ y → x ≡ given a []
      by (refused k) q = absurd (let z : ◌≡◌ {A = ℕ} 0 1 = cc (rw q at e) in omega arith)
      by (given a' []) q = q ∙ cc (rw q at e)
      by (given a' (b ∷ bs)) q =
          let same : given a' (length (b ∷ bs)) ≡ given a 0 = rw q at e in
          let size : length (b ∷ bs) ≡ 0 = cc in
          absurd (omega arith)

-- A refusal leaves the output as it came.
pub refusal-leaves : {A : Type 0} (x : Answer A (List ℕ)) (n : ℕ) (out : List ℕ) → counted x ≡ refused n → output_after x out ≡ out
unfolding counted output_after
refusal-leaves (refused k) n out e = refl
refusal-leaves (given a b) n out e = let z : ◌≡◌ {A = ℕ} 0 1 = cc in absurd (omega arith)

-- An answer after checks is given exactly where they pass.
pub after-given : {A B : Type 0} (c : Check) (a a' : A) (b b' : B) → after c (given a b) ≡ given a' b' → (c ≡ passed) × (a ≡ a') × (b ≡ b')
unfolding after
after-given passed a a' b b' e = (refl, cc, cc)
after-given (failed n) a a' b b' e = absurd (let z : ◌≡◌ {A = ℕ} 0 1 = cc in omega arith)

pub after-passed : {A : Type 0} (c : Check) (x : Answer A (List ℕ)) (a : A) (b : List ℕ) → after c x ≡ given a b → (c ≡ passed) × (x ≡ given a b)
unfolding after
after-passed passed x a b e = (refl, e)
after-passed (failed n) x a b e = absurd (let z : ◌≡◌ {A = ℕ} 0 1 = cc in omega arith)

-- An answer about something else has the same 8, the same count and the same bytes.
module _ {A A' : Type 0} (a : A') (out : List ℕ) where
  pub within-about : (x : Answer A (List ℕ)) → within out (about a x) ≡ about a (within out x)
  unfolding about within after require
  within-about (refused n) = refl
  within-about (given a' b) = by (leb (length b) (length out)) refl
    where
      by : (t : Bool) → leb (length b) (length out) ≡ t → within out (about a (given a' b)) ≡ about a (within out (given a' b))
      by true q = rw q
      by false q = rw q

  counted-about : (x : Answer A (List ℕ)) → counted (about a x) ≡ about a (counted x)
  unfolding about counted
  counted-about (refused n) = refl
  counted-about (given a' b) = refl

  output-about : (x : Answer A (List ℕ)) → output_after (about a x) out ≡ output_after x out
  unfolding about output_after
  output-about (refused n) = refl
  output-about (given a' b) = refl

  pub about-counted : (x : Answer A (List ℕ)) → counted (within out (about a x)) ≡ about a (counted (within out x))
  about-counted x = rw (within-about x) (counted-about (within out x))

  pub about-output : (x : Answer A (List ℕ)) → output_after (within out (about a x)) out ≡ output_after (within out x) out
  about-output x = rw (within-about x) (output-about (within out x))

-- A turn of a loop that copies `bytes` over the start of `out`.
pub copy_step : (bytes out : List ℕ) (i : ℕ) → i < length bytes → i < length out → set (take i bytes ++ drop i out) i (get_or bytes i 0) ≡ take (i + 1) bytes ++ drop (i + 1) out
copy_step bytes out i h k =
    rw (add-one, take-suc bytes i 0, append_snoc, drop-cons out i 0, set_at (take i bytes) (get_or out i 0) (drop (suc i) out) (get_or bytes i 0) i (length-take-le i bytes (omega arith)))

-- Its end: all of `bytes`, and past them what was there.
pub copy_done : (bytes out : List ℕ) (i : ℕ) → i ≡ length bytes → take i bytes ++ drop i out ≡ bytes ++ drop (length bytes) out
copy_done bytes out i e = rw (e, take-length)

-- Bytes that were put over all of an output are what it holds.
pub put_all : (out bytes left : List ℕ) → left ≡ output_after (within out (written bytes)) out → length bytes ≡ length out → left ≡ bytes
unfolding output_after
put_all out bytes left e same = e ∙ rw (long_enough out (tt {0}) bytes (omega arith), same, drop-length) (append-nil bytes)

-- What a caller of `put` learns in each case of its answer.
module _ (bytes out out' : List ℕ) (w : Result ℕ Refusal) (says : write_result w ≡ counted (within out (written bytes))) (left : out' ≡ output_after (within out (written bytes)) out) where
  pub put_refused : (r : Refusal) → w ≡ Err r → (length out < length bytes) × (refusal_number r ≡ 8) × (out' ≡ out)
  unfolding write_result
  put_refused r e =
      let t : counted (within out (written bytes)) ≡ refused (refusal_number r) = cc in
      let h = counted_short tt out bytes (refusal_number r) t in
      (h.0, h.1, left ∙ refusal-leaves _ _ out t)

  pub put-length : (n : ℕ) → w ≡ Ok n → (length bytes ≤ length out) × (n ≡ length bytes) × (out' ≡ bytes ++ drop (length bytes) out)
  unfolding write_result output_after
  put-length n e =
      let t : counted (within out (written bytes)) ≡ write_result (Ok n) = cc in
      let h = counted-fits tt out bytes n tt t in
      (h.0, h.1, left ∙ rw (long_enough out (tt {0}) bytes h.0))
