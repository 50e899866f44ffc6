-- A payload put after its head, and the head stored then, are the message's bytes over the start of the output: by the laws of parts, and what `put` answers.
use Rattle.std.specs.Prelude.{Err, Ok, Result, ℕ}
use Prim.Native.Nat.{ℕ, suc, ◌+◌, ◌≤◌, ◌<◌}
use mathlib.Core.Path.{◌≡◌, refl}
use mathlib.Core.List.{List, [], ◌∷◌, ◌++◌, append_assoc}
use native.Mathlib.Omega.{arith}
use lib.ListN.{length, take, drop, length-append, length-take, length-drop, take-append-drop}
use lib.Seq.{drop_at, drop-drop, length-take-le}
use Rattle.message_rules.specs.Answer.{refused, given, refusal_number, write_result, within, counted, output_after, written}
use Rattle.message_rules.specs.Data.{error_bytes, error_number}
use Rattle.message_rules.specs.Kinds.{error_length, type_number}
use Rattle.message_rules.specs.declared.Message.{Message}
use Rattle.message_rules.specs.declared.Refusal.{Refusal}
use Rattle.message_rules.proofs.Answers.{too_short, long_enough, put_refused, put-length}
use Rattle.message_rules.proofs.Tables.{error_length_two}
use Rattle.csp_rules.specs.Csp.{csp_head}

pub head_length : (m : Message) → length (csp_head m) ≡ 2 + error_length m.kind
unfolding csp_head error_bytes
head_length m =
    simp length-take (omega (arith, error_length_two m.kind))

-- What the code takes as the head, once it is known how many bytes tell the error.
pub head_bytes : (m : Message) (n : ℕ) → n ≡ error_length m.kind → take (2 + n) (type_number m.kind ∷ m.id ∷ error_number m.error ∷ m.index ∷ []) ≡ csp_head m
unfolding csp_head error_bytes
head_bytes m n e = let two : 2 + n ≡ suc (suc n) = omega arith in rw (two, e)

-- The head over the first bytes of an output that has the payload after them.
head_stored : (h p out : List ℕ) → length h ≤ length out
    → h ++ drop (length h) (take (length h) out ++ (p ++ drop (length p) (drop (length h) out))) ≡ (h ++ p) ++ drop (length (h ++ p)) out
head_stored h p out room =
    let q = p ++ drop (length p) (drop (length h) out) in
    let size : length (take (length h) out) ≡ length h = length-take-le (length h) out room in
    rw (drop_at (take (length h) out) q (length h) size, drop-drop, length-append, append_assoc)

module _ (h p out part : List ℕ) (n : ℕ) (w : Result ℕ Refusal)
    (size : n ≡ length h) (room : n ≤ length out)
    (result : write_result w ≡ counted (within (drop n out) (written p))) (left : part ≡ output_after (within (drop n out) (written p)) (drop n out)) where
  pub payload-refused : (r : Refusal) → w ≡ Err r
      → (refused (refusal_number r) ≡ counted (within out (written (h ++ p)))) × (take n out ++ part ≡ output_after (within out (written (h ++ p))) out)
  unfolding counted output_after
  payload-refused r e =
      let s = put_refused p (drop n out) part w result left r e in
      let short : length out < length (h ++ p) = simp length-append (omega (arith, s.0, length-drop n out)) in
      rw (too_short out (tt {0}) (h ++ p) short, s.1, s.2) (refl, take-append-drop n out)

  pub payload-put : (k : ℕ) → w ≡ Ok k
      → (given tt (n + k) ≡ counted (within out (written (h ++ p)))) × (h ++ drop (length h) (take n out ++ part) ≡ output_after (within out (written (h ++ p))) out)
  unfolding counted output_after
  payload-put k e =
      let s = put-length p (drop n out) part w result left k e in
      let fits : length h + length p ≤ length out = omega (arith, s.0, length-drop n out) in
      let long : length (h ++ p) ≤ length out = rw length-append fits in
      rw (long_enough out (tt {0}) (h ++ p) long, s.1, s.2, size) (rw length-append, head_stored h p out (omega arith))
