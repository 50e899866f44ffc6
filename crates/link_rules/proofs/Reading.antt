-- What was read into 256 bytes tells what the bytes read as, since every payload fits: carried by the bound of what is read.
use Rattle.std.specs.Prelude.{Err, Ok, Result, ℕ}
use Prim.Native.Nat.{ℕ, ◌≤◌}
use mathlib.Core.List.{List}
use mathlib.Core.Path.{◌≡◌, refl, sym, ◌∙◌}
use lib.ListN.{length, take, replicate}
use Rattle.message_rules.specs.Answer.{Answer, refused, given, refusal_number, within, counted, output_after, read_result}
use Rattle.message_rules.specs.declared.Message.{Message}
use Rattle.message_rules.specs.declared.Refusal.{Refusal}
use Rattle.message_rules.proofs.Answers.{long_enough, counted-refused, counted-given}
use Rattle.link_rules.specs.Link.{link_read}
use Rattle.link_rules.specs.declared.Link.{Link}
use Rattle.link_rules.proofs.RoundTrip.{read-most}

module _ (l : Link) (b : List ℕ) where
  fits : within (replicate 256 0) (link_read l b) ≡ link_read l b
  unfolding within
  fits = by (link_read l b) refl
    where
      by : (x : Answer Message (List ℕ)) → link_read l b ≡ x → within (replicate 256 0) (link_read l b) ≡ link_read l b
      by (refused n) e = rw e
      by (given m p) e = rw e (long_enough (replicate 256 0) m p (read-most l b m p e))

  module _ (payload : List ℕ) (w : Result (Message × ℕ) Refusal)
      (says : read_result w ≡ counted (within (replicate 256 0) (link_read l b))) (left : payload ≡ output_after (within (replicate 256 0) (link_read l b)) (replicate 256 0)) where
    pub unreadable : (r : Refusal) → w ≡ Err r → link_read l b ≡ refused (refusal_number r)
    unfolding read_result
    unreadable r e = sym fits ∙ counted-refused _ (refusal_number r) (rw e at (sym says))

    pub readable : (m : Message) (n : ℕ) → w ≡ Ok (m, n) → (link_read l b ≡ given m (take n payload)) × (n ≤ length payload)
    unfolding read_result
    readable m n e =
        let g = counted-given _ (replicate 256 0) payload left m n (rw e at (sym says)) in
        (sym fits ∙ g.0, g.1)
