-- Carried by the law of a payload that is put after its head.
use Prim.Native.Nat.{ℕ, ◌+◌, ◌<◌}
use mathlib.Core.Path.{◌≡◌, refl, ◌∙◌}
use mathlib.Core.List.{◌++◌}
use native.Mathlib.Omega.{arith}
use Rattle.std.proofs.lemmas.Result.{err_from_is_err_and}
use Rattle.message_rules.proofs.Answers.{too_short}
use lib.ListN.{length, length-append}
use Rattle.message_rules.specs.Answer.{write_result, counted, output_after}
use Rattle.message_rules.proofs.Parts.{part-from, put-from}
use Rattle.message_rules.specs.Kinds.{error_length}
use Rattle.message_rules.specs.declared.Message.{Message}
use Rattle.csp_rules.specs.Csp.{csp_head}
use Rattle.csp_writer.proofs.Heads.{head_length, payload-refused, payload-put}
use Rattle.csp_writer.proofs.write_checked.Goals as goal

-- How long the head is.
size : (m : Message) (n : ℕ) → n ≡ error_length m.kind → 2 + n ≡ length (csp_head m)
size m n e = rw (head_length m, e)

pub returns-then-out-head : goal.returns-then-out-head
unfolding write_result counted output_after
returns-then-out-head c =
    let a = c.args in
    let short : length a.out.now < length (csp_head a.message ++ a.payload.now) =
    rw length-append (omega (arith, head_length a.message)) in
    rw (too_short a.out.now (tt {0}) (csp_head a.message ++ a.payload.now) short) record { result_value = refl; out_after = refl }

pub returns-in_err-size : goal.returns-in_err-size
unfolding write_result
returns-in_err-size c =
    let a = c.args in
    let e = rw part-from at c.put.ensures in
    let h = payload-refused (csp_head a.message) a.payload.now a.out.now _ _ _ (size a.message _ c.error_length-head.ensures) c.if-out-head.false e.result_value e.out_after _ c.in_err-size.was in
    let p = err_from_is_err_and c.from_residual.result c.from_residual.ensures.1 in
    rw (p.1, p.2) record { result_value = h.0; out_after = put-from _ _ _ c.if-out-head.false ∙ h.1 }

pub returns : goal.returns
unfolding write_result
returns c =
    let a = c.args in
    let e = rw part-from at c.put.ensures in
    let h = payload-put (csp_head a.message) a.payload.now a.out.now _ _ _ (size a.message _ c.error_length-head.ensures) c.if-out-head.false e.result_value e.out_after _ c.in_ok-size.was in
    record { result_value = h.0; out_after = (rw (put-from _ _ _ c.if-out-head.false) at c.put_head.ensures) ∙ h.1 }
