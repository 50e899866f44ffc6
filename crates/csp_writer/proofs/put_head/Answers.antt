-- Carried by what the head is, once it is known how many bytes tell the error.
use mathlib.Core.Path.{◌≡◌, ◌∙◌, sym}
use native.Mathlib.Omega.{arith}
use Rattle.message_rules.specs.Kinds.{error_length}
use Rattle.message_rules.proofs.Tables.{error_length_two}
use Rattle.csp_writer.proofs.Heads.{head_bytes}
use Rattle.csp_writer.proofs.put_head.Goals as goal

pub returns-in-0 : goal.returns-in-0
returns-in-0 c =
    let n : 0 ≡ error_length c.args.message.kind = sym c.in-0.is ∙ c.error_length.ensures in
    rw (c.copy_from_slice.ensures.after, c.type_number-number.ensures, ← head_bytes c.args.message 0 n)

pub returns-in-1 : goal.returns-in-1
returns-in-1 c =
    let n : 1 ≡ error_length c.args.message.kind = sym c.in-1.is ∙ c.error_length.ensures in
    rw (c.copy_from_slice-in-1.ensures.after, c.type_number-number.ensures, c.error_number-error.ensures, ← head_bytes c.args.message 1 n)

pub returns-in_default : goal.returns-in_default
returns-in_default c =
    let n : 2 ≡ error_length c.args.message.kind = omega (arith, error_length_two c.args.message.kind) in
    rw (c.copy_from_slice-in_default.ensures.after, c.type_number-number.ensures, c.error_number-error.ensures, ← head_bytes c.args.message 2 n)
