-- By the laws of byte strings: what is printed, and whether the output takes it.
use borrow.Author.Tests.{eqb-true, eqb-false}
use Rattle.std.proofs.Common.{sym, ◌∙◌, [], ◌∷◌, arith, length}
use Rattle.text_rules.specs.Hex.{hex_digits}
use Rattle.text_rules.proofs.HexLaws.{length-hex_digits, printed-none, printed-some}
use Rattle.text_rules.proofs.Storing.{no_room, has_room_lem}
use Rattle.text_hex.proofs.writer.write_hex.Goals as goal

pub returns-then-is_empty-2 : goal.returns-then-is_empty-2
returns-then-is_empty-2 c =
    let short = no_room c.args.out.now (45 ∷ []) (omega (arith, eqb-true (length c.args.out.now) 0 (sym c.is_empty-then-is_empty.ensures ∙ c.if-is_empty-2.true))) in
    let dash = printed-none c.args.bytes.now (eqb-true _ 0 (sym c.is_empty.ensures ∙ c.if-is_empty.true)) in
    record { value = rw dash short.0; out_after = rw dash short.1 }

pub returns-then-is_empty : goal.returns-then-is_empty
returns-then-is_empty c =
    let has_room = has_room_lem c.args.out.now (45 ∷ []) (omega (arith, eqb-false (length c.args.out.now) 0 (sym c.is_empty-then-is_empty.ensures ∙ c.if-is_empty-2.false))) in
    let dash = printed-none c.args.bytes.now (eqb-true _ 0 (sym c.is_empty.ensures ∙ c.if-is_empty.true)) in
    record { value = rw dash has_room.0; out_after = rw dash has_room.1 }

pub returns-then-out-bytes : goal.returns-then-out-bytes
returns-then-out-bytes c =
    let b = c.args.bytes.now in
    let short = no_room c.args.out.now (hex_digits b) (omega (arith, length-hex_digits b)) in
    let some = printed-some b (eqb-false _ 0 (sym c.is_empty.ensures ∙ c.if-is_empty.false)) in
    record { value = rw some short.0; out_after = rw some short.1 }

pub returns : goal.returns
returns c =
    let b = c.args.bytes.now in
    let has_room = has_room_lem c.args.out.now (hex_digits b) (omega (arith, length-hex_digits b)) in
    let some = printed-some b (eqb-false _ 0 (sym c.is_empty.ensures ∙ c.if-is_empty.false)) in
    record { value = rw (some, ← length-hex_digits b) has_room.0; out_after = rw (some, c.store_digits.ensures) has_room.1 }
