-- With what is still to be stored from here on, the output becomes what it is to be.
use Rattle.std.proofs.Common.{◌≡◌, ◌*◌, drop}
use Rattle.std.proofs.lemmas.List.Edits.{sets}
use Rattle.text_rules.specs.Hex.{hex_digits}
use Rattle.text_hex.proofs.writer.store_digits.Given as goal

abbrev pub invariant-loop-i : goal.invariant-loop-i
invariant-loop-i l = sets l.out (l.i * 2) (hex_digits (drop l.i l.bytes)) ≡ sets l.initial.out 0 (hex_digits l.bytes)
