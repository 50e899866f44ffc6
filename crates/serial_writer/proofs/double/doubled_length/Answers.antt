-- Carried by the law that each ESC takes one byte more.
use Rattle.std.proofs.Common.{rules, ◌≡◌}
use Rattle.std.specs.Prelude.{count_by, ◌==◌}
use Rattle.serial_writer.proofs.Doubled.{doubled_count}
use Rattle.serial_writer.proofs.double.doubled_length.Goals as goal

pub returns : goal.returns
returns c =
    let n : c.count.result ≡ count_by (λ b. b == c.escape-esc.result) c.args.bytes.now = search rules in
    rw (n, c.escape-esc.ensures) (doubled_count c.args.bytes.now)
