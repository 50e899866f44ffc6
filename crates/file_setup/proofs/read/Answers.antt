-- Carried by the length: eight bytes are four and four, one by one.
use native.Mathlib.Omega.{arith}
use borrow.Author.Tests.{eq-eqb, ne_eqb}
use lib.ListN.{drop_of_length-le}
use lib.Seq.{take-suc, drop-cons}
use Rattle.file_rules.specs.Setup.{setup_read}
use Rattle.file_setup.proofs.read.Goals as goal

pub returns-then-payload-ne-SETUP_LENGTH : goal.returns-then-payload-ne-SETUP_LENGTH
unfolding setup_read
returns-then-payload-ne-SETUP_LENGTH c = rw (ne_eqb _ 8 c.if-payload-ne-SETUP_LENGTH.true)

pub returns : goal.returns
unfolding setup_read
returns c =
    let eight = c.if-payload-ne-SETUP_LENGTH.false in
    let p = c.args.payload.now in
    rw (
      eq-eqb _ 8 eight,
      c.u32_from_bytes.ensures,
      c.u32_from_bytes-2.ensures,
      take-suc p 3 0 (omega arith),
      take-suc p 2 0 (omega arith),
      take-suc p 1 0 (omega arith),
      take-suc p 0 0 (omega arith),
      drop-cons p 4 0 (omega arith),
      drop-cons p 5 0 (omega arith),
      drop-cons p 6 0 (omega arith),
      drop-cons p 7 0 (omega arith),
      drop_of_length-le p {i = 8} (omega arith),
    )
