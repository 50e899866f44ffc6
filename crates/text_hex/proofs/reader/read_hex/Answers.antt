-- By the laws of byte strings: what the word stands for, and whether the output takes it.
use Rattle.std.proofs.Common.{sym, [], arith}
use Rattle.text_rules.specs.Hex.{pairs, if_room, hex_answer, hex_output}
use Rattle.text_rules.proofs.HexLaws.{length_pairs, read_dash, read-bad, read_pairs, hex_digits_lem}
use Rattle.text_rules.proofs.Storing.{no_room, has_room_lem}
use Rattle.text_hex.proofs.reader.read_hex.Goals as goal

pub returns-then-is_dash : goal.returns-then-is_dash
returns-then-is_dash c =
    let has_room = has_room_lem c.args.out.now [] (omega arith) in
    let read = read_dash c.args.word.now (sym c.if-is_dash.ensures) in
    record { value = rw read has_room.0; out_after = rw read has_room.1 }

pub returns-then-not-is_hex : goal.returns-then-not-is_hex
unfolding if_room hex_answer hex_output
returns-then-not-is_hex c =
    let read = read-bad c.args.word.now (sym c.if-is_dash.ensures) (sym c.if-not-is_hex.ensures) in
    record { value = rw read; out_after = rw read }

pub returns-then-out-word : goal.returns-then-out-word
returns-then-out-word c =
    let w = c.args.word.now in
    let short = no_room c.args.out.now (pairs w) (omega (arith, length_pairs w)) in
    let read = read_pairs w (sym c.if-is_dash.ensures) (sym c.if-not-is_hex.ensures) in
    record { value = rw read short.0; out_after = rw read short.1 }

pub store_bytes-requires-clause-word_value : goal.store_bytes-requires-clause-word_value
store_bytes-requires-clause-word_value c = hex_digits_lem _ (sym c.if-not-is_hex.ensures)

pub returns : goal.returns
returns c =
    let w = c.args.word.now in
    let has_room = has_room_lem c.args.out.now (pairs w) (omega (arith, length_pairs w)) in
    let read = read_pairs w (sym c.if-is_dash.ensures) (sym c.if-not-is_hex.ensures) in
    record { value = rw (read, ← length_pairs w) has_room.0; out_after = rw (read, c.store_bytes.ensures) has_room.1 }
