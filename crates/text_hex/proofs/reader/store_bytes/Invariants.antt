-- With what is still to be stored of the pairs that are left, the output becomes what it is to be.
use Rattle.std.proofs.Common.{◌≡◌, ◌*◌, drop}
use Rattle.std.proofs.lemmas.List.Edits.{sets}
use Rattle.std.specs.Iterator.Adapters.{enumerate_source, enumerate_count}
use Rattle.std.specs.Slice.Iter.{chunks_exact_rest, chunks_exact_size}
use Rattle.text_rules.specs.Hex.{pairs}
use Rattle.text_hex.proofs.reader.store_bytes.Given as goal

abbrev pub invariant-loop-i : goal.invariant-loop-i
invariant-loop-i l =
    let i = enumerate_count l.i-iterator in
    let left = enumerate_source l.i-iterator in
    record {
      size : chunks_exact_size left ≡ 2;
      rest : chunks_exact_rest left ≡ drop (i * 2) l.word;
      stored : sets l.out i (pairs (drop (i * 2) l.word)) ≡ sets l.initial.out 0 (pairs l.word);
    }
