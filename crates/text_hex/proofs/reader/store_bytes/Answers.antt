-- Carried by the laws of storing: one turn stores the byte of two digits.
use Rattle.std.proofs.Common.{refl, sym, ap, ◌∙◌, arith, length, length-drop, ◌*◌}
use Rattle.std.specs.Iterator.Adapters.{enumerate_source, enumerate_count}
use Rattle.std.specs.Slice.Iter.{chunks_exact_size}
use Rattle.text_rules.specs.Digits.{digit_value}
use Rattle.text_rules.proofs.Storing.{read_turn, read-end}
use Rattle.text_hex.proofs.Pairs.{pair_inside, pair_first, pair_second, pair_values, pair_more}
use Rattle.text_hex.proofs.reader.store_bytes.Goals as goal

pub loop-i-init : goal.loop-i-init
loop-i-init c =
    let i = c.into_iter-i-iterator.ensures.into_iter_gives in
    let source = ap enumerate_source i ∙ c.enumerate-i-items.ensures.source in
    let zero = ap enumerate_count i ∙ c.enumerate-i-items.ensures.count in
    record { size = ap chunks_exact_size source ∙ c.chunks_exact.ensures.size; rest = rw (source, zero) c.chunks_exact.ensures.rest; stored = rw zero refl }

pub overflow_mul-out : goal.overflow_mul-out
overflow_mul-out c =
    let l = c.loop-i in
    let step = c.in-Some.ensures.steps in
    let values = pair_values c.args.word.now _ _ _ _ c.requires.word_value l.invariant.rest step.0.1.0 (step.0.1.1 ∙ l.invariant.size) in
    omega (arith, values.0, c.value_of-high.ensures)

pub overflow_add-out : goal.overflow_add-out
overflow_add-out c =
    let l = c.loop-i in
    let step = c.in-Some.ensures.steps in
    let values = pair_values c.args.word.now _ _ _ _ c.requires.word_value l.invariant.rest step.0.1.0 (step.0.1.1 ∙ l.invariant.size) in
    omega (arith, values.0, values.1, c.value_of-high.ensures, c.value_of-low.ensures)

pub loop-i-preserved : goal.loop-i-preserved
loop-i-preserved c =
    let w = c.args.word.now in
    let l = c.loop-i in
    let step = c.in-Some.ensures.steps in
    let two = step.0.1.1 ∙ l.invariant.size in
    let high = c.value_of-high.ensures ∙ ap digit_value (pair_first w _ _ _ _ c.requires.word_value l.invariant.rest step.0.1.0 two) in
    let low = c.value_of-low.ensures ∙ ap digit_value (pair_second w _ _ _ _ c.requires.word_value l.invariant.rest step.0.1.0 two) in
    let turn = read_turn w l.out (enumerate_count l.i-iterator) (pair_inside w _ _ _ _ c.requires.word_value l.invariant.rest step.0.1.0 two) in
    record {
      size = step.0.0 ∙ l.invariant.size;
      rest = rw step.2 (pair_more w _ _ _ _ c.requires.word_value l.invariant.rest step.0.1.0 two);
      stored = rw (step.1, step.2, high, low) (sym turn ∙ l.invariant.stored);
    }

pub returns : goal.returns
returns c =
    let l = c.loop-i in
    let short = ap length l.invariant.rest in
    sym (read-end c.args.word.now l.out (enumerate_count l.i-iterator) (omega (arith, short, length-drop (enumerate_count l.i-iterator * 2) c.args.word.now, c.in-None.ensures.steps.0.1.0, l.invariant.size))) ∙ l.invariant.stored
