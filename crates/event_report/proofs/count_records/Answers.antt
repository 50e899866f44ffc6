-- Carried by what is left to count (Counting): a turn counts the first entry left, and at the end none is left.
use Rattle.std.proofs.Common.{◌<◌, ◌≤◌, length, ◌∙◌, rules, arith, sym}
use Rattle.std.specs.Slice.Iter.{chunks_exact_rest}
use Rattle.message_rules.specs.Answer.{require, after, value_result}
use Rattle.event_rules.proofs.Choices.{class_below, source_below}
use Rattle.event_report.proofs.Counting.{first, next, late, all_legal, all_counted, class_most, source-most, earlier_few, at_most_one}
use Rattle.event_report.proofs.count_records.Goals as goal

pub loop-entry-init : goal.loop-entry-init
loop-entry-init c =
    (search rules, rw (c.into_iter-entry-iterator.ensures.into_iter_gives, c.chunks_exact-entry-items.ensures.rest) (first c.args.log.now))

pub returns-then-not-in_second : goal.returns-then-not-in_second
unfolding value_result require after
returns-then-not-in_second c =
    let step = c.in-Some.ensures.steps in
    let illegal = sym c.in_second.ensures ∙ c.if-not-in_second.true in
    rw (late c.loop-entry.invariant.1 _ _ step.1.0 (step.1.1 ∙ c.loop-entry.invariant.0) _ c.record_in-event.ensures illegal)

pub overflow_add-classes : goal.overflow_add-classes
overflow_add-classes c = omega (arith, class_most c.loop-entry.invariant.1 c.requires c.event_class-class.result (rw c.event_class-class.ensures (class_below _)))

pub overflow_add-sources : goal.overflow_add-sources
overflow_add-sources c = omega (arith, source-most c.loop-entry.invariant.1 c.requires c.event_source-source.result (rw c.event_source-source.ensures (source_below _)))

pub overflow_add-earlier : goal.overflow_add-earlier
overflow_add-earlier c =
    let one : c.from-earlier.result ≤ 1 = rw c.from-earlier.ensures (at_most_one _) in
    omega (arith, earlier_few c.loop-entry.invariant.1 c.requires, one)

pub loop-entry-preserved : goal.loop-entry-preserved
loop-entry-preserved c =
    let step = c.in-Some.ensures.steps in
    let legal = sym c.in_second.ensures ∙ c.if-not-in_second.false in (
      step.0 ∙ c.loop-entry.invariant.0,
      rw (c.event_class-class.ensures, c.event_source-source.ensures, c.from-earlier.ensures, c.time_of-time.ensures)
          (next c.loop-entry.invariant.1 _ _ step.1.0 (step.1.1 ∙ c.loop-entry.invariant.0) _ c.record_in-event.ensures legal),
    )

pub returns : goal.returns
unfolding value_result require after
returns c =
    let step = c.in-None.ensures.steps in
    let none : length (chunks_exact_rest c.loop-entry.entry-iterator) < 24 = omega (arith, step.1.0, c.loop-entry.invariant.0) in
    rw (all_legal c.loop-entry.invariant.1 none, all_counted c.loop-entry.invariant.1 none)
