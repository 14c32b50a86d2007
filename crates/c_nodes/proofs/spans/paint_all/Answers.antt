use Rattle.std.proofs.Common.{◌≡◌, ◌+◌, ◌-◌, ◌∙◌, refl, ap, sym, subst, arith, length, get_or, map, drop}
use Rattle.std.specs.List.{range_with_len}
use Rattle.c_nodes.specs.declared.spans.Span.{Span}
use Rattle.c_nodes.specs.Spans.{IsSpanWithin, painted}
use Rattle.c_nodes.proofs.SpanLaws.{from_index, span_before, none_yet, all_spans, within_at, length-painted}
use Rattle.c_nodes.proofs.spans.paint_all.Goals as goal

abbrev nowhere : Span
nowhere = record { node = 0; from = 0; to = 0; more_from = 0; more_to = 0 }

pub loop-left-init : goal.loop-left-init
loop-left-init c = record { painted = c.requires.start ∙ none_yet c.args.spans.now (length c.args.found.now); long = refl; within = omega arith }

pub paint-requires : goal.paint-requires
paint-requires c =
    let some = c.loop-left-test.true in
    let low = c.loop-left.invariant.within in
    let span = get_or c.args.spans.now (c.loop-left.left - 1) nowhere in
    subst (λ n. IsSpanWithin n span.from span.to) (sym c.loop-left.auto.found)
    (within_at (length c.args.found.now) c.args.spans.now (c.loop-left.left - 1) nowhere c.requires.within (omega (arith, some, low))).0

long_after : (c : goal.After-paint-arg-in-loop-left-1) → length c.paint.new.found ≡ length c.args.found.now
long_after c =
    let span = get_or c.args.spans.now (c.loop-left.left - 1) nowhere in
    ap length c.paint.ensures.is ∙ length-painted 0 span.from (span.to + 1) (c.loop-left.left - 1) c.loop-left.found ∙ c.loop-left.auto.found

pub paint-requires-in-loop-left : goal.paint-requires-in-loop-left
paint-requires-in-loop-left c =
    let some = c.loop-left-test.true in
    let low = c.loop-left.invariant.within in
    let span = get_or c.args.spans.now (c.loop-left.left - 1) nowhere in
    subst (λ n. IsSpanWithin n span.more_from span.more_to) (sym (long_after c))
    (within_at (length c.args.found.now) c.args.spans.now (c.loop-left.left - 1) nowhere c.requires.within (omega (arith, some, low))).1

pub loop-left-preserved : goal.loop-left-preserved
loop-left-preserved c =
    let some = c.loop-left-test.true in
    let low = c.loop-left.invariant.within in
    let span = get_or c.args.spans.now (c.loop-left.left - 1) nowhere in
    let i = c.loop-left.left - 1 in
    let both = c.paint-in-loop-left.ensures.is ∙ ap (painted span.more_from span.more_to i) c.paint.ensures.is in
    record {
      painted = both ∙ span_before c.args.spans.now c.loop-left.left some low nowhere (length c.args.found.now) c.loop-left.found c.loop-left.invariant.painted;
      long = ap length both ∙ length-painted 0 span.more_from (span.more_to + 1) i (painted span.from span.to i c.loop-left.found)
          ∙ length-painted 0 span.from (span.to + 1) i c.loop-left.found ∙ c.loop-left.auto.found;
      within = omega (arith, low);
    }

pub returns : goal.returns
returns c =
    let none : c.loop-left.left ≡ 0 = omega (arith, c.loop-left-test.false) in
    c.loop-left.invariant.painted
    ∙ ap (λ n. map (from_index n (drop n c.args.spans.now)) (range_with_len 0 (length c.args.found.now))) none
    ∙ all_spans c.args.spans.now 0 (length c.args.found.now)
