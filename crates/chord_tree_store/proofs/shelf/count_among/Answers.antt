use Rattle.std.proofs.Common.{◌+◌, List, length, refl, sym, ap, ◌∙◌, arith}
use Rattle.std.specs.List.{IsDistinct}
use Rattle.chord_map.specs.declared.pair.Pair.{Pair}
use Rattle.chord_tree_store.proofs.Walking.{before_count, before_fits, before_idle, before_sum, once_more}
use Rattle.chord_tree_store.proofs.shelf.count_among.Goals as goal
use Rattle.chord_tree_store.proofs.shelf.count_among.Goals.{then-is_touched, else-is_touched}

pub loop-place-init : goal.loop-place-init
unfolding IsDistinct
loop-place-init c = record { counted = refl; once = tt }

pub count_inside-total-requires : goal.count_inside-total-requires
count_inside-total-requires c =
    let once = once_more c.args.shards.now c.requires.in_place c.loop-place.place c.loop-place-test.true c.loop-place.invariant.once c.is_touched.ensures.once in
    let fits = before_fits c.args.span.now c.args.shards.now c.requires.placed (c.loop-place.place + 1) once c.requires.few in
    let sum = before_sum c.args.span.now c.args.shards.now c.loop-place.place c.index-shards-place.result c.loop-place-test.true in
    omega (arith, fits, sum)

pub overflow_add-total : goal.overflow_add-total
overflow_add-total c =
    let once = once_more c.args.shards.now c.requires.in_place c.loop-place.place c.loop-place-test.true c.loop-place.invariant.once c.is_touched.ensures.once in
    let fits = before_fits c.args.span.now c.args.shards.now c.requires.placed (c.loop-place.place + 1) once c.requires.few in
    let sum = before_sum c.args.span.now c.args.shards.now c.loop-place.place c.index-shards-place.result c.loop-place-test.true in
    omega (arith, fits, sum, c.count_inside-total.ensures, c.loop-place.invariant.counted)

pub loop-place-preserved : goal.loop-place-preserved
loop-place-preserved c =
    let shards = c.args.shards.now in
    let place = c.loop-place.place in
    let span = c.args.span.now in
    let once = once_more shards c.requires.in_place place c.loop-place-test.true c.loop-place.invariant.once c.is_touched.ensures.once in
    elim c.if-is_touched.branch [
      | then-is_touched w ↦ record {
        counted =
            let sum = before_sum span shards place w.index-shards-place.result c.loop-place-test.true in
            omega (arith, sum, w.total-is, w.count_inside-total.ensures, c.loop-place.invariant.counted);
        once = once;
      }
      | else-is_touched w ↦ record {
        counted = w.total-is ∙ c.loop-place.invariant.counted
            ∙ ap (λ (ps : List Pair). length ps) (sym (before_idle span shards place c.loop-place-test.true (λ d. c.is_touched.ensures.apart d w.if-is_touched.false)));
        once = once;
      }
    ]

pub returns : goal.returns
returns c = c.loop-place.invariant.counted ∙ before_count c.args.span.now c.args.shards.now c.requires.placed c.loop-place.place c.loop-place-test.false c.loop-place.invariant.once
