use Rattle.std.proofs.Common.{◌++◌, Vec, Global, slice_index_or, sym, ap, subst, ◌∙◌, List}
use Rattle.std.specs.List.{IsDistinct}
use Rattle.std.proofs.lemmas.Bool.{true≢false}
use Rattle.chord_map.specs.declared.pair.Pair.{Pair}
use Rattle.chord_tree_store.specs.Copied.{AreCopies}
use Rattle.chord_store.specs.Inside.{pairs_inside}
use Rattle.chord_tree_store.specs.Shelf.{slots_of}
use Rattle.chord_tree_store.specs.Slots.{entries_inside, pairs_in, pairs_of_slots}
use Rattle.chord_tree_store.proofs.Walking.{before_all, before_idle, before-more, none_before, once_more}
use Rattle.chord_tree_store.proofs.shelf.copy_among.Goals as goal
use Rattle.chord_tree_store.proofs.shelf.copy_among.Goals.{then-is_touched+in_ok-copy_inside, else-is_touched}

pub loop-place-init : goal.loop-place-init
unfolding IsDistinct
loop-place-init c = record { copied = c.new-copies.ensures.items; once = tt }

pub returns-in_err-copy_inside-clause-none : goal.returns-in_err-copy_inside-clause-none
returns-in_err-copy_inside-clause-none c = λ none.
    let once = once_more c.args.shards.now c.requires.in_place c.loop-place.place c.loop-place-test.true c.loop-place.invariant.once c.is_touched.ensures.once in
    absurd (true≢false (sym (c.in_err-copy_inside.ensures.none
    (none_before c.args.span.now c.args.shards.now c.requires.placed c.loop-place.place c.loop-place-test.true once none c.index-shards-place.result))))

pub loop-place-preserved : goal.loop-place-preserved
loop-place-preserved c =
    let shards = c.args.shards.now in
    let place = c.loop-place.place in
    let span = c.args.span.now in
    let once = once_more shards c.requires.in_place place c.loop-place-test.true c.loop-place.invariant.once c.is_touched.ensures.once in
    elim c.if-is_touched.branch [
      | then-is_touched+in_ok-copy_inside w ↦ record {
        copied = ap (λ (v : Vec Pair Global). v.items) w.copies-is ∙ w.in_ok-copy_inside.ensures.copies
            ∙ ap (λ (ps : List Pair). ps ++ pairs_of_slots (entries_inside span (slice_index_or shards place w.index-shards-place.result).slots.entries)) c.loop-place.invariant.copied
            ∙ sym (before-more span shards place w.index-shards-place.result c.loop-place-test.true);
        once = once;
      }
      | else-is_touched w ↦ record {
        copied = ap (λ (v : Vec Pair Global). v.items) w.copies-is ∙ c.loop-place.invariant.copied
            ∙ sym (before_idle span shards place c.loop-place-test.true (λ d. c.is_touched.ensures.apart d w.if-is_touched.false));
        once = once;
      }
    ]

pub returns-clause-copies : goal.returns-clause-copies
returns-clause-copies c =
    subst (AreCopies (pairs_inside c.args.span.now (pairs_in (slots_of c.args.shards.now)))) (sym c.loop-place.invariant.copied) (before_all c.args.span.now c.args.shards.now c.requires.placed c.loop-place.place c.loop-place-test.false c.loop-place.invariant.once)
