use Rattle.std.proofs.Common.{◌<◌, ◌∙◌, List, length, subst, sym, refl, ap, arith, take}
use Rattle.std.proofs.lemmas.List.{take_all, length-take}
use Rattle.chord_map.specs.declared.pair.Pair.{Pair}
use Rattle.chord_map.specs.Map.{insert_pair, put_all}
use Rattle.chord_store.specs.Inside.{pairs_outside}
use Rattle.chord_store.proofs.Few.{count_at, room_for}
use Rattle.chord_store.proofs.Puts.{put_all-more, length-put_all_le, undo}
use Rattle.chord_tree_store.proofs.tree_store.put_all_new.Goals as goal

pub loop-pair-init : goal.loop-pair-init
unfolding put_all
loop-pair-init c = refl

pub put-requires-clause-room : goal.put-requires-clause-room
put-requires-clause-room c =
    let more = c.args.pairs.now in
    let now = ap (λ (ps : List Pair). length ps) c.loop-pair.invariant in
    omega (arith, now, length-put_all_le (take c.loop-pair.pair-index more) c.args.slots.now, length-take c.loop-pair.pair-index more, c.loop-pair-test.true)

pub put-requires-clause-few : goal.put-requires-clause-few
put-requires-clause-few c =
    subst (λ (ps : List Pair). count_at c.pair-item.result.key ps < 1000) (sym c.loop-pair.invariant)
    (room_for c.args.span.now c.args.pairs.now c.args.slots.now c.loop-pair.pair-index c.pair-item.result c.requires.vacant c.requires.within c.requires.few c.loop-pair-test.true c.pair-item.is)

pub loop-pair-preserved : goal.loop-pair-preserved
loop-pair-preserved c =
    let more = c.args.pairs.now in
    let old = c.args.slots.now in
    let item : Pair = c.pair-item.result in
    let front : List Pair = take c.loop-pair.pair-index more in
    c.in-Ok.ensures.ok ∙ ap (insert_pair item) c.loop-pair.invariant ∙ ap (λ (p : Pair). insert_pair p (put_all front old)) c.pair-item.is
    ∙ sym (put_all-more more c.loop-pair.pair-index item old c.loop-pair-test.true)

pub returns-in-Err : goal.returns-in-Err
returns-in-Err c = (
  omega arith,
  c.take_out.ensures ∙ ap (pairs_outside c.args.span.now) (c.in-Err.ensures.err ∙ c.loop-pair.invariant)
      ∙ undo c.args.span.now c.args.pairs.now c.args.slots.now c.loop-pair.pair-index c.requires.vacant c.requires.within,
)

pub returns : goal.returns
returns c =
    (omega arith, c.loop-pair.invariant ∙ ap (λ (ps : List Pair). put_all ps c.args.slots.now) (take_all c.loop-pair.pair-index c.args.pairs.now c.loop-pair-test.false))
