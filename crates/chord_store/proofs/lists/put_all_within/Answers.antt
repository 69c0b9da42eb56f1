use Rattle.std.proofs.Common.{◌≡◌, ◌<◌, ◌∙◌, List, subst, sym, refl, ap, ap₂, arith, take}
use Rattle.std.proofs.lemmas.List.{take_all}
use Rattle.chord_map.specs.declared.pair.Pair.{Pair}
use Rattle.chord_map.specs.Map.{insert_pair, put_all}
use Rattle.chord_map.proofs.MapLemmas.{pair_of}
use Rattle.chord_store.specs.Inside.{pairs_outside}
use Rattle.chord_store.specs.Store.{HasFew}
use Rattle.chord_store.proofs.Few.{count_at, few-insert, room_for}
use Rattle.chord_store.proofs.Puts.{put_all-more, undo}
use Rattle.chord_store.proofs.lists.put_all_within.Goals as goal

pub loop-pair-init : goal.loop-pair-init
unfolding put_all
loop-pair-init c = record { put = refl; few = c.requires.few_there }

pub loop-pair-preserved : goal.loop-pair-preserved
loop-pair-preserved c =
    let more = c.args.pairs.now in
    let old = c.args.list.now in
    let item : Pair = c.pair-item.result in
    let front : List Pair = take c.loop-pair.pair-index more in
    let added : c.insert.new.self ≡ insert_pair item c.loop-pair.list = c.in-Ok.ensures.ok ∙ ap (λ (p : Pair). insert_pair p c.loop-pair.list) (ap₂ pair_of c.as_slice.ensures c.as_slice-in-loop-pair.ensures) in
    let room = subst (λ (ps : List Pair). count_at item.key ps < 1000) (sym c.loop-pair.invariant.put)
    (room_for c.args.span.now more old c.loop-pair.pair-index item c.requires.vacant c.requires.within c.requires.few c.loop-pair-test.true c.pair-item.is) in
    record {
      few = subst HasFew (sym added) (few-insert item c.loop-pair.list c.loop-pair.invariant.few room);
      put = added ∙ ap (insert_pair item) c.loop-pair.invariant.put ∙ ap (λ (p : Pair). insert_pair p (put_all front old)) c.pair-item.is
          ∙ sym (put_all-more more c.loop-pair.pair-index item old c.loop-pair-test.true);
    }

pub returns-in-Err-clause-answer : goal.returns-in-Err-clause-answer
returns-in-Err-clause-answer c =
    let old = c.args.list.now in (
      omega arith,
      c.take_out.ensures.change ∙ ap (pairs_outside c.args.span.now) (c.in-Err.ensures.err ∙ c.loop-pair.invariant.put)
          ∙ undo c.args.span.now c.args.pairs.now old c.loop-pair.pair-index c.requires.vacant c.requires.within,
    )

pub returns-clause-answer : goal.returns-clause-answer
returns-clause-answer c =
    (omega arith, c.loop-pair.invariant.put ∙ ap (λ (ps : List Pair). put_all ps c.args.list.now) (take_all c.loop-pair.pair-index c.args.pairs.now c.loop-pair-test.false))

pub returns-in-Err-clause-few : goal.returns-in-Err-clause-few
returns-in-Err-clause-few c = c.take_out.ensures.few (subst HasFew (sym c.in-Err.ensures.err) c.loop-pair.invariant.few)
