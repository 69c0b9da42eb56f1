use Rattle.std.proofs.Common.{◌∙◌, subst, sym, refl, arith}
use Rattle.chord_map.specs.declared.pair.Pair.{Pair}
use Rattle.chord_map.proofs.Replies.{due_present, due_full, due_added}
use Rattle.chord_store.specs.declared.outcome.Inserted.TheVariants.{Added, Present, SetFull}
use Rattle.chord_store.specs.Store.{HasFew}
use Rattle.chord_store.proofs.Few.{few-insert}
use Rattle.chord_store.proofs.Puts.{did_is}
use Rattle.chord_store.proofs.lists.insert_within.Goals as goal

pub returns-then-contains-clause-answer : goal.returns-then-contains-clause-answer
returns-then-contains-clause-answer c =
    let pair : Pair = record { key = c.args.key.now; value = c.args.value.now } in
    did_is pair c.args.pairs.now c.args.pairs.now c.args.limit Present
    (due_present pair.key pair.value c.args.pairs.now (sym c.contains.ensures ∙ c.if-contains.true)) (λ e. cc) refl

pub returns-then-count_under-ge-SET_VALUES-clause-answer : goal.returns-then-count_under-ge-SET_VALUES-clause-answer
returns-then-count_under-ge-SET_VALUES-clause-answer c =
    let pair : Pair = record { key = c.args.key.now; value = c.args.value.now } in
    did_is pair c.args.pairs.now c.args.pairs.now c.args.limit SetFull
    (due_full pair.key pair.value c.args.pairs.now (sym c.contains.ensures ∙ c.if-contains.false) (let counted = rw c.as_slice.ensures.pairs at c.count_under.ensures in omega (arith, counted))) (λ e. cc) refl

pub returns-then-limit-len-clause-answer : goal.returns-then-limit-len-clause-answer
returns-then-limit-len-clause-answer c =
    (due_added c.args.key.now c.args.value.now c.args.pairs.now (sym c.contains.ensures ∙ c.if-contains.false) (let counted = rw c.as_slice.ensures.pairs at c.count_under.ensures in omega (arith, counted)), omega arith, refl)

pub returns-in-Ok-clause-answer : goal.returns-in-Ok-clause-answer
returns-in-Ok-clause-answer c =
    let pair : Pair = record { key = c.args.key.now; value = c.args.value.now } in
    did_is pair c.args.pairs.now c.insert.new.self c.args.limit Added
    (due_added pair.key pair.value c.args.pairs.now (sym c.contains.ensures ∙ c.if-contains.false) (let counted = rw c.as_slice.ensures.pairs at c.count_under.ensures in omega (arith, counted))) (λ e. omega arith) c.in-Ok.ensures.ok

pub returns-in-Err-clause-answer : goal.returns-in-Err-clause-answer
returns-in-Err-clause-answer c =
    (due_added c.args.key.now c.args.value.now c.args.pairs.now (sym c.contains.ensures ∙ c.if-contains.false) (let counted = rw c.as_slice.ensures.pairs at c.count_under.ensures in omega (arith, counted)), omega arith, c.in-Err.ensures.err)

pub returns-in-Ok-clause-few : goal.returns-in-Ok-clause-few
returns-in-Ok-clause-few c =
    let pair : Pair = record { key = c.args.key.now; value = c.args.value.now } in
    let counted = rw c.as_slice.ensures.pairs at c.count_under.ensures in
    subst HasFew (sym c.in-Ok.ensures.ok) (few-insert pair c.args.pairs.now c.requires.few (omega (arith, counted)))
