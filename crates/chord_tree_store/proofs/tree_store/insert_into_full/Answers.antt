use Rattle.std.proofs.Common.{◌∙◌, sym, refl, arith, ◌-◌, ◌^◌}
use Rattle.chord_map.specs.declared.pair.Pair.{Pair}
use Rattle.chord_map.proofs.Replies.{due_present, due_full, due_added}
use Rattle.chord_store.specs.declared.outcome.Inserted.TheVariants.{Present, SetFull}
use Rattle.chord_store.proofs.Puts.{did_is}
use Rattle.chord_tree_store.proofs.tree_store.insert_into_full.Goals as goal

pub returns-then-contains : goal.returns-then-contains
returns-then-contains c =
    let pair : Pair = record { key = c.args.key.now; value = c.args.value.now } in
    did_is pair c.args.slots.now c.args.slots.now (2 ^ 64 - 1) Present
    (due_present pair.key pair.value c.args.slots.now (sym c.contains.ensures ∙ c.if-contains.true)) (λ e. cc) refl

pub returns-then-count_under-ge-SET_VALUES : goal.returns-then-count_under-ge-SET_VALUES
returns-then-count_under-ge-SET_VALUES c =
    let pair : Pair = record { key = c.args.key.now; value = c.args.value.now } in
    did_is pair c.args.slots.now c.args.slots.now (2 ^ 64 - 1) SetFull
    (due_full pair.key pair.value c.args.slots.now (sym c.contains.ensures ∙ c.if-contains.false) (omega arith)) (λ e. cc) refl

pub returns : goal.returns
returns c =
    (due_added c.args.key.now c.args.value.now c.args.slots.now (sym c.contains.ensures ∙ c.if-contains.false) (omega arith), omega arith, refl)
