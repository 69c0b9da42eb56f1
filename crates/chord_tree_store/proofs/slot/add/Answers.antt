use Rattle.std.proofs.Common.{sym, ◌∙◌, arith}
use Rattle.chord_map.specs.declared.request.Request.TheVariants.{Insert}
use Rattle.chord_map.specs.declared.reply.Reply.TheVariants as reply
use Rattle.chord_map.proofs.MapLemmas.{pair_of}
use Rattle.chord_map.proofs.Replies.{after_reply, due_present, due_full, due_added}
use Rattle.chord_tree_store.proofs.Added.{refused_add}
use Rattle.chord_tree_store.proofs.slot.add.Goals as goal

pub returns-then-contains : goal.returns-then-contains
returns-then-contains c =
    let due = due_present c.args.key.now c.args.value.now c.args.list.now (sym c.contains.ensures ∙ c.if-contains.true) in
    (due, sym (after_reply (Insert c.args.key.now c.args.value.now) reply.Present c.args.list.now due))

pub returns-then-count_under-ge-SET_VALUES : goal.returns-then-count_under-ge-SET_VALUES
returns-then-count_under-ge-SET_VALUES c =
    let due = due_full c.args.key.now c.args.value.now c.args.list.now (sym c.contains.ensures ∙ c.if-contains.false) (omega arith) in
    (due, sym (after_reply (Insert c.args.key.now c.args.value.now) reply.SetFull c.args.list.now due))

pub returns-in_err-insert : goal.returns-in_err-insert
returns-in_err-insert c =
    refused_add (pair_of c.args.key.now c.args.value.now) c.args.list.now c.insert.new.self _ c.from_residual.result c.from_residual.ensures.1
    (due_added c.args.key.now c.args.value.now c.args.list.now (sym c.contains.ensures ∙ c.if-contains.false) (omega arith)) c.in_err-insert.ensures.err

pub returns : goal.returns
returns c =
    let due = due_added c.args.key.now c.args.value.now c.args.list.now (sym c.contains.ensures ∙ c.if-contains.false) (omega arith) in
    (due, c.in_ok-insert.ensures.ok ∙ sym (after_reply (Insert c.args.key.now c.args.value.now) reply.Added c.args.list.now due))
