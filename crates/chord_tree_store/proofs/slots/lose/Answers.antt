use Rattle.std.proofs.Common.{sym, ◌∙◌}
use Rattle.chord_tree_store.proofs.Placing.{had, removes, removes_placed}
use Rattle.chord_tree_store.proofs.slots.lose.Goals as goal

pub returns : goal.returns
returns c = record {
  placed = removes_placed c.args.shelf.now c.lose.new.self c.requires.placed c.args.id c.lose.ensures.others c.args.key.now c.args.value.now c.requires.id c.lose.ensures.here;
  was_there = c.lose.ensures.was_there ∙ sym (had c.args.shelf.now c.requires.placed c.args.key.now c.args.value.now c.args.id c.requires.id);
  change = removes c.args.shelf.now c.lose.new.self c.requires.placed c.args.id c.lose.ensures.others c.args.key.now c.args.value.now c.requires.id c.lose.ensures.here;
}
