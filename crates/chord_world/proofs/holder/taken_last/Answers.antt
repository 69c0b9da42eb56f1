use Rattle.std.proofs.Common.{Some, None, arith, sym, ◌∙◌}
use Rattle.std.proofs.lemmas.Option.{slice_get_past}
use Rattle.chord_world.proofs.Holders.{taken_at}
use Rattle.chord_world.proofs.Posting.{got}
use Rattle.chord_world.proofs.holder.taken_last.Goals as goal

pub returns-then-to-nodes : goal.returns-then-to-nodes
returns-then-to-nodes g c = taken_at c.args.nodes.now c.args.to c.args.from None c.requires (sym (slice_get_past c.args.nodes.now c.args.to (omega arith)))

pub returns : goal.returns
returns g c =
    c.last_taken.ensures
    ∙ taken_at c.args.nodes.now c.args.to c.args.from (Some c.index-nodes-to.result) c.requires (sym (got c.args.nodes.now c.args.to c.index-nodes-to.result (omega arith) c.index-nodes-to.is))
