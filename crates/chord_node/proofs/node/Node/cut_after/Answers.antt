use Rattle.std.proofs.Common.{sym, ap, ◌∙◌}
use Rattle.chord_model.specs.Node.{Node}
use Rattle.chord_node.specs.View.{entries_in}
use Rattle.chord_node.proofs.Paging.{fewer_of_none}
use Rattle.chord_node.proofs.node.Node.cut_after.Goals as goal

pub returns-in-None : goal.returns-in-None
returns-in-None g c =
    fewer_of_none c.args.span.now c.args.n _
    (ap (entries_in g.S.EntryStore.content) (sym c.in-None.is) ∙ ap (λ (n : Node). n.entries) c.self.view_is)
    c.requires
