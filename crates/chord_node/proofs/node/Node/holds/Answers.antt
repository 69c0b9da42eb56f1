use Rattle.std.proofs.Common.{ap, ◌∙◌}
use Rattle.std.specs.Prelude.{position, is_some}
use Rattle.chord_node.proofs.Asking.{has, holds_at}
use Rattle.chord_model.specs.Node.{Node, segment_with}
use Rattle.chord_node.proofs.node.Node.holds.Goals as goal

pub returns : goal.returns
returns g c =
    let at = c.place_with.ensures ∙ ap (position (has c.args.x.number)) c.deref.ensures.value in
    c.is_some.ensures ∙ ap is_some at ∙ holds_at c.args.x.number c.self.inside.held.items ∙ ap (λ (n : Node). is_some (segment_with c.args.x.number n.held)) c.self.view_is
