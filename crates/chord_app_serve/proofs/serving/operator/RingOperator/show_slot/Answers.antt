use Rattle.std.proofs.Common.{List, Option, subst, sym}
use Rattle.std.specs.Prelude.{IfSome}
use Rattle.chord_app_operator.specs.declared.sight.node.StoredNode.{StoredNode}
use Rattle.chord_app_serve.proofs.Showing.{shown_more}
use Rattle.chord_app_serve.specs.Shown.{AreShown, IsShownAs, store_of}
use Rattle.chord_app_serve.proofs.serving.operator.RingOperator.show_slot.Goals as goal

pub returns-in_ok-push : goal.returns-in_ok-push
returns-in_ok-push g c =
    let stores = store_of c.args.self.now.desk.now.plan.now in
    let shown : IsShownAs c.in-Some.number (stores c.in-Some.number) c.in-Some-2.node =
    subst (λ (found : Option StoredNode). IfSome found (IsShownAs c.in-Some.number (stores c.in-Some.number))) c.in-Some-2.is c.in_ok-node.ensures in
    subst (λ (nodes : List StoredNode). AreShown stores nodes) (sym c.in_ok-push.ensures.items)
    (shown_more stores c.args.nodes.now.items c.in-Some-2.node c.in-Some.number c.requires shown)
