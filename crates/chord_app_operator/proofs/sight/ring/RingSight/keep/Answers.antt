use Rattle.std.proofs.Common.{rules}
use Rattle.std.proofs.lemmas.Fn.{filter_same}
use Rattle.chord_app_operator.specs.declared.sight.node.StoredNode.{StoredNode}
use Rattle.chord_app_operator.specs.Rows.{is_shown}
use Rattle.chord_app_operator.proofs.sight.ring.RingSight.keep.Goals as goal

pub returns : goal.returns
returns c = (
  search rules,
  filter_same _ (λ (n : StoredNode). is_shown c.args.rows n.sight.phase) _ (λ x b f called. (search rules, search rules)) _ _ c.retain.ensures.filtered,
)
