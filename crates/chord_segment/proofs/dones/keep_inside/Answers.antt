use Rattle.std.proofs.Common.{rules}
use Rattle.std.proofs.lemmas.Fn.{filter_same}
use Rattle.chord_ident.specs.Circle.{in_span}
use Rattle.chord_map.specs.declared.done.Done.{Done}
use Rattle.chord_segment.specs.Segment.{id_of, dones_inside}
use Rattle.chord_segment.proofs.dones.keep_inside.Goals as goal

pub returns : goal.returns
unfolding dones_inside
returns c = filter_same _ (λ (d : Done). in_span c.args.span (id_of d.request)) _ (λ x b f called. (search rules, search rules)) _ _ c.retain.ensures.filtered
