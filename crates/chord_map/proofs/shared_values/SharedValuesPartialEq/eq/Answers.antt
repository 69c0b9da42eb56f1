use Rattle.std.proofs.Common.{◌∙◌}
use Rattle.chord_map.specs.Same.{same_values, tells_values}
use Rattle.chord_map.proofs.shared_values.SharedValuesPartialEq.eq.Goals as goal

pub returns-clause-same : goal.returns-clause-same
returns-clause-same c =
    tells_values c.eq.result c.args.self.now c.args.other.now
    (c.eq.ensures ∙ (λ i. same_values (c.as_slice.ensures i) (c.as_slice-2.ensures i)))
