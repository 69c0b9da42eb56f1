use Rattle.std.proofs.Common.{string_bytes, codes}
use Rattle.chord_app_operator.specs.Metrics.{whole_label}
use Rattle.chord_app_operator.proofs.Lines.{pushed}
use Rattle.chord_app_operator.proofs.show.metrics.add_whole_label.Goals as goal

pub returns : goal.returns
unfolding whole_label
returns c = pushed _ c.push_str.result (string_bytes c.args.text.now) (string_bytes c.push_str.new.self) c.push_str.ensures.bytes
