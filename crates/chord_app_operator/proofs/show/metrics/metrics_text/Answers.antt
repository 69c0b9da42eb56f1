use Rattle.std.proofs.Common.{string_bytes}
use Rattle.chord_app_operator.specs.Metrics.{metrics_text}
use Rattle.chord_app_operator.proofs.Lines.{from_nothing}
use Rattle.chord_app_operator.proofs.show.metrics.metrics_text.Goals as goal

pub returns : goal.returns
returns c =
    from_nothing (metrics_text c.args.ring.now) (string_bytes c.new-text.result) (string_bytes c.add_metrics.new.text) c.new-text.ensures.bytes c.in_ok-add_metrics.ensures
