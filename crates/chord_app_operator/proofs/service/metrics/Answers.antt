use Rattle.chord_app_operator.specs.Services.{ShowsMetrics}
use Rattle.chord_app_operator.proofs.Shown.{shown_or_full}
use Rattle.chord_app_operator.proofs.service.metrics.Goals as goal

pub returns : goal.returns
returns g c = (
  c.sight-told.result,
  c.sight-told.ensures,
  shown_or_full c.show_told_metrics-shown.result (ShowsMetrics c.args.format c.sight-told.result) c.show_told_metrics-shown.new.response c.or_full.new.response c.show_told_metrics-shown.ensures c.or_full.ensures.ok c.or_full.ensures.err,
)
