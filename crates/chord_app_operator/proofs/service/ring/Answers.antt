use Rattle.chord_app_operator.specs.Services.{ShowsRing}
use Rattle.chord_app_operator.proofs.Shown.{shown_or_full}
use Rattle.chord_app_operator.proofs.service.ring.Goals as goal

pub returns : goal.returns
returns g c = (
  c.sight-told.result,
  c.sight-told.ensures,
  c.with_rows-kept.result,
  c.with_rows-kept.ensures,
  shown_or_full c.show_told_ring-shown.result (ShowsRing c.args.format c.with_rows-kept.result) c.show_told_ring-shown.new.response c.or_full.new.response c.show_told_ring-shown.ensures c.or_full.ensures.ok c.or_full.ensures.err,
)
