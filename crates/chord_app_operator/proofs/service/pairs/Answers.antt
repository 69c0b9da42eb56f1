use Rattle.chord_app_operator.specs.Services.{ShowsPairs}
use Rattle.chord_app_operator.proofs.Shown.{shown_or_full}
use Rattle.chord_app_operator.proofs.service.pairs.Goals as goal

pub returns : goal.returns
returns g c = (
  c.pairs-told.result,
  c.pairs-told.ensures,
  shown_or_full c.show_told_pairs-shown.result (ShowsPairs c.args.format c.pairs-told.result) c.show_told_pairs-shown.new.response c.or_full.new.response c.show_told_pairs-shown.ensures c.or_full.ensures.ok c.or_full.ensures.err,
)
