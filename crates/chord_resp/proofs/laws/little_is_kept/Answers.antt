use Rattle.chord_resp.proofs.Keeping.{little_kept}
use Rattle.chord_resp.proofs.laws.little_is_kept.Goals as goal

pub returns : goal.returns
returns c = little_kept
