use Rattle.chord_resp.proofs.ReadingLaws.{cut}
use Rattle.chord_resp.proofs.laws.cuts_do_not_matter.Goals as goal

pub returns : goal.returns
returns c = cut
