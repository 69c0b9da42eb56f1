use Rattle.std.proofs.Common.{append_assoc}
use Rattle.chord_app_ring.proofs.dumping.lost_words.Goals as goal

pub returns : goal.returns
returns c = simp append_assoc (search (c.format.ensures.ok))
