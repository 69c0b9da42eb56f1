use Rattle.std.proofs.lemmas.Slice.Eq.{slice_eq-Decides}
use Rattle.chord_handover.proofs.PayloadRules.{pairs_same}
use Rattle.chord_handover.proofs.part.same_pairs.Goals as goal

pub returns : goal.returns
returns c = slice_eq-Decides pairs_same c.args.first.now c.args.second.now c.eq.result c.eq.ensures
