use Rattle.std.proofs.lemmas.Slice.Eq.{slice_eq-Decides}
use Rattle.chord_segment.proofs.Sameness.{dones_same}
use Rattle.chord_segment.proofs.dones.same_dones.Goals as goal

pub returns : goal.returns
returns c = slice_eq-Decides dones_same c.args.first.now c.args.second.now c.eq.result c.eq.ensures
