use Rattle.chord_serve.proofs.FittingReplies.{replies_fit}
use Rattle.chord_serve.proofs.laws.replies_are_of_their_kind.Goals as goal

pub returns : goal.returns
returns g c a b requests given none whole h = replies_fit g.A.Asker.answers g.A.Asker.asked g.met.A.Asker.notes g.met.A.Asker.kind a requests given b none whole h
