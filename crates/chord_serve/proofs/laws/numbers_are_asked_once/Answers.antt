use Rattle.chord_serve.proofs.AskedOnce.{numbers_asked, requests_asked}
use Rattle.chord_serve.proofs.laws.numbers_are_asked_once.Goals as goal

pub returns-clause-numbers : goal.returns-clause-numbers
returns-clause-numbers g c a b s requests given each h = numbers_asked g.A.Asker.answers requests s given a b each h

pub returns-clause-asked : goal.returns-clause-asked
returns-clause-asked g c a b asks given h = requests_asked g.A.Asker.answers g.A.Asker.asked g.met.A.Asker.notes asks given a b h
