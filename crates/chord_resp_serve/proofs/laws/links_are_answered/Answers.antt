use Rattle.chord_resp_serve.proofs.Links.{ended_answered, lost_answered}
use Rattle.chord_resp_serve.proofs.laws.links_are_answered.Goals as goal

pub returns-clause-ended : goal.returns-clause-ended
returns-clause-ended g c first last from end input output fresh stands = ended_answered g.A.Asker.answers g.I.Informs.tells from first fresh end last input output stands

pub returns-clause-lost : goal.returns-clause-lost
returns-clause-lost g c first last from stage input sent due fresh stands = lost_answered g.A.Asker.answers g.I.Informs.tells from first fresh stage last input sent due stands
