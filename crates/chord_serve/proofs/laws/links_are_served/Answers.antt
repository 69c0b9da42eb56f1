use Rattle.chord_serve.proofs.Framings.{ended_parts, lost_parts}
use Rattle.chord_serve.proofs.laws.links_are_served.Goals as goal

pub returns-clause-ended : goal.returns-clause-ended
returns-clause-ended g c first last end input output going stands = ended_parts g.A.Asker.answers end first last input output going stands

pub returns-clause-lost : goal.returns-clause-lost
returns-clause-lost g c first last stage input sent due going stands = lost_parts g.A.Asker.answers stage first last input sent due going stands
