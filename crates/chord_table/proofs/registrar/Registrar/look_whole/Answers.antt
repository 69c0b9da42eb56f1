use Rattle.chord_table.proofs.Whole.{whole_told}
use Rattle.chord_table.proofs.registrar.Registrar.look_whole.Goals as goal

pub returns-clause-shown : goal.returns-clause-shown
returns-clause-shown g c = whole_told _ c.look.ensures.shown c.requires.whole
