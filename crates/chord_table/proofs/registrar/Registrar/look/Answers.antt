use Rattle.chord_table.proofs.Whole.{assembly_told}
use Rattle.chord_table.proofs.registrar.Registrar.look.Goals as goal

pub returns-clause-shown : goal.returns-clause-shown
returns-clause-shown g c = assembly_told c.args.self.now c.see.ensures.seen c.each_scene_holds.ensures
