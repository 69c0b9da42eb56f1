use Rattle.chord_table.proofs.WholeRing.{ring_told, principals_told}
use Rattle.chord_table.proofs.registrar.Registrar.look_ring.Goals as goal

pub returns-clause-shown : goal.returns-clause-shown
returns-clause-shown g c =
    ring_told c.args.self.now c.see.ensures.seen c.each_scene_holds.ensures c.requires.whole c.requires.some

pub returns-clause-principals : goal.returns-clause-principals
returns-clause-principals g c = principals_told c.args.self.now c.see.ensures.seen c.requires.whole
