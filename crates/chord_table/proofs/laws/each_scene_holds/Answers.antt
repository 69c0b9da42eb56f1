use Rattle.chord_table.proofs.Telling.{scene_holds}
use Rattle.chord_table.proofs.laws.each_scene_holds.Goals as goal

pub returns : goal.returns
returns c =
    scene_holds c.headline.ensures c.principals_stand_on_one_ring.ensures.safe c.principals_stand_on_one_ring.ensures.one_ring
