use Rattle.chord_world.proofs.Keeping.{new_is_world}
use Rattle.chord_world.proofs.world.World.new.Goals as goal

pub invariant_of-result : goal.invariant_of-result
invariant_of-result g c =
    rw (c.new.ensures.items, c.new-2.ensures.items, c.new-3.ensures.items, c.new-4.ensures.items, c.new-5.ensures) (new_is_world c.args.r c.requires.low c.requires.high)
