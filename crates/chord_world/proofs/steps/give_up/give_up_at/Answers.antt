use Rattle.chord_world.proofs.Speaking.{pending_at, gave_up_from}
use Rattle.chord_world.proofs.steps.give_up.give_up_at.Goals as goal

pub give_up-requires : goal.give_up-requires
give_up-requires c =
    pending_at c.args.place c.args.number c.args.callers.now.items c.index_mut-core.result.now c.requires.place c.index_mut-core.ensures.value c.requires.can

pub returns : goal.returns
returns c =
    gave_up_from c.args.place c.args.number c.args.callers.now.items c.index_mut-core.result.now c.give_up.new.self c.requires.place c.index_mut-core.ensures.value
    c.requires.can c.give_up.ensures.answer
