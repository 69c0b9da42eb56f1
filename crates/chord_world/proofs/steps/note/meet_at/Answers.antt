use Rattle.chord_world.proofs.Speaking.{meets_from}
use Rattle.chord_world.proofs.steps.note.meet_at.Goals as goal

pub returns : goal.returns
returns c =
    meets_from c.args.place c.args.note.now c.args.callers.now.items c.index_mut-core.result.now c.meet.new.self c.meet.result c.requires c.index_mut-core.ensures.value c.meet.ensures.ok c.meet.ensures.err
