use Rattle.std.proofs.Common.{rules}
use Rattle.chord_store.proofs.Cutting.{walk_steps}
use Rattle.chord_store.proofs.cut.after_steps.Goals as goal

pub returns : goal.returns
returns c = walk_steps c.args.after.number c.args.steps c.new.result.number (search rules) c.requires (search rules) c.new.ensures
