use Rattle.std.proofs.Common.{sym, ap, ◌∙◌}
use Rattle.chord_caller.specs.Caller.{floor_of}
use Rattle.chord_caller.proofs.Floors.{floor_of_is}
use Rattle.chord_caller.proofs.caller_core.CallerCore.floor.Goals as goal

pub returns : goal.returns
returns c =
    let core = c.self.inside in
    sym (floor_of_is core.number core.window core.floor core.submitted.items core.mine.items core.told.items c.self.invariant.tied c.self.invariant.floor_is)
    ∙ ap floor_of c.self.view_is
