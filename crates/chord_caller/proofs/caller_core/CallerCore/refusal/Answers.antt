use Rattle.std.proofs.Common.{rules, length, refl, arith}
use Rattle.chord_map.specs.Checked.{IsRequest}
use Rattle.chord_caller.proofs.Views.{Shows, shows}
use Rattle.chord_caller.proofs.caller_core.CallerCore.refusal.Goals as goal

pub returns-then-self-last : goal.returns-then-self-last
returns-then-self-last c =
    let core = c.self.inside in
    let s : Shows core.number core.window core.floor (length core.submitted.items) c.args.self.now =
    shows core.number core.window core.floor core.submitted.items core.mine.items core.told.items c.args.self.now c.self.view_is c.self.invariant.tied c.self.invariant.floor_is in
    let request : IsRequest c.args.request.now = search rules in
    ((request, omega arith, refl), λ e. cc)

pub returns : goal.returns
returns c =
    let core = c.self.inside in
    let s : Shows core.number core.window core.floor (length core.submitted.items) c.args.self.now =
    shows core.number core.window core.floor core.submitted.items core.mine.items core.told.items c.args.self.now c.self.view_is c.self.invariant.tied c.self.invariant.floor_is in
    let request : IsRequest c.args.request.now = search rules in
    (request, omega arith, omega arith, refl)
