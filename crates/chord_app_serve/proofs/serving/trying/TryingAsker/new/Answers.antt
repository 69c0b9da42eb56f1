use Rattle.std.proofs.Common.{ℕ, ap, ◌∙◌, false, arith}
use Rattle.chord_app_serve.proofs.Idle.{idle_begins, idle_floor}
use Rattle.chord_app_serve.specs.Tried.{TrySight, first_trying}
use Rattle.chord_table.specs.Views.{CallerSight}
use Rattle.chord_app_serve.proofs.serving.trying.TryingAsker.new.Goals as goal

pub invariant_of-result : goal.invariant_of-result
invariant_of-result g c =
    let all = idle_floor c.into_caller-caller.result.caller c.into_caller-caller.ensures.idle in
    let floor = c.floor-before.ensures in
    omega (arith, all, floor)

pub returns-clause-first : goal.returns-clause-first
returns-clause-first g c =
    let sight = c.into_caller-caller.result in
    let all = idle_floor sight.caller c.into_caller-caller.ensures.idle in
    ap (λ (before : ℕ). (let asker : TrySight = record { before = before; via = c.args.via; last = 0; waits = false; caller = sight } in asker)) (c.floor-before.ensures ∙ all)
    ∙ ap (λ (by : CallerSight). first_trying by c.args.via) c.into_caller-caller.ensures.same

pub returns-clause-fresh : goal.returns-clause-fresh
returns-clause-fresh g c = idle_begins c.floor-before.result c.into_caller-caller.result c.into_caller-caller.ensures.idle c.floor-before.ensures
