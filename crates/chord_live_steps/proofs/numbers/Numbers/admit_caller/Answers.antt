use Rattle.std.proofs.Common.{ap, sym, refl, ◌∙◌, length}
use Rattle.chord_live_steps.proofs.Counting.{open_may, caller_registered}
use Rattle.chord_table.specs.Views.{Assembled, nodes_among}
use Rattle.chord_live_steps.proofs.numbers.Numbers.admit_caller.Goals as goal

pub admit_caller-seat-requires-clause-may : goal.admit_caller-seat-requires-clause-may
admit_caller-seat-requires-clause-may g c =
    open_may c.self.inside.registrar.register.callers c.self.inside.callers c.args.window c.new-core.result c.self.invariant.2.callers_are c.requires.some c.requires.small c.new-core.ensures

pub invariant_of-self : goal.invariant_of-self
invariant_of-self g c =
    let i = c.self.invariant in
    let admitted = c.admit_caller-seat.ensures.admitted in
    let held = i.0 ∙ ap (λ (a : Assembled). length (nodes_among a.taken)) (sym admitted) in
    (held, i.1, caller_registered c.self.inside.registrar.register _ c.self.inside.callers c.self.inside.callers c.self.inside.ids.items c.self.inside.premise i.2 refl (ap (λ (a : Assembled). a.register) admitted))
