-- The stored links are those of a step, which keeps the ring sound and its principals.
use Rattle.std.proofs.Common.{ap, map}
use Rattle.chord_ident.specs.declared.id.Id.{Id}
use Rattle.chord_ring.specs.State.{RingState}
use Rattle.chord_ring.specs.Steps.{Ring}
use Rattle.chord_ring.proofs.Stepping.{stored}
use Rattle.chord_ring.proofs.ring_core.RingCore.store.Goals as goal

pub invariant_of-self : goal.invariant_of-self
invariant_of-self c =
    let old : Ring = record { ids = map (λ (id : Id). id.number) c.self.inside.ids.items; members = c.self.inside.members.items } in
    (stored old c.args.self.now.ring c.args.number c.args.links c.self.invariant (ap (λ (s : RingState). s.ring) c.self.view_is) c.requires.step).0

pub returns-clause-principals : goal.returns-clause-principals
returns-clause-principals c =
    let old : Ring = record { ids = map (λ (id : Id). id.number) c.self.inside.ids.items; members = c.self.inside.members.items } in
    (stored old c.args.self.now.ring c.args.number c.args.links c.self.invariant (ap (λ (s : RingState). s.ring) c.self.view_is) c.requires.step).1
