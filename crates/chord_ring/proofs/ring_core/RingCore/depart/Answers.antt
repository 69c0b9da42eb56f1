-- A departure after which the others are safe keeps the ring sound.
use Rattle.std.proofs.Common.{◌≡◌, ap, sym, subst, map}
use Rattle.chord_ident.specs.declared.id.Id.{Id}
use Rattle.chord_ring.specs.Ring.{CanDepart, KeepsPrincipals}
use Rattle.chord_ring.specs.State.{RingState}
use Rattle.chord_ring.specs.Steps.{Ring, ring_without}
use Rattle.chord_ring.proofs.Reached.{Kept-departs}
use Rattle.chord_ring.proofs.ring_core.RingCore.depart.Goals as goal

pub invariant_of-self : goal.invariant_of-self
invariant_of-self c =
    let old : Ring = record { ids = map (λ (id : Id). id.number) c.self.inside.ids.items; members = c.self.inside.members.items } in
    (Kept-departs old c.args.number c.self.invariant (subst (λ (ring : Ring). CanDepart ring.members c.args.number) (sym (ap (λ (s : RingState). s.ring) c.self.view_is)) c.requires)).sound

pub returns-clause-principals : goal.returns-clause-principals
returns-clause-principals c =
    let old : Ring = record { ids = map (λ (id : Id). id.number) c.self.inside.ids.items; members = c.self.inside.members.items } in
    let same : old ≡ c.args.self.now.ring = ap (λ (s : RingState). s.ring) c.self.view_is in
    let kept = Kept-departs old c.args.number c.self.invariant (subst (λ (ring : Ring). CanDepart ring.members c.args.number) (sym same) c.requires) in
    subst (λ (ring : Ring). KeepsPrincipals ring.members (ring_without old c.args.number).members) same kept.principals
