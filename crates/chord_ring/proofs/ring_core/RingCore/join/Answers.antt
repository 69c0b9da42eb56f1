-- The new node is last, with the links of the step, which keeps the ring sound and its principals.
use Rattle.std.proofs.Common.{List, [], ◌∷◌, ◌++◌, Some, sym, ap, map, refl, subst, arith, length, ◌∙◌}
use Rattle.std.specs.List.{Contains}
use Rattle.std.proofs.lemmas.Bool.{true≢false}
use Rattle.std.proofs.lemmas.List.{map_push, length-map}
use Rattle.chord_ident.specs.declared.id.Id.{Id}
use Rattle.chord_ring.specs.Ring.{Members}
use Rattle.chord_ring.specs.State.{RingState}
use Rattle.chord_ring.specs.Steps.{Ring}
use Rattle.chord_ring.proofs.Stepping.{stored_joined}
use Rattle.chord_ring.proofs.ring_core.RingCore.join.Goals as goal

pub invariant_of-self-2 : goal.invariant_of-self-2
invariant_of-self-2 c =
    let place = λ (id : Id). id.number in
    let old : Ring = record { ids = map place c.self.inside.ids.items; members = c.self.inside.members.items } in
    let new : Ring = record { ids = map place c.push_reserved.new.self.items; members = c.push_reserved-2.new.self.items } in
    (stored_joined old c.args.self.now.ring new c.args.id.number c.args.behind c.len-number.result c.in-Some.pred c.in-Ok.links c.self.invariant (ap (λ (s : RingState). s.ring) c.self.view_is)
    c.in-Some.ensures (omega arith)
    (λ has. true≢false (sym (c.is_used.ensures.number (subst (λ (l : List Id). Contains (map place l) c.args.id.number) (sym c.deref.ensures.value) has)) ∙ c.if-is_used.false))
    (c.in-Ok.ensures.variant.0 refl)
    (omega (arith, c.len-number.ensures, c.deref.ensures.len, ap length c.deref.ensures.value, length-map c.self.inside.ids.items place))
    c.in-Ok.ensures.ok
    (ap (map place) (c.push_reserved.ensures.items ∙ ap (λ (l : List Id). l ++ c.args.id ∷ []) c.reserve.ensures.items) ∙ map_push place c.self.inside.ids.items c.args.id)
    (c.push_reserved-2.ensures.items ∙ ap (λ (l : Members). l ++ Some c.in-Ok.links ∷ []) c.reserve-else-is_err.ensures.items)).1

pub returns-clause-principals : goal.returns-clause-principals
returns-clause-principals c =
    let place = λ (id : Id). id.number in
    let old : Ring = record { ids = map place c.self.inside.ids.items; members = c.self.inside.members.items } in
    let new : Ring = record { ids = map place c.push_reserved.new.self.items; members = c.push_reserved-2.new.self.items } in
    (stored_joined old c.args.self.now.ring new c.args.id.number c.args.behind c.len-number.result c.in-Some.pred c.in-Ok.links c.self.invariant (ap (λ (s : RingState). s.ring) c.self.view_is)
    c.in-Some.ensures (omega arith)
    (λ has. true≢false (sym (c.is_used.ensures.number (subst (λ (l : List Id). Contains (map place l) c.args.id.number) (sym c.deref.ensures.value) has)) ∙ c.if-is_used.false))
    (c.in-Ok.ensures.variant.0 refl)
    (omega (arith, c.len-number.ensures, c.deref.ensures.len, ap length c.deref.ensures.value, length-map c.self.inside.ids.items place))
    c.in-Ok.ensures.ok
    (ap (map place) (c.push_reserved.ensures.items ∙ ap (λ (l : List Id). l ++ c.args.id ∷ []) c.reserve.ensures.items) ∙ map_push place c.self.inside.ids.items c.args.id)
    (c.push_reserved-2.ensures.items ∙ ap (λ (l : Members). l ++ Some c.in-Ok.links ∷ []) c.reserve-else-is_err.ensures.items)).2
