use Rattle.std.proofs.Common.{◌≡◌, [], Ok, List, refl, ap, subst, rules, arith}
use Rattle.std.proofs.lemmas.Bool.Decides.{nat_tests}
use Rattle.chord_model.specs.declared.phase.Phase.TheVariants.{Leaving}
use Rattle.chord_model.specs.Stock.{IsStocked}
use Rattle.chord_node.specs.View.{segments_of, entries_in}
use Rattle.chord_node.proofs.Moving.{nil_by, retired, retire_steps}
use Rattle.chord_model.proofs.Stocking.{stocked_none, nothing_stocked}
use Rattle.chord_segment.specs.Segment.{Segment}
use Rattle.chord_node.proofs.node.Node.retire.Goals as goal

pub invariant_of-self : goal.invariant_of-self
invariant_of-self g c =
    let none : c.self.inside.held.items ≡ [] = nil_by c.self.inside.held.items (grind (arith, nat_tests)) in
    let gives : c.self.inside.outbox.outbox.items ≡ [] = search rules in
    record { stocked = stocked_none _; stored = (refl, ap segments_of none, gives); own = c.self.invariant.own }

pub returns-clause-answer : goal.returns-clause-answer
returns-clause-answer g c =
    let leaving : c.self.inside.phase ≡ Leaving = search rules in
    let none : c.self.inside.held.items ≡ [] = nil_by c.self.inside.held.items (grind (arith, nat_tests)) in
    let gives : c.self.inside.outbox.outbox.items ≡ [] = search rules in
    let entries = nothing_stocked (entries_in g.S.EntryStore.content c.self.inside.store) (subst (λ (held : List Segment). IsStocked held (entries_in g.S.EntryStore.content c.self.inside.store)) (ap segments_of none) c.self.invariant.stocked) in
    retired _ c.args.self.now c.self.view_is c.forget_buffered.new.self.taken leaving (ap segments_of none) gives entries c.forget_buffered.ensures

pub returns-clause-step : goal.returns-clause-step
returns-clause-step g c = retire_steps c.args.self.now (Ok tt) _ (returns-clause-answer g c)
