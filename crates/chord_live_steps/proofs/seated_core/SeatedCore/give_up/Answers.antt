use Rattle.std.proofs.Common.{rules, ◌≡◌, true, refl, sym, ap, ◌∙◌, subst}
use Rattle.chord_caller.specs.Answers.{is_pending}
use Rattle.chord_caller.specs.Caller.{with_given_up}
use Rattle.chord_caller.proofs.Steps.{give_up_steps}
use Rattle.chord_table.specs.Views.{CallerSight}
use Rattle.chord_live_steps.proofs.seated_core.SeatedCore.give_up.Goals as goal

pub give_up-requires : goal.give_up-requires
give_up-requires g c caller core =
    let yes : c.is_pending.result ≡ true = search rules in
    sym (c.is_pending.ensures caller core) ∙ yes

pub give_up-requires-2 : goal.give_up-requires-2
give_up-requires-2 g c =
    let caller = c.self.inside.seat.caller in
    let yes : c.is_pending.result ≡ true = search rules in
    record { event = give_up_steps c.args.number caller (with_given_up c.args.number caller) (sym (c.is_pending.ensures caller c.self.invariant) ∙ yes) refl }

pub invariant_of-self : goal.invariant_of-self
invariant_of-self g c =
    let caller = c.self.inside.seat.caller in
    subst (λ (s : CallerSight). g.C.AskingCore.is_core_of c.give_up.new.self s.caller) (sym c.give_up-2.ensures) (c.give_up.ensures caller c.self.invariant)

pub returns : goal.returns
returns g c =
    let caller = c.self.inside.seat.caller in
    let yes : c.is_pending.result ≡ true = search rules in
    let pending : is_pending c.args.number caller ≡ true = sym (c.is_pending.ensures caller c.self.invariant) ∙ yes in (
      subst (λ (s : CallerSight). is_pending c.args.number s.caller ≡ true) c.self.view_is pending,
      c.give_up-2.ensures ∙ ap (λ (s : CallerSight). record s { caller = with_given_up c.args.number s.caller }) c.self.view_is,
    )
