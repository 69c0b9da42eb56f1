use Rattle.std.proofs.Common.{◌≡◌, Some, Ok, List, length, refl, ap, subst, ◌∙◌}
use Rattle.std.specs.Prelude.{slice_get}
use Rattle.chord_model.specs.declared.message.Message.TheVariants.{Told as ToldMessage}
use Rattle.chord_world.specs.View.{state_of}
use Rattle.chord_world.specs.State.{WorldState}
use Rattle.chord_world.proofs.Placing.{call_at}
use Rattle.chord_world.specs.Delivering.{HearsAt}
use Rattle.chord_world.specs.Delivered.{TakesMemory}
use Rattle.chord_world.specs.Delivered.TakesMemory.{Told_takes}
use Rattle.chord_caller.specs.Caller.{Caller}
use Rattle.chord_world.proofs.Answering.{place_within, read, sent_here, told_owed, told_to, told_step, told_is_world, told_delivers, heard_is, callers_stay, world_after, step_after, delivers_after}
use Rattle.chord_world.proofs.Acting.{keeps_same}
use Rattle.chord_world.proofs.Keeping.{with_callers}
use Rattle.chord_world.proofs.world.World.deliver_told.Goals as goal

pub hear_at-requires-clause-place : goal.hear_at-requires-clause-place
hear_at-requires-clause-place g c =
    let view : WorldState = state_of c.self.inside in
    let within = place_within c.self.inside.sent.items c.self.inside.sent.items c.args.place _ refl (sent_here view c.args.self.now c.args.place _ c.self.view_is c.requires.told.1) in
    let sent : slice_get view.world.sent c.args.place ≡ Some (ToldMessage c.in-Told.told) = read c.self.inside.sent.items c.self.inside.sent.items c.args.place c.index.result.now _ refl within c.index.ensures c.in-Told.is in
    call_at (length view.world.nodes) (length view.world.callers) view.world.sent c.args.place (ToldMessage c.in-Told.told) c.self.invariant.calls sent

pub hear_at-requires-clause-owed : goal.hear_at-requires-clause-owed
hear_at-requires-clause-owed g c =
    let view : WorldState = state_of c.self.inside in
    let within = place_within c.self.inside.sent.items c.self.inside.sent.items c.args.place _ refl (sent_here view c.args.self.now c.args.place _ c.self.view_is c.requires.told.1) in
    let sent : slice_get view.world.sent c.args.place ≡ Some (ToldMessage c.in-Told.told) = read c.self.inside.sent.items c.self.inside.sent.items c.args.place c.index.result.now _ refl within c.index.ensures c.in-Told.is in
    told_owed c.in-Told.told c.args.place view c.self.invariant (c.headline.ensures view.world c.self.invariant.reached) sent

pub invariant_of-self-2 : goal.invariant_of-self-2
invariant_of-self-2 g c =
    let view : WorldState = state_of c.self.inside in
    let within = place_within c.self.inside.sent.items c.self.inside.sent.items c.args.place _ refl (sent_here view c.args.self.now c.args.place _ c.self.view_is c.requires.told.1) in
    let sent : slice_get view.world.sent c.args.place ≡ Some (ToldMessage c.in-Told.told) = read c.self.inside.sent.items c.self.inside.sent.items c.args.place c.index.result.now _ refl within c.index.ensures c.in-Told.is in
    let did : HearsAt c.in-Told.told.caller c.in-Told.told view.world.callers (Ok c.in-Ok.heard) c.hear_at.new.callers.items = c.in-Ok.ensures in
    let to = told_to c.args.place c.in-Told.told view c.in-Ok.heard c.hear_at.new.callers.items sent did in
    let is = heard_is c.in-Told.told view c.in-Ok.heard c.hear_at.new.callers.items c.self.invariant did in
    world_after view _ _ is (told_is_world c.args.place c.in-Told.told view c.in-Ok.heard did.core did.after c.self.invariant to)

pub returns : goal.returns
returns g c =
    let view : WorldState = state_of c.self.inside in
    let within = place_within c.self.inside.sent.items c.self.inside.sent.items c.args.place _ refl (sent_here view c.args.self.now c.args.place _ c.self.view_is c.requires.told.1) in
    let sent : slice_get view.world.sent c.args.place ≡ Some (ToldMessage c.in-Told.told) = read c.self.inside.sent.items c.self.inside.sent.items c.args.place c.index.result.now _ refl within c.index.ensures c.in-Told.is in
    let did : HearsAt c.in-Told.told.caller c.in-Told.told view.world.callers (Ok c.in-Ok.heard) c.hear_at.new.callers.items = c.in-Ok.ensures in
    let to = told_to c.args.place c.in-Told.told view c.in-Ok.heard c.hear_at.new.callers.items sent did in
    let is = heard_is c.in-Told.told view c.in-Ok.heard c.hear_at.new.callers.items c.self.invariant did in record {
      answer = delivers_after c.args.place c.args.self.now _ _ c.outcome_of_heard.result _ is c.outcome_of_heard.ensures
          (told_delivers c.args.place c.in-Told.told view c.args.self.now c.in-Ok.heard did.core did.after c.self.view_is c.self.invariant to);
      step = step_after view c.args.self.now _ _ c.self.view_is is (told_step c.args.place c.in-Told.told view c.in-Ok.heard did.core did.after c.self.invariant to);
      ring = keeps_same _ c.args.self.now _ c.self.view_is refl refl;
    }

pub returns-in_default-hear_at-clause-answer : goal.returns-in_default-hear_at-clause-answer
returns-in_default-hear_at-clause-answer g c =
    let view : WorldState = state_of c.self.inside in
    let within = place_within c.self.inside.sent.items c.self.inside.sent.items c.args.place _ refl (sent_here view c.args.self.now c.args.place _ c.self.view_is c.requires.told.1) in
    let sent : slice_get view.world.sent c.args.place ≡ Some (ToldMessage c.in-Told.told) = read c.self.inside.sent.items c.self.inside.sent.items c.args.place c.index.result.now _ refl within c.index.ensures c.in-Told.is in (
      subst (TakesMemory c.args.place) c.self.view_is (Told_takes c.in-Told.told sent),
      ap (λ (cs : List Caller). record view { world = record view.world { callers = cs } }) c.in_default-hear_at.ensures ∙ c.self.view_is,
    )

pub returns-in_default-hear_at-clause-ring : goal.returns-in_default-hear_at-clause-ring
returns-in_default-hear_at-clause-ring g c = keeps_same (state_of c.self.inside) c.args.self.now _ c.self.view_is refl refl

pub invariant_of-self : goal.invariant_of-self
invariant_of-self g c = callers_stay (state_of c.self.inside) _ c.in_default-hear_at.ensures c.self.invariant

pub returns-in_default-hear_at-clause-step : goal.returns-in_default-hear_at-clause-step
returns-in_default-hear_at-clause-step g c = ap (λ cs. with_callers cs (state_of c.self.inside)) c.in_default-hear_at.ensures ∙ c.self.view_is
