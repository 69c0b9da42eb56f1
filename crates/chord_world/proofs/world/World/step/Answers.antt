use Rattle.std.proofs.Common.{◌≡◌, [], map, sym, subst}
use Rattle.chord_world.specs.declared.step.Step.{Step}
use Rattle.chord_world.specs.Steps.{StepIs}
use Rattle.chord_world.proofs.RunLemmas.{vacant_left}
use Rattle.chord_world.proofs.world.World.step.Goals as goal

pub returns-in-Join-clause-vacant : goal.returns-in-Join-clause-vacant
returns-in-Join-clause-vacant g c =
    vacant_left (λ (s : g.row.S.Denot). g.S.EntryStore.content s ≡ []) c.join.result c.args.stores.now.items _ c.join.ensures.stores c.requires

pub returns-in-Resend-clause-answer : goal.returns-in-Resend-clause-answer
returns-in-Resend-clause-answer g c =
    subst (λ (step : Step). StepIs step (map g.S.EntryStore.limit c.args.stores.now.items) c.args.self.now c.resend.result c.resend.new.self) (sym c.in-Resend.is) c.resend.ensures.answer
