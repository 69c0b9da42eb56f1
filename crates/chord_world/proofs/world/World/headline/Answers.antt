use Rattle.std.proofs.Common.{subst}
use Rattle.chord_model.specs.World.{Reached}
use Rattle.chord_world.specs.State.{WorldState}
use Rattle.chord_world.proofs.world.World.headline.Goals as goal

pub returns-clause-reached : goal.returns-clause-reached
returns-clause-reached g c = subst (λ (w : WorldState). ∥ Reached w.world ∥₁) c.self.view_is c.self.invariant.reached

pub returns-clause-headline : goal.returns-clause-headline
returns-clause-headline g c =
    c.headline.ensures c.args.self.now.world (subst (λ (w : WorldState). ∥ Reached w.world ∥₁) c.self.view_is c.self.invariant.reached)
