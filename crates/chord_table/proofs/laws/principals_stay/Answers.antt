use Rattle.std.proofs.Common.{◌≡◌, ℕ, ◌⊎◌, inl, inr}
use Rattle.chord_ring.specs.declared.ring_step.RingStep.{RingStep}
use Rattle.chord_ring.specs.Ring.{CanDepart, KeepsPrincipals}
use Rattle.chord_ring.specs.Steps.{Ring, Step, IsReached, ring_without}
use Rattle.chord_table.proofs.Rings.{lived_ring, no_member, no_step, no_departure}
use Rattle.chord_table.specs.Scenes.{RingEffect, no_ring}
use Rattle.chord_table.proofs.laws.principals_stay.Goals as goal

effect_keeps : (old new : Ring) → (old ≡ no_ring) ⊎ IsReached old → ((old new : Ring) (step : RingStep) → IsReached old → Step old step new → KeepsPrincipals old.members new.members)
    → ((old : Ring) (gone : ℕ) → IsReached old → CanDepart old.members gone → KeepsPrincipals old.members (ring_without old gone).members)
    → RingEffect old new → KeepsPrincipals old.members new.members
effect_keeps old _ reached by_step by_departure RingEffect.Same = λ node principal member. principal
effect_keeps old _ reached by_step by_departure (RingEffect.Founded id r within positive none) = λ node principal member. absurd (no_member old node principal.links none principal.is_its)
effect_keeps old new (inr reached) by_step by_departure (RingEffect.Stepped step is) = by_step old new step reached is
effect_keeps old new (inl none) by_step by_departure (RingEffect.Stepped step is) = absurd (no_step old new step none is)
effect_keeps old _ (inr reached) by_step by_departure (RingEffect.Departed node can) = by_departure old node reached can
effect_keeps old _ (inl none) by_step by_departure (RingEffect.Departed node can) = absurd (no_departure old node none can)

crash_keeps : (old : Ring) (number : ℕ) → (old ≡ no_ring) ⊎ IsReached old
    → ((old : Ring) (gone : ℕ) → IsReached old → CanDepart old.members gone → KeepsPrincipals old.members (ring_without old gone).members)
    → CanDepart old.members number → KeepsPrincipals old.members (ring_without old number).members
crash_keeps old number (inr reached) by_departure can = by_departure old number reached can
crash_keeps old number (inl none) by_departure can = absurd (no_departure old number none can)

pub returns-clause-steps : goal.returns-clause-steps
returns-clause-steps c = λ old new lived holds effect.
    effect_keeps old.ring new (lived_ring old lived holds) c.principals_stand_on_one_ring.ensures.kept_by_steps c.principals_stand_on_one_ring.ensures.kept_by_departures effect

pub returns-clause-crashes : goal.returns-clause-crashes
returns-clause-crashes c = λ old number lived holds can. crash_keeps old.ring number (lived_ring old lived holds) c.principals_stand_on_one_ring.ensures.kept_by_departures can
