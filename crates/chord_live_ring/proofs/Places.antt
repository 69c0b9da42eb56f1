-- Events of a node that leave its place in the ring as it is.
use Rattle.std.proofs.Common.{◌≡◌, Bool, true, false, Some, refl, sym, ap, ◌∙◌}
use Rattle.chord_links.specs.NodeLinks.{NodeLinks}
use Rattle.chord_model.specs.declared.phase.Phase.{Phase}
use Rattle.chord_model.specs.declared.phase.Phase.TheVariants as phase
use Rattle.chord_model.specs.Node.{Node}
use Rattle.chord_table.specs.Scenes.{bare, links_in, place_of}

-- in one phase, links that are one but for their fingers are one place
same_phase : (p : Phase) (a b : NodeLinks) → bare a ≡ bare b → links_in false p a ≡ links_in false p b
same_phase phase.Staying a b same = ap (λ (l : NodeLinks). Some l) same
same_phase phase.Leaving a b same = ap (λ (l : NodeLinks). Some l) same
same_phase phase.Gone a b same = refl

-- the phase stays, and the links but for the fingers
pub place_kept : (crashed : Bool) (old new : Node) → new.phase ≡ old.phase → bare new.links ≡ bare old.links → place_of crashed new ≡ place_of crashed old
place_kept true old new phase_is links_are = refl
place_kept false old new phase_is links_are =
    ap (λ p. links_in false p new.links) phase_is ∙ same_phase old.phase new.links old.links links_are

-- a staying node begins to leave
pub place_left : (crashed : Bool) (old new : Node) → old.phase ≡ phase.Staying → new ≡ record old { phase = phase.Leaving } → place_of crashed new ≡ place_of crashed old
place_left true old new stays is = refl
place_left false old new stays is =
    ap (λ (n : Node). place_of false n) is ∙ sym (ap (λ p. links_in false p old.links) stays)
