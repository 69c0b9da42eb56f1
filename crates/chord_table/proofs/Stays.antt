-- A principal stays one, for as long as it is a member and the ring allows each crash.
use Rattle.std.proofs.Common.{◌≡◌, ◌≢◌, ℕ, ◌+◌, ◌<◌, ◌⊎◌, ⊎_elim, Bool, true, false, Option, Some, None, [], ◌∷◌, ◌++◌, length, set, refl, sym, ap, ◌∙◌, subst, arith}
use Rattle.std.specs.Prelude.{is_some, IsTrue}
use Rattle.std.proofs.lemmas.Bool.{true≢false}
use Rattle.std.proofs.lemmas.List.{get_or-set_other, get_or_append_left, length-set, length-append}
use Rattle.std.proofs.lemmas.List.Elements.{All-weaker}
use Rattle.chord_links.specs.NodeLinks.{NodeLinks}
use Rattle.chord_map.proofs.Equal.{same_or_not}
use Rattle.chord_ring.proofs.Reached.{IsSound-reached}
use Rattle.chord_ring.proofs.Stepping.{Kept-step}
use Rattle.chord_ring.specs.declared.ring_step.RingStep.{RingStep}
use Rattle.chord_ring.specs.declared.ring_step.RingStep.TheVariants.{Join, Stabilise, Candidate, DropDead, Rectify}
use Rattle.chord_ring.specs.Ring.{Members, links_of, is_member, IsPrincipal}
use Rattle.chord_ring.specs.Steps.{Ring, Step, IsReached, ring_without}
use Rattle.chord_table.proofs.Rings.{lived_ring, no_step, none_set}
use Rattle.chord_table.specs.Scenes.{Scene, Lived, RingEffect, no_ring, with_break}
use Rattle.chord_table.specs.Seen.{Known}
use Rattle.chord_table.specs.Views.{Stands, Knows}

-- each that was a principal is one, if it is still a member
abbrev pub Stays : Bool → Ring → Ring → Type 0
Stays premise old new = (number : ℕ) → Stands premise old number → Stands premise new number

-- ---- without a member

-- a member of the ring without one is another
other_left : (members : Members) (gone number : ℕ) → IsTrue (is_member (set members gone None) number) → number ≢ gone
other_left members gone number member same =
    let none : links_of (set members gone None) number ≡ None = ap (λ n. links_of (set members gone None) n) same ∙ none_set members gone in
    true≢false (sym member ∙ ap (λ (l : Option NodeLinks). is_some l) none)

links_left : (members : Members) (gone number : ℕ) → number ≢ gone → links_of (set members gone None) number ≡ links_of members number
links_left members gone number apart = get_or-set_other members gone number None None apart

pub gone_stays : (premise : Bool) (ring : Ring) (gone number : ℕ) → Stands premise ring number → Stands premise (ring_without ring gone) number
gone_stays premise ring gone number (within, principal) = (
  subst (λ n. number < n) (sym (length-set ring.members gone None)) within,
  (λ holds member. still member (principal holds (ap (λ (l : Option NodeLinks). is_some l) (sym (links_left ring.members gone number (other_left ring.members gone number member))) ∙ member))),
)
  where
    still : IsTrue (is_member (set ring.members gone None) number) → IsPrincipal ring.members number → IsPrincipal (set ring.members gone None) number
    still member was = record {
      links = was.links;
      is_its = links_left ring.members gone number (other_left ring.members gone number member) ∙ was.is_its;
      unskipped = λ other theirs e. was.unskipped other theirs (sym (links_left ring.members gone other (other_left ring.members gone other (ap (λ (l : Option NodeLinks). is_some l) e))) ∙ e);
    }

-- once the premise is gone nothing is left to say
pub broken_stays : (premise : Bool) (ring : Ring) (gone number : ℕ) → Stands premise ring number → Stands false (ring_without ring gone) number
broken_stays premise ring gone number (within, principal) =
    (subst (λ n. number < n) (sym (length-set ring.members gone None)) within, (λ holds. absurd (true≢false (sym holds))))

-- ---- a step of the ring

relinked_within : (members : Members) (node number : ℕ) (links : NodeLinks) → number < length members → number < length (set members node (Some links))
relinked_within members node number links within = subst (λ n. number < n) (sym (length-set members node (Some links))) within

relinked_member : (members : Members) (node number : ℕ) (links new : NodeLinks) → links_of members node ≡ Some links → IsTrue (is_member (set members node (Some new)) number) → IsTrue (is_member members number)
relinked_member members node number links new here member = ⊎_elim
    (λ (same : number ≡ node). ap (λ (l : Option NodeLinks). is_some l) (ap (λ n. links_of members n) same ∙ here))
    (λ (apart : number ≢ node). ap (λ (l : Option NodeLinks). is_some l) (sym (get_or-set_other members node number (Some new) None apart)) ∙ member)
    (same_or_not number node)

-- a step takes no node out of the list, and brings none back
abbrev HasBefore : Ring → Ring → ℕ → Type 0
HasBefore old new number = (number < length new.members) × (IsTrue (is_member new.members number) → IsTrue (is_member old.members number))

relinked_before : (old new : Ring) (node number : ℕ) (links after : NodeLinks) → links_of old.members node ≡ Some links → new ≡ record old { members = set old.members node (Some after) } → number < length old.members
    → HasBefore old new number
relinked_before old new node number links after here is within =
    subst (λ (r : Ring). HasBefore old r number) (sym is)
    (relinked_within old.members node number after within, relinked_member old.members node number links after here)

stepped_before : (old new : Ring) (step : RingStep) → Step old step new → (number : ℕ) → number < length old.members → HasBefore old new number
stepped_before old new (Join id pred) is number within =
    subst (λ (ms : Members). (number < length ms) × (IsTrue (is_member ms number) → IsTrue (is_member old.members number))) (sym is.members) (joined _)
  where
    joined : (x : Option NodeLinks) → (number < length (old.members ++ x ∷ [])) × (IsTrue (is_member (old.members ++ x ∷ []) number) → IsTrue (is_member old.members number))
    joined x =
        let counted : length (old.members ++ x ∷ []) ≡ length old.members + 1 = length-append old.members (x ∷ []) in
        (omega arith, (λ member. ap (λ (l : Option NodeLinks). is_some l) (sym (get_or_append_left old.members (x ∷ []) None number within)) ∙ member))
stepped_before old new (Stabilise node head) is number within = relinked_before old new node number is.links _ is.is_its is.result within
stepped_before old new (Candidate node peer) is number within = relinked_before old new node number is.links _ is.is_its is.result within
stepped_before old new (DropDead node) is number within = relinked_before old new node number is.links _ is.is_its is.result within
stepped_before old new (Rectify node notifier) is number within = relinked_before old new node number is.links _ is.is_its is.result within

-- ---- each effect on the ring

effect_keeps : (premise : Bool) (old new : Ring) → (premise ≡ true → (old ≡ no_ring) ⊎ IsReached old) → RingEffect old new → Stays premise old new
effect_keeps premise old _ reached RingEffect.Same number stands = stands
effect_keeps premise old _ reached (RingEffect.Founded id r small positive none) number (within, principal) =
    let empty : length old.members ≡ 0 = ap (λ (ring : Ring). length ring.members) none in
    absurd (omega arith)
effect_keeps premise old new reached (RingEffect.Stepped step is) number (within, principal) =
    let (inside, before) = stepped_before old new step is number within in (
      inside,
      (λ holds member. ⊎_elim
          (λ (none : old ≡ no_ring). absurd (no_step old new step none is))
          (λ (r : IsReached old). (Kept-step old new step (IsSound-reached old r) is).principals number (principal holds (before member)) member)
          (reached holds)),
    )
effect_keeps premise old _ reached (RingEffect.Departed node can) number stands = gone_stays premise old node number stands

pub effect_stays : (scene : Scene) (new : Ring) → Lived scene → RingEffect scene.ring new → Stays scene.premise scene.ring new
effect_stays scene new lived effect = effect_keeps scene.premise scene.ring new (lived_ring scene lived) effect

-- ---- what the registrar knows

pub knows_on : (scene next : Scene) (known : Known) → next.ring.ids ≡ scene.ring.ids → next.premise ≡ scene.premise → Stays scene.premise scene.ring next.ring → Knows scene known → Knows next known
knows_on scene next known named held stays knows = record {
  ids = named ∙ knows.ids;
  premise = held ∙ knows.premise;
  principals = All-weaker (Stands scene.premise scene.ring) (Stands next.premise next.ring)
      (λ number stands. subst (λ premise. Stands premise next.ring number) (sym held) (stays number stands)) known.principals knows.principals;
}

pub knows_broken : (scene : Scene) (number : ℕ) (known : Known) → Knows scene known → Knows (with_break number scene) (record known { premise = false })
knows_broken scene number known knows = record {
  ids = knows.ids;
  premise = refl;
  principals = All-weaker (Stands scene.premise scene.ring) (Stands false (ring_without scene.ring number))
      (λ other stands. broken_stays scene.premise scene.ring number other stands) known.principals knows.principals;
}
