-- Which links a node may take beside another node: the steps of the ring.
use Rattle.std.proofs.Common.{◌≡◌, ◌≢◌, Bool, true, false, Option, Some, None, ◌⊎◌, inl, inr, refl, sym, ap, ◌∙◌, subst}
use Rattle.std.specs.Prelude.{is_some, IsTrue}
use Rattle.std.proofs.lemmas.Bool.{true≢false}
use Rattle.chord_ident.specs.Circle.{IsBetween}
use Rattle.chord_links.specs.declared.peer.Peer.{Peer}
use Rattle.chord_links.specs.NodeLinks.{NodeLinks, first_entry}
use Rattle.chord_model.specs.declared.phase.Phase.{Phase}
use Rattle.chord_model.specs.declared.phase.Phase.TheVariants as phase
use Rattle.chord_model.specs.Node.{Node}
use Rattle.chord_ring.specs.declared.ring_step.RingStep.TheVariants.{Stabilise, Candidate, DropDead, Rectify}
use Rattle.chord_ring.specs.Ring.{links_of, is_member}
use Rattle.chord_ring.specs.Steps.{Ring, links_behind, without_head, gives_way, rectified_links, is_live, with_links}
use Rattle.chord_table.specs.Scenes.{bare, links_in, place_of}
use Rattle.chord_table.specs.Views.{MayRelink}

-- the ring has a node that neither crashed nor is gone
pub placed : (node : Node) → node.phase ≢ phase.Gone → place_of false node ≡ Some (bare node.links)
placed node live = in_phase node.phase live
  where
    in_phase : (p : Phase) → p ≢ phase.Gone → links_in false p node.links ≡ Some (bare node.links)
    in_phase phase.Staying l = refl
    in_phase phase.Leaving l = refl
    in_phase phase.Gone l = absurd (l refl)

-- and no other
pub departed : (crashed : Bool) (node : Node) → (crashed ≡ true) ⊎ (node.phase ≡ phase.Gone)
    → place_of crashed node ≡ None
departed crashed node (inl out) = ap (λ b. place_of b node) out
departed crashed node (inr gone) = ap (λ p. links_in crashed p node.links) gone ∙ none crashed
  where
    none : (b : Bool) → links_in b phase.Gone node.links ≡ None
    none true = refl
    none false = refl

-- a node copies the list of its first entry
pub stabilise_may : (old other : Node) → old.phase ≢ phase.Gone → other.phase ≢ phase.Gone
    → first_entry old.links ≡ other.links.me
    → MayRelink old other false (record old { links = links_behind old.links other.links })
stabilise_may old other live theirs first = record {
  links = links_behind old.links other.links;
  me = refl;
  is = refl;
  before = bare old.links;
  placed = placed old live;
  step = λ ring here there. (
    Stabilise old.number other.number,
    record {
      links = bare old.links;
      theirs = bare other.links;
      is_its = here ∙ placed old live;
      is_live = there ∙ placed other theirs;
      is_first = first;
      result = refl;
    },
  );
}

-- a node takes another one that lies before its first entry
pub candidate_may : (old other : Node) → old.phase ≢ phase.Gone → other.phase ≢ phase.Gone
    → IsBetween old.links.me.id.number other.links.me.id.number (first_entry old.links).id.number
    → MayRelink old other false (record old { links = links_behind old.links other.links })
candidate_may old other live theirs between = record {
  links = links_behind old.links other.links;
  me = refl;
  is = refl;
  before = bare old.links;
  placed = placed old live;
  step = λ ring here there. (
    Candidate old.number other.number,
    record {
      links = bare old.links;
      theirs = bare other.links;
      is_its = here ∙ placed old live;
      is_live = there ∙ placed other theirs;
      is_between = between;
      result = refl;
    },
  );
}

-- a node drops its first entry, which departed
pub drop_may : (old other : Node) (crashed : Bool) → old.phase ≢ phase.Gone
    → (crashed ≡ true) ⊎ (other.phase ≡ phase.Gone) → other.number ≡ (first_entry old.links).number
    → MayRelink old other crashed (record old { links = without_head old.links })
drop_may old other crashed live out first = record {
  links = without_head old.links;
  me = refl;
  is = refl;
  before = bare old.links;
  placed = placed old live;
  step = λ ring here there. (
    DropDead old.number,
    record {
      links = bare old.links;
      is_its = here ∙ placed old live;
      is_dead = dead ring there;
      result = refl;
    },
  );
}
  where
    dead : (ring : Ring) → links_of ring.members other.number ≡ place_of crashed other
        → IsTrue (is_member ring.members (first_entry old.links).number) → ⊥
    dead ring there member =
        let none : links_of ring.members (first_entry old.links).number ≡ None =
        subst (λ n. links_of ring.members n ≡ None) first (there ∙ departed crashed other out) in
        true≢false (sym member ∙ ap (λ (l : Option NodeLinks). is_some l) none)

-- a node takes another one as its predecessor, if it has none or one that is farther
pub rectify_may : (old other : Node) → old.phase ≢ phase.Gone → other.phase ≢ phase.Gone
    → ((live : Bool) → gives_way old.links.me other.links.me live old.links.predecessor ≡ true)
    → MayRelink old other false
    (record old { links = rectified_links old.links other.links.me true })
rectify_may old other live theirs gives = record {
  links = rectified_links old.links other.links.me true;
  me = refl;
  is = refl;
  before = bare old.links;
  placed = placed old live;
  step = λ ring here there. (
    Rectify old.number other.number,
    record {
      links = bare old.links;
      theirs = bare other.links;
      is_its = here ∙ placed old live;
      is_theirs = there ∙ placed other theirs;
      result = ap
          (λ gave. with_links ring old.number (rectified_links (bare old.links) other.links.me gave))
          (sym (gives (is_live ring.members old.links.predecessor)));
    },
  );
}

-- a node that has no predecessor takes itself
pub first_may : (old : Node) → old.phase ≢ phase.Gone → old.links.predecessor ≡ None
    → MayRelink old old false (record old { links = rectified_links old.links old.links.me true })
first_may old live none =
    rectify_may old old live live
    (λ alive. ap (λ p. gives_way old.links.me old.links.me alive p) none)

-- a node whose predecessor departed takes itself
pub alone_may : (old other : Node) (crashed : Bool) (predecessor : Peer) → old.phase ≢ phase.Gone
    → (crashed ≡ true) ⊎ (other.phase ≡ phase.Gone) → old.links.predecessor ≡ Some predecessor
    → other.number ≡ predecessor.number
    → MayRelink old other crashed
    (record old { links = rectified_links old.links old.links.me true })
alone_may old other crashed predecessor live out its same = record {
  links = rectified_links old.links old.links.me true;
  me = refl;
  is = refl;
  before = bare old.links;
  placed = placed old live;
  step = λ ring here there. (
    Rectify old.number old.number,
    record {
      links = bare old.links;
      theirs = bare old.links;
      is_its = here ∙ placed old live;
      is_theirs = here ∙ placed old live;
      result = ap
          (λ gave. with_links ring old.number (rectified_links (bare old.links) old.links.me gave))
          (sym (gives ring there));
    },
  );
}
  where
    me : Peer
    me = old.links.me

    gives : (ring : Ring) → links_of ring.members other.number ≡ place_of crashed other
        → gives_way me me (is_live ring.members old.links.predecessor) old.links.predecessor ≡ true
    gives ring there =
        let dead : links_of ring.members predecessor.number ≡ None =
        subst (λ n. links_of ring.members n ≡ None) same (there ∙ departed crashed other out) in
        subst (λ p. gives_way me me (is_live ring.members p) p ≡ true) (sym its)
        (ap (λ (l : Option NodeLinks). gives_way me me (is_some l) (Some predecessor)) dead)
