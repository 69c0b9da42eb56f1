-- The only node of a ring is a principal.
use Rattle.std.proofs.Common.{◌≡◌, ◌≢◌, ℕ, zero, suc, false, List, [], ◌∷◌, length, refl, sym, ap, ◌∙◌, subst, inl, inr}
use Rattle.chord_links.specs.NodeLinks.{NodeLinks}
use Rattle.chord_links.specs.Successors.{Skips}
use Rattle.chord_map.proofs.Equal.{eqb_other}
use Rattle.chord_model.specs.Node.{founder}
use Rattle.chord_ring.proofs.Reached.{first_node, first_links, founded_links}
use Rattle.chord_ring.specs.Ring.{Members, links_of, IsPrincipal}
use Rattle.chord_ring.specs.Steps.{founded_ring}
use Rattle.chord_table.specs.Rings.{AreMembers, place_among}
use Rattle.chord_table.specs.Seen.{Sight}
use Rattle.chord_table.specs.Views.{Assembled, HasAllNodes, NodeSight, as_actor, nodes_among}

-- what the seat of the only node shows
abbrev pub only_seat : ℕ → NodeSight
only_seat limit = record { node = founder (first_links 5 3) limit; crashed = false; messages = [] }

module _ (a : Assembled) (seat : NodeSight) (limit : ℕ) (taken : a.taken ≡ as_actor seat ∷ []) (is : seat ≡ only_seat limit) where
  shows : a.taken ≡ as_actor (only_seat limit) ∷ []
  shows = taken ∙ ap (λ (s : NodeSight). as_actor s ∷ []) is

  pub all_nodes : a.register.nodes ≡ 0 ∷ [] → HasAllNodes a
  all_nodes nodes = record {
    nodes = ap (λ (t : List Sight). length (nodes_among t)) shows ∙ sym (ap length nodes);
  }

  pub some_node : nodes_among a.taken ≢ []
  some_node none = absurd (some (sym (ap nodes_among shows) ∙ none))
    where
      some : founder (first_links 5 3) limit ∷ [] ≡ [] → ⊥
      some e = cc

  pub is_principal : a.register.ids ≡ 5 ∷ [] → (members : Members) × AreMembers a members × IsPrincipal members 0
  is_principal ids = (
    (founded_ring 5 3).members,
    record { counted = sym (ap (λ (l : List ℕ). length l) ids); links = λ number. placed number ∙ sym (ap (place_among number) shows) },
    record {
      links = first_links 5 3;
      is_its = refl;
      unskipped = λ other theirs is_its skips.
          let skips_itself : Skips 5 (first_node 5 ∷ []) 5 =
          subst (λ (l : NodeLinks). Skips l.me.id.number l.entries 5) (sym (founded_links 5 3 other theirs is_its).1) skips in
          elim skips_itself [ inl between ↦ between.1 refl | inr none ↦ none ];
    },
  )
    where
      placed : (number : ℕ) → links_of (founded_ring 5 3).members number ≡ place_among number (as_actor (only_seat limit) ∷ [])
      placed zero = refl
      placed (suc n) = rw (eqb_other 0 (suc n) (λ e. cc)) refl
