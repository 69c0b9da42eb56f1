-- A step that changes one node's links, to a list that skips nothing new and has a live entry,
-- keeps a ring sound and its principals.
use Rattle.std.proofs.Common.{◌≡◌, ℕ, ◌⊎◌, inl, inr, true, List, [], ◌∷◌, length, Some, refl, ap, sym, subst, ◌∙◌}
use Rattle.std.specs.Prelude.{is_some, IsSome, slice_get}
use Rattle.std.specs.List.{AllByRecursion}
use Rattle.std.proofs.lemmas.Bool.{cases_eq}
use Rattle.std.proofs.lemmas.Option.{same_Some}
use Rattle.chord_links.specs.declared.peer.Peer.{Peer}
use Rattle.chord_links.specs.NodeLinks.{NodeLinks}
use Rattle.chord_links.specs.Successors.{Skips}
use Rattle.chord_ring.specs.Ring.{links_of, is_member, first_live, IsPrincipal}
use Rattle.chord_ring.specs.Steps.{Ring}
use Rattle.chord_ring.proofs.Lookups.{Updates, find_more}
use Rattle.chord_ring.specs.Sound.{IsPeerOf, IdsSound, LinksSound, IsSound}

-- one node has these links now, as a new node or in place of its old ones
pub record Change (old new : Ring) (at : ℕ) (after : NodeLinks) : Type 0 where
  pub updates : Updates old.members new.members at (Some after)
  pub ids : IdsSound new.ids
  pub grows : (node id : ℕ) → slice_get old.ids node ≡ Some id → slice_get new.ids node ≡ Some id
  pub lengths : length new.members ≡ length new.ids
  pub sound : LinksSound new.ids at after
  pub live : IsSome (first_live old.members after.entries)
  pub same_me : (before : NodeLinks) → links_of old.members at ≡ Some before → before.me ≡ after.me
  pub skips : (node : ℕ) (links : NodeLinks) → links_of old.members node ≡ Some links → Skips after.me.id.number after.entries links.me.id.number
      → (other : ℕ) × (theirs : NodeLinks) × (links_of old.members other ≡ Some theirs) × Skips theirs.me.id.number theirs.entries links.me.id.number

-- a known peer stays known
pub known_more : (old new : List ℕ) → ((node id : ℕ) → slice_get old node ≡ Some id → slice_get new node ≡ Some id)
    → (peers : List Peer) → AllByRecursion (IsPeerOf old) peers → AllByRecursion (IsPeerOf new) peers
known_more old new grows [] known = tt
known_more old new grows (peer ∷ peers) known = (grows peer.number peer.id.number known.0, known_more old new grows peers known.1)

module _ (old new : Ring) (at : ℕ) (after : NodeLinks) (sound : IsSound old) (change : Change old new at after) where
  -- a member is still a member, with the same number and identifier
  pub still_member : (node : ℕ) (links : NodeLinks) → links_of old.members node ≡ Some links
      → (later : NodeLinks) × (links_of new.members node ≡ Some later) × (links.me ≡ later.me)
  still_member node links is_its =
      elim (cases_eq node at) [
        | inl same ↦
            (after, ap (links_of new.members) same ∙ change.updates.here, change.same_me links (ap (links_of old.members) (sym same) ∙ is_its))
        | inr other ↦ (links, change.updates.elsewhere node other ∙ is_its, refl)
      ]

  -- a member was one with these links, or is the changed one
  pub member_before : (node : ℕ) (links : NodeLinks) → links_of new.members node ≡ Some links
      → (links_of old.members node ≡ Some links) ⊎ ((node ≡ at) × (after ≡ links))
  member_before node links is_its =
      elim (cases_eq node at) [
        | inl same ↦ inr (same, same_Some after links (sym (ap (links_of new.members) same ∙ change.updates.here) ∙ is_its))
        | inr other ↦ inl (sym (change.updates.elsewhere node other) ∙ is_its)
      ]

  pub still_is_member : (node : ℕ) → is_member old.members node ≡ true → is_member new.members node ≡ true
  still_is_member node was =
      elim (cases_eq node at) [
        | inl same ↦ ap is_some (ap (links_of new.members) same ∙ change.updates.here)
        | inr other ↦ ap is_some (change.updates.elsewhere node other) ∙ was
      ]

  pub still_live : (peers : List Peer) → IsSome (first_live old.members peers) → IsSome (first_live new.members peers)
  still_live peers live =
      find_more (λ peer. is_member old.members peer.number) (λ peer. is_member new.members peer.number) (λ peer. still_is_member peer.number) peers live

  -- a principal is still a principal
  pub principal_stays : (node : ℕ) → IsPrincipal old.members node → IsPrincipal new.members node
  principal_stays node principal =
      let (later, is_its, same_me) = still_member node principal.links principal.is_its in
      record {
        links = later;
        is_its = is_its;
        unskipped = λ other theirs is_theirs skips.
            let skips_old : Skips theirs.me.id.number theirs.entries principal.links.me.id.number =
            subst (λ (me : Peer). Skips theirs.me.id.number theirs.entries me.id.number) (sym same_me) skips in
            elim (member_before other theirs is_theirs) [
              | inl was ↦ principal.unskipped other theirs was skips_old
              | inr changed ↦
                  let skips_after : Skips after.me.id.number after.entries principal.links.me.id.number =
                  subst (λ (l : NodeLinks). Skips l.me.id.number l.entries principal.links.me.id.number) (sym changed.1) skips_old in
                  let found = change.skips node principal.links principal.is_its skips_after in
                  principal.unskipped found.0 found.1 found.2 found.3
            ];
      }

  pub still_sound : IsSound new
  still_sound =
      record {
        ids = change.ids;
        lengths = change.lengths;
        each = λ node links is_its.
            elim (member_before node links is_its) [
              | inl was ↦
                  let before = sound.each node links was in
                  record {
                    number = before.number;
                    me_known = change.grows links.me.number links.me.id.number before.me_known;
                    known = known_more old.ids new.ids change.grows links.entries before.known;
                    rises = before.rises;
                    short = before.short;
                    positive = before.positive;
                  }
              | inr changed ↦
                  subst (λ (n : ℕ). LinksSound new.ids n links) (sym changed.0) (subst (LinksSound new.ids at) changed.1 change.sound)
            ];
        safe =
            record {
              live = λ node links is_its.
                  elim (member_before node links is_its) [
                    | inl was ↦ still_live links.entries (sound.safe.live node links was)
                    | inr changed ↦ subst (λ (l : NodeLinks). IsSome (first_live new.members l.entries)) changed.1 (still_live after.entries change.live)
                  ];
              principal = (sound.safe.principal.0, principal_stays sound.safe.principal.0 sound.safe.principal.1);
            };
      }
