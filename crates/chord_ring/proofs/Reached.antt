-- Each ring that is reached is sound.
use Rattle.std.proofs.Common.{◌≡◌, ◌≢◌, ℕ, zero, suc, ◌<◌, inl, inr, true, [], ◌∷◌, length, Option, Some, None, arith, refl, ap, sym, subst, ◌∙◌}
use Rattle.std.specs.Prelude.{is_some, IsSome, slice_get, slice_set}
use Rattle.std.proofs.lemmas.Bool.{cases_eq, true≢false}
use Rattle.std.proofs.lemmas.Option.{same_Some, none-some}
use Rattle.std.proofs.lemmas.List.{length-set}
use Rattle.chord_links.proofs.Clockwise.{circle, walk_range}
use Rattle.chord_links.specs.declared.peer.Peer.{Peer}
use Rattle.chord_links.specs.NodeLinks.{NodeLinks, alone}
use Rattle.chord_links.specs.Successors.{Skips}
use Rattle.chord_ring.specs.Ring.{links_of, first_live, CanDepart}
use Rattle.chord_ring.specs.Steps.{Ring, founded_ring, ring_without, IsReached, is_founded, after_step, after_departure}
use Rattle.chord_ring.proofs.Lookups.{Updates, Updates-set, member_within}
use Rattle.chord_ring.specs.Sound.{LinksSound, IsSound}
use Rattle.chord_ring.proofs.Stepping.{Kept, Kept-step}

-- the first node's number and links
abbrev pub first_node : ℕ → Peer
first_node id = record { number = 0; id = record { number = id } }

abbrev pub first_links : ℕ → ℕ → NodeLinks
first_links id r = alone (first_node id) r

-- the ring of one node has that node's links alone
pub founded_links : (id r node : ℕ) (links : NodeLinks) → links_of (founded_ring id r).members node ≡ Some links → (node ≡ 0) × (first_links id r ≡ links)
founded_links id r zero links e = (refl, same_Some (first_links id r) links e)
founded_links id r (suc node) links e = absurd (none-some links e)

pub founded_ids : (id node other : ℕ) → slice_get (id ∷ []) node ≡ Some other → (node ≡ 0) × (id ≡ other)
founded_ids id zero other e = (refl, same_Some id other e)
founded_ids id (suc node) other e = absurd (none-some other e)

pub IsSound-founded : (id r : ℕ) → id < circle → 0 < r → IsSound (founded_ring id r)
IsSound-founded id r id_in positive =
    record {
      ids =
          record {
            fit = λ node other e. subst (λ (x : ℕ). x < circle) (founded_ids id node other e).1 id_in;
            apart = λ node other x e f. (founded_ids id node x e).0 ∙ sym (founded_ids id other x f).0;
          };
      lengths = refl;
      each = λ node links is_its.
          let (is_first, same) = founded_links id r node links is_its in
          subst (λ (n : ℕ). LinksSound (id ∷ []) n links) (sym is_first)
          (subst (LinksSound (id ∷ []) 0) same
          (record {
            number = refl;
            me_known = refl;
            known = (refl, tt);
            rises = ((walk_range id id id_in id_in).0, tt);
            short = omega arith;
            positive = positive;
          }));
      safe =
          record {
            live = λ node links is_its.
                subst (λ (l : NodeLinks). IsSome (first_live (founded_ring id r).members l.entries)) (founded_links id r node links is_its).1 refl;
            principal = (
              0,
              record {
                links = first_links id r;
                is_its = refl;
                unskipped = λ other theirs is_its skips.
                    let skips_itself : Skips id (first_node id ∷ []) id =
                    subst (λ (l : NodeLinks). Skips l.me.id.number l.entries id) (sym (founded_links id r other theirs is_its).1) skips in
                    elim skips_itself [ inl between ↦ between.1 refl | inr none ↦ none ];
              },
            );
          };
    }

-- a departure after which the others are safe keeps the ring sound and its principals
pub Kept-departs : (old : Ring) (gone : ℕ) → IsSound old → CanDepart old.members gone → Kept old (ring_without old gone)
Kept-departs old gone sound (was, safe) =
    let within : gone < length old.members = go (links_of old.members gone) refl was in
    let updates : Updates old.members (slice_set old.members gone None) gone None = Updates-set old.members gone None within in
    let before : (node : ℕ) (links : NodeLinks) → links_of (slice_set old.members gone None) node ≡ Some links → links_of old.members node ≡ Some links =
    λ node links is_its.
    elim (cases_eq node gone) [
      | inl same ↦ absurd (none-some links (sym updates.here ∙ ap (links_of (slice_set old.members gone None)) (sym same) ∙ is_its))
      | inr other ↦ sym (updates.elsewhere node other) ∙ is_its
    ] in
    record {
      sound =
          record {
            ids = sound.ids;
            lengths = length-set old.members gone None ∙ sound.lengths;
            each = λ node links is_its. sound.each node links (before node links is_its);
            safe = safe;
          };
      principals = λ node principal still.
          let other : node ≢ gone =
          λ same. true≢false (sym still ∙ ap is_some (ap (links_of (slice_set old.members gone None)) same ∙ updates.here)) in
          record {
            links = principal.links;
            is_its = updates.elsewhere node other ∙ principal.is_its;
            unskipped = λ third theirs is_its. principal.unskipped third theirs (before third theirs is_its);
          };
    }
  where
    go : (links : Option NodeLinks) → links_of old.members gone ≡ links → is_some links ≡ true → gone < length old.members
    go None e some = absurd (true≢false (sym some))
    go (Some links) e some = member_within old.members gone links e

-- each ring that is reached is sound
pub IsSound-reached : (ring : Ring) → IsReached ring → IsSound ring
IsSound-reached ring (is_founded id r id_in positive) = IsSound-founded id r id_in positive
IsSound-reached ring (after_step {old = old} step reached stepped) = (Kept-step old ring step (IsSound-reached old reached) stepped).sound
IsSound-reached ring (after_departure {old = old} gone reached can) = (Kept-departs old gone (IsSound-reached old reached) can).sound
