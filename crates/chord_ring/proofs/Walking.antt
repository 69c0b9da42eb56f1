-- Following first live entries leads from each member to each principal.
use Rattle.std.proofs.Common.{◌≡◌, ℕ, zero, suc, ◌+◌, ◌<◌, ◌≤◌, inl, inr, Bool, true, false, leb, List, [], ◌∷◌, ◌++◌, length, Option, Some, None, arith, refl, ap, sym, ◌∙◌}
use Rattle.std.specs.Prelude.{is_some, count_by}
use Rattle.std.proofs.lemmas.Bool.{cases_order, false≢true, leb-true, le-leb, lt-leb}
use Rattle.chord_ident.specs.Circle.{walk, IsBetween}
use Rattle.chord_links.proofs.Clockwise.{circle, walk_range, walk_round, walk_over, walk_nearer, same_from_walk, nearer_between}
use Rattle.chord_links.specs.declared.peer.Peer.{Peer}
use Rattle.chord_links.specs.NodeLinks.{NodeLinks}
use Rattle.chord_links.specs.Successors.{Rises}
use Rattle.chord_links.proofs.Skipping.{OnCircle}
use Rattle.chord_ring.specs.Ring.{Members, links_of, next_of, IsPrincipal, Follows, IsOneRing, member_count}
use Rattle.chord_ring.specs.Steps.{Ring}
use Rattle.chord_ring.proofs.Lookups.{member_within}
use Rattle.chord_ring.specs.Sound.{IsSound}
use Rattle.chord_ring.proofs.Stepping.{member_on_circle}
use Rattle.chord_ring.proofs.Counting.{count_by_le, count_by_less}
use Rattle.chord_ring.proofs.OneRing.{same_member, next_links, passes_none}

-- a rising list ends farther than it began
pub Rises-last : (owner past : ℕ) (before : List Peer) (last : Peer) → Rises owner past (before ++ last ∷ []) → past < walk owner last.id.number
Rises-last owner past [] last rises = rises.0
Rises-last owner past (peer ∷ before) last rises =
    let first : past < walk owner peer.id.number = rises.0 in
    let further = Rises-last owner (walk owner peer.id.number) before last rises.1 in
    omega arith

-- what rises from the next node up to a last one rises from the node before it
pub Rises-from_before : (from next : ℕ) (past beyond : ℕ) (before : List Peer) (last : Peer) → from < circle → next < circle → last.id.number < circle
    → OnCircle before → walk from next + past ≡ beyond → walk from last.id.number ≡ walk from next + walk next last.id.number
    → Rises next past (before ++ last ∷ []) → Rises from beyond (before ++ last ∷ [])
Rises-from_before from next past beyond [] last from_in next_in last_in on sum whole rises = (let first : past < walk next last.id.number = rises.0 in omega arith, tt)
Rises-from_before from next past beyond (peer ∷ before) last from_in next_in last_in on sum whole rises =
    let first : past < walk next peer.id.number = rises.0 in
    let further : walk next peer.id.number < walk next last.id.number = Rises-last next (walk next peer.id.number) before last rises.1 in
    let most = walk_range from last.id.number from_in last_in in
    let least = walk_range from peer.id.number from_in on.0 in
    let over : walk from peer.id.number ≡ walk from next + walk next peer.id.number =
    elim (walk_over from next peer.id.number from_in next_in on.0) [ inl straight ↦ straight | inr turn ↦ absurd (omega arith) ] in (
      omega arith,
      Rises-from_before from next (walk next peer.id.number) (walk from peer.id.number) before last from_in next_in last_in on.1 (sym over) whole rises.1,
    )

-- a member lies on the way from one identifier up to another
abbrev pub is_on_way : ℕ → ℕ → Option NodeLinks → Bool
is_on_way from to None = false
is_on_way from to (Some links) = leb (walk from links.me.id.number) (walk from to)

-- a way that follows first live entries, over fewer members than a bound
pub record Way (members : Members) (from to : NodeLinks) (bound : ℕ) : Type 0 where
  pub before : List Peer
  pub on : OnCircle before
  pub follows : Follows members from.me.number (before ++ to.me ∷ [])
  pub onward : Rises from.me.id.number 0 (before ++ to.me ∷ [])
  pub few : length before < bound

module _ (ring : Ring) (sound : IsSound ring) (target : ℕ) (principal : IsPrincipal ring.members target) where
  -- the principal's links
  abbrev pub to : NodeLinks
  to = principal.links

  -- the number of members on the way to the principal
  abbrev pub ahead : ℕ → ℕ
  ahead from = count_by (is_on_way from to.me.id.number) ring.members

  pub to_in : to.me.id.number < circle
  to_in = member_on_circle ring sound target to principal.is_its

  -- the principal itself is ahead
  pub some_ahead : (from : ℕ) → 0 < ahead from
  some_ahead from =
      let less : count_by (λ (links : Option NodeLinks). false) ring.members < ahead from =
      count_by_less (λ links. false) (is_on_way from to.me.id.number) ring.members None (λ k e. absurd (false≢true e)) target
      (member_within ring.members target to principal.is_its) refl
      (ap (is_on_way from to.me.id.number) principal.is_its ∙ le-leb (walk from to.me.id.number) (walk from to.me.id.number) (omega arith)) in
      omega arith

  -- fewer members are ahead of a nearer member
  pub fewer_ahead : (node next_node : ℕ) (from next : NodeLinks) → links_of ring.members node ≡ Some from → links_of ring.members next_node ≡ Some next
      → walk from.me.id.number next.me.id.number < walk from.me.id.number to.me.id.number → ahead next.me.id.number < ahead from.me.id.number
  fewer_ahead node next_node from next is_its is_next nearer =
      let from_in = member_on_circle ring sound node from is_its in
      let next_in = member_on_circle ring sound next_node next is_next in
      let whole = walk_nearer from.me.id.number next.me.id.number to.me.id.number from_in next_in to_in nearer in
      let most = walk_range from.me.id.number to.me.id.number from_in to_in in
      let step = walk_range from.me.id.number next.me.id.number from_in next_in in
      let round = walk_round next.me.id.number next_in in
      count_by_less (is_on_way next.me.id.number to.me.id.number) (is_on_way from.me.id.number to.me.id.number) ring.members None
      (λ k. go k (links_of ring.members k) refl from_in next_in whole most)
      next_node (member_within ring.members next_node next is_next)
      (ap (is_on_way next.me.id.number to.me.id.number) is_next ∙ lt-leb (walk next.me.id.number next.me.id.number) (walk next.me.id.number to.me.id.number) (omega arith))
      (ap (is_on_way from.me.id.number to.me.id.number) is_next ∙ le-leb (walk from.me.id.number next.me.id.number) (walk from.me.id.number to.me.id.number) (omega arith))
    where
      go : (k : ℕ) (found : Option NodeLinks) → links_of ring.members k ≡ found → from.me.id.number < circle → next.me.id.number < circle
          → walk from.me.id.number to.me.id.number ≡ walk from.me.id.number next.me.id.number + walk next.me.id.number to.me.id.number
          → (0 < walk from.me.id.number to.me.id.number) × (walk from.me.id.number to.me.id.number ≤ circle)
          → is_on_way next.me.id.number to.me.id.number found ≡ true → is_on_way from.me.id.number to.me.id.number found ≡ true
      go k None e from_in next_in whole most on = absurd (false≢true on)
      go k (Some links) e from_in next_in whole most on =
          let x_in = member_on_circle ring sound k links e in
          let within : walk next.me.id.number links.me.id.number ≤ walk next.me.id.number to.me.id.number = leb-true (walk next.me.id.number links.me.id.number) (walk next.me.id.number to.me.id.number) on in
          let least = walk_range from.me.id.number links.me.id.number from_in x_in in
          le-leb (walk from.me.id.number links.me.id.number) (walk from.me.id.number to.me.id.number)
          (elim (walk_over from.me.id.number next.me.id.number links.me.id.number from_in next_in x_in) [ inl straight ↦ omega arith | inr turn ↦ omega arith ])

  -- there is a way from each member, over no more members than are ahead
  pub way_from : (fuel node : ℕ) (from : NodeLinks) → links_of ring.members node ≡ Some from → ahead from.me.id.number ≤ fuel → Way ring.members from to (ahead from.me.id.number)
  way_from zero node from is_its enough = absurd (let some = some_ahead from.me.id.number in omega arith)
  way_from (suc fuel) node from is_its enough =
      let (next, is_next, follows) = next_links ring sound node from is_its in
      let from_in = member_on_circle ring sound node from is_its in
      let next_in = member_on_circle ring sound next.me.number next is_next in
      let not_passed : ¬ (IsBetween from.me.id.number to.me.id.number next.me.id.number) = passes_none ring sound node from next.me is_its follows target principal in
      let number = (sound.each node from is_its).number in
      let follows_me : next_of ring.members from.me.number ≡ Some next.me = ap (next_of ring.members) number ∙ follows in
      elim (cases_order (walk from.me.id.number next.me.id.number) (walk from.me.id.number to.me.id.number)) [
        | inl same ↦
            let arrived : next.me ≡ to.me =
            same_member ring sound next.me.number target next to is_next principal.is_its
            (same_from_walk from.me.id.number next.me.id.number to.me.id.number from_in next_in to_in same) in
            record {
              before = [];
              on = tt;
              follows = (follows_me ∙ ap Some arrived, tt);
              onward = ((walk_range from.me.id.number to.me.id.number from_in to_in).0, tt);
              few = some_ahead from.me.id.number;
            }
        | inr apart ↦
            elim apart [
              | inl nearer ↦
                  let fewer : ahead next.me.id.number < ahead from.me.id.number = fewer_ahead node next.me.number from next is_its is_next nearer in
                  let rest : Way ring.members next to (ahead next.me.id.number) = way_from fuel next.me.number next is_next (omega arith) in
                  record {
                    before = next.me ∷ rest.before;
                    on = (next_in, rest.on);
                    follows = (follows_me, rest.follows);
                    onward = (
                      (walk_range from.me.id.number next.me.id.number from_in next_in).0,
                      Rises-from_before from.me.id.number next.me.id.number 0 (walk from.me.id.number next.me.id.number) rest.before to.me from_in next_in to_in rest.on (omega arith)
                          (walk_nearer from.me.id.number next.me.id.number to.me.id.number from_in next_in to_in nearer) rest.onward,
                    );
                    few = let short = rest.few in omega arith;
                  }
              | inr farther ↦ absurd (not_passed (nearer_between from.me.id.number to.me.id.number next.me.id.number farther))
            ]
      ]

-- the principals of a sound ring are on one ring
pub IsOneRing-sound : (ring : Ring) → IsSound ring → IsOneRing ring.members
IsOneRing-sound ring sound =
    record {
      meets = λ node from is_its target principal.
          let way = way_from ring sound target principal (ahead ring sound target principal from.me.id.number) node from is_its (omega arith) in
          let all : ahead ring sound target principal from.me.id.number ≤ member_count ring.members =
          count_by_le (is_on_way from.me.id.number principal.links.me.id.number) is_some ring.members None (λ k. go from principal.links (links_of ring.members k)) in
          let few = way.few in
          record { before = way.before; follows = way.follows; onward = way.onward; few = omega arith };
      passes_none = passes_none ring sound;
    }
  where
    go : (from to : NodeLinks) (found : Option NodeLinks) → is_on_way from.me.id.number to.me.id.number found ≡ true → is_some found ≡ true
    go from to None on = on
    go from to (Some links) on = refl

-- `IsOneRing-sound` under a name without a dash
pub one_ring : (ring : Ring) → IsSound ring → IsOneRing ring.members
one_ring = IsOneRing-sound
