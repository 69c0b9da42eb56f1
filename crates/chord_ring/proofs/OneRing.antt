-- The principals of a sound ring are on one ring.
use Rattle.std.proofs.Common.{◌≡◌, ℕ, ◌+◌, ◌<◌, inl, inr, true, List, [], ◌∷◌, Option, Some, None, arith, refl, ap, sym, subst, ◌∙◌}
use Rattle.std.specs.Prelude.{is_some, slice_get}
use Rattle.std.specs.Option.{option_and_then}
use Rattle.std.specs.List.{AllByRecursion}
use Rattle.std.proofs.lemmas.Bool.{cases_order, cases_Bool, false≢true}
use Rattle.std.proofs.lemmas.Option.{same_Some, none-some}
use Rattle.chord_ident.specs.Circle.{walk, IsBetween}
use Rattle.chord_links.proofs.Clockwise.{circle, walk_range, walk_nearer, same_from_walk, between_nearer, nearer_between}
use Rattle.chord_links.specs.declared.peer.Peer.{Peer}
use Rattle.chord_links.specs.NodeLinks.{NodeLinks}
use Rattle.chord_links.specs.Successors.{Rises, Skips}
use Rattle.chord_ring.specs.Ring.{Members, links_of, is_member, first_live, next_of, IsPrincipal}
use Rattle.chord_ring.specs.Steps.{Ring}
use Rattle.chord_ring.specs.Sound.{IsPeerOf, IdsSound, IsSound}
use Rattle.chord_ring.proofs.Stepping.{member_on_circle}

-- a live identifier that lies before the first live entry is skipped by the list
pub skipped_before_first_live : (members : Members) (ids : List ℕ) (owner before past x : ℕ) (peers : List Peer) (found : Peer)
    → IdsSound ids → owner < circle → x < circle → AllByRecursion (IsPeerOf ids) peers → Rises owner past peers
    → ((y : ℕ) → y < circle → past < walk owner y → walk owner y ≡ past + walk before y)
    → ((peer : Peer) → IsPeerOf ids peer → peer.id.number ≡ x → is_member members peer.number ≡ true)
    → first_live members peers ≡ Some found → past < walk owner x → walk owner x < walk owner found.id.number
    → Skips before peers x
skipped_before_first_live members ids owner before past x [] found sound owner_in x_in known rises sum live e after near = absurd (none-some found e)
skipped_before_first_live members ids owner before past x (peer ∷ peers) found sound owner_in x_in known rises sum live e after near =
    let peer_in : peer.id.number < circle = sound.fit peer.number peer.id.number known.0 in
    let first : past < walk owner peer.id.number = rises.0 in
    let to_peer = sum peer.id.number peer_in first in
    let to_x = sum x x_in after in
    elim (cases_order (walk owner x) (walk owner peer.id.number)) [
      | inl same ↦
          let same_id : peer.id.number ≡ x = sym (same_from_walk owner x peer.id.number owner_in x_in peer_in same) in
          let is_first : Some peer ≡ Some found = sym (rw (live peer known.0 same_id) refl) ∙ e in
          absurd (let same_far = ap (λ (p : Peer). walk owner p.id.number) (same_Some peer found is_first) in omega arith)
      | inr apart ↦
          elim apart [
            | inl nearer ↦ inl (nearer_between before x peer.id.number (omega arith))
            | inr farther ↦
                elim (cases_Bool (is_member members peer.number)) [
                  | inl is_live ↦
                      let is_first : Some peer ≡ Some found = sym (rw is_live refl) ∙ e in
                      absurd (let same_far = ap (λ (p : Peer). walk owner p.id.number) (same_Some peer found is_first) in omega arith)
                  | inr is_dead ↦
                      inr
                      (skipped_before_first_live members ids owner peer.id.number (walk owner peer.id.number) x peers found sound owner_in x_in known.1 rises.1
                      (λ y y_in beyond. walk_nearer owner peer.id.number y owner_in peer_in y_in beyond) live (rw is_dead at e) farther near)
                ]
          ]
    ]

-- the first live entry is one of the peers, known and live
pub first_live_is : (members : Members) (ids : List ℕ) (peers : List Peer) (found : Peer) → AllByRecursion (IsPeerOf ids) peers
    → first_live members peers ≡ Some found → IsPeerOf ids found × (is_member members found.number ≡ true)
first_live_is members ids [] found known e = absurd (none-some found e)
first_live_is members ids (peer ∷ peers) found known e =
    elim (cases_Bool (is_member members peer.number)) [
      | inl is_live ↦
          let same : peer ≡ found = same_Some peer found (sym (rw is_live refl) ∙ e) in
          (subst (IsPeerOf ids) same known.0, subst (λ (p : Peer). is_member members p.number ≡ true) same is_live)
      | inr is_dead ↦ first_live_is members ids peers found known.1 (rw is_dead at e)
    ]

-- a member has links
pub links_from_member : (members : Members) (node : ℕ) → is_member members node ≡ true → (links : NodeLinks) × (links_of members node ≡ Some links)
links_from_member members node is_one = go (links_of members node) refl is_one
  where
    go : (found : Option NodeLinks) → links_of members node ≡ found → is_some found ≡ true → (links : NodeLinks) × (links_of members node ≡ Some links)
    go None e some = absurd (false≢true some)
    go (Some links) e some = (links, e)

-- two peers with equal numbers and equal identifiers are equal
pub same_peer : (peer other : Peer) → peer.number ≡ other.number → peer.id.number ≡ other.id.number → peer ≡ other
same_peer peer other number id = λ i. record { number = number i; id = record { number = id i } }

module _ (ring : Ring) (sound : IsSound ring) where
  -- two members with equal identifiers are equal
  pub same_member : (node other : ℕ) (links theirs : NodeLinks) → links_of ring.members node ≡ Some links → links_of ring.members other ≡ Some theirs
      → links.me.id.number ≡ theirs.me.id.number → links.me ≡ theirs.me
  same_member node other links theirs is_its is_theirs same =
      let mine = sound.each node links is_its in
      let other_one = sound.each other theirs is_theirs in
      same_peer links.me theirs.me (sound.ids.apart links.me.number theirs.me.number links.me.id.number mine.me_known (other_one.me_known ∙ ap Some (sym same))) same

  -- the member that a known live peer names has that peer as its own
  pub live_links : (peer : Peer) → IsPeerOf ring.ids peer → is_member ring.members peer.number ≡ true
      → (links : NodeLinks) × (links_of ring.members peer.number ≡ Some links) × (links.me ≡ peer)
  live_links peer known is_live =
      let (links, is_its) = links_from_member ring.members peer.number is_live in
      let theirs = sound.each peer.number links is_its in
      let id : links.me.id.number ≡ peer.id.number =
      same_Some links.me.id.number peer.id.number (sym theirs.me_known ∙ ap (slice_get ring.ids) theirs.number ∙ known) in
      let number : links.me.number ≡ peer.number = theirs.number in
      (links, is_its, same_peer links.me peer number id)

  -- the next member from a member
  pub next_links : (node : ℕ) (from : NodeLinks) → links_of ring.members node ≡ Some from
      → (next : NodeLinks) × (links_of ring.members next.me.number ≡ Some next) × (next_of ring.members node ≡ Some next.me)
  next_links node from is_its = go (first_live ring.members from.entries) refl (sound.safe.live node from is_its)
    where
      go : (found : Option Peer) → first_live ring.members from.entries ≡ found → is_some found ≡ true
          → (next : NodeLinks) × (links_of ring.members next.me.number ≡ Some next) × (next_of ring.members node ≡ Some next.me)
      go None e some = absurd (false≢true some)
      go (Some peer) e some =
          let found = first_live_is ring.members ring.ids from.entries peer (sound.each node from is_its).known e in
          let (next, is_next, same) = live_links peer found.0 found.1 in (
            next,
            ap (links_of ring.members) (ap (λ (p : Peer). p.number) same) ∙ is_next,
            ap (option_and_then (λ (links : NodeLinks). first_live ring.members links.entries)) is_its ∙ e ∙ ap Some (sym same),
          )

  -- no hop passes a principal
  pub passes_none : (node : ℕ) (from : NodeLinks) (peer : Peer) → links_of ring.members node ≡ Some from → next_of ring.members node ≡ Some peer
      → (target : ℕ) (principal : IsPrincipal ring.members target) → ¬ (IsBetween from.me.id.number principal.links.me.id.number peer.id.number)
  passes_none node from peer is_its is_next target principal between =
      let mine = sound.each node from is_its in
      let theirs = sound.each target principal.links principal.is_its in
      let from_in = member_on_circle ring sound node from is_its in
      let x_in = member_on_circle ring sound target principal.links principal.is_its in
      let e : first_live ring.members from.entries ≡ Some peer =
      sym (ap (option_and_then (λ (links : NodeLinks). first_live ring.members links.entries)) is_its) ∙ is_next in
      let peer_in : peer.id.number < circle = sound.ids.fit peer.number peer.id.number (first_live_is ring.members ring.ids from.entries peer mine.known e).0 in
      principal.unskipped node from is_its
      (skipped_before_first_live ring.members ring.ids from.me.id.number from.me.id.number 0 principal.links.me.id.number from.entries peer sound.ids from_in x_in mine.known mine.rises
      (λ y y_in beyond. omega arith)
      (λ p known same.
      let number : p.number ≡ target =
      sound.ids.apart p.number principal.links.me.number principal.links.me.id.number (known ∙ ap Some same) theirs.me_known ∙ theirs.number in
      ap (is_member ring.members) number ∙ ap is_some principal.is_its)
      e ((walk_range from.me.id.number principal.links.me.id.number from_in x_in).0)
      (between_nearer from.me.id.number principal.links.me.id.number peer.id.number from_in x_in peer_in between))
