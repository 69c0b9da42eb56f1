-- Each step of a ring keeps it sound and keeps its principals.
use Rattle.std.proofs.Common.{◌≡◌, ℕ, ◌+◌, ◌<◌, ◌≤◌, inl, inr, true, false, List, [], ◌∷◌, ◌++◌, length, drop, Option, Some, arith, refl, ap, sym, subst, ◌∙◌, length-take}
use Rattle.std.specs.Prelude.{is_some, IsSome, slice_get}
use Rattle.std.specs.List.{AllByRecursion, Contains}
use Rattle.std.proofs.lemmas.Bool.{false_from_ne_true, cond_both}
use Rattle.std.proofs.lemmas.Option.{same_Some}
use Rattle.std.proofs.lemmas.List.{length-set, length_push}
use Rattle.chord_ident.specs.Circle.{walk, IsBetween}
use Rattle.chord_links.proofs.Clockwise.{circle, walk_range, between_nearer, nearer_between}
use Rattle.chord_links.specs.declared.peer.Peer.{Peer}
use Rattle.chord_links.specs.declared.fingers.Fingers.{Fingers}
use Rattle.chord_links.specs.NodeLinks.{NodeLinks, first_entry}
use Rattle.chord_links.specs.Successors.{Rises, Skips, rising_front, behind_predecessor}
use Rattle.chord_links.proofs.Skipping.{Skips-behind_successor, Skips-joined, Skips-without_head, Rises-rising_front, Rises-take, Rises-joined, behind_predecessor_all}
use Rattle.chord_ring.specs.declared.ring_step.RingStep.{RingStep}
use Rattle.chord_ring.specs.declared.ring_step.RingStep.TheVariants.{Join, Stabilise, Candidate, DropDead, Rectify}
use Rattle.chord_ring.specs.Ring.{Members, links_of, is_member, first_live, KeepsPrincipals}
use Rattle.chord_ring.specs.Steps.{Ring, Joins, Stabilises, TakesCandidate, DropsDead, Rectifies, Step, joined_links, links_behind, without_head, with_links, gives_way, is_live}
use Rattle.chord_ring.proofs.Lookups.{Updates, Updates-set, Updates-push, member_within}
use Rattle.chord_ring.specs.Sound.{IsPeerOf, IdsSound, LinksSound, IsSound}
use Rattle.chord_ring.proofs.Peers.{each_take, each_rising_front, OnCircle-known, first_and_rest, live_first, Rises-past_less, slice_get-push_old, slice_get-push_new, IdsSound-push}
use Rattle.chord_ring.proofs.Keeping.{Change, known_more, principal_stays, still_sound}

-- the ring is sound, and each principal that is still a member is still a principal
pub record Kept (old new : Ring) : Type 0 where
  pub sound : IsSound new
  pub principals : KeepsPrincipals old.members new.members

pub Kept-change : (old new : Ring) (at : ℕ) (after : NodeLinks) → IsSound old → Change old new at after → Kept old new
Kept-change old new at after sound change =
    record { sound = still_sound old new at after sound change; principals = λ node principal _. principal_stays old new at after sound change node principal }

-- a member's identifier is on the circle
pub member_on_circle : (ring : Ring) → IsSound ring → (node : ℕ) (links : NodeLinks) → links_of ring.members node ≡ Some links → links.me.id.number < circle
member_on_circle ring sound node links is_its = sound.ids.fit links.me.number links.me.id.number (sound.each node links is_its).me_known

pub is_member_from : (members : Members) (node : ℕ) (links : NodeLinks) → links_of members node ≡ Some links → is_member members node ≡ true
is_member_from members node links is_its = ap is_some is_its

-- a member gets other links, which are sound, have a live entry and skip no more
pub Kept-with_links : (old : Ring) (at : ℕ) (before after : NodeLinks) → IsSound old → links_of old.members at ≡ Some before → before.me ≡ after.me
    → LinksSound old.ids at after → IsSome (first_live old.members after.entries)
    → ((node : ℕ) (links : NodeLinks) → links_of old.members node ≡ Some links → Skips after.me.id.number after.entries links.me.id.number
    → (other : ℕ) × (theirs : NodeLinks) × (links_of old.members other ≡ Some theirs) × Skips theirs.me.id.number theirs.entries links.me.id.number)
    → Kept old (with_links old at after)
Kept-with_links old at before after sound is_its same_me after_sound live skips =
    Kept-change old (with_links old at after) at after sound
    (record {
      updates = Updates-set old.members at (Some after) (member_within old.members at before is_its);
      ids = sound.ids;
      grows = λ node id e. e;
      lengths = length-set old.members at (Some after) ∙ sound.lengths;
      sound = after_sound;
      live = live;
      same_me = λ links e. ap (λ (l : NodeLinks). l.me) (same_Some links before (sym e ∙ is_its)) ∙ same_me;
      skips = skips;
    })

-- a member copies the list of a live node that is its first entry or lies before it
pub Kept-behind : (old : Ring) (at head : ℕ) (links theirs : NodeLinks) → IsSound old → links_of old.members at ≡ Some links → links_of old.members head ≡ Some theirs
    → ((x : ℕ) → x < circle → IsBetween links.me.id.number x theirs.me.id.number → Skips links.me.id.number links.entries x)
    → Kept old (with_links old at (links_behind links theirs))
Kept-behind old at head links theirs sound is_its is_live near =
    let mine : LinksSound old.ids at links = sound.each at links is_its in
    let copied : LinksSound old.ids head theirs = sound.each head theirs is_live in
    let me_in = member_on_circle old sound at links is_its in
    let head_in = member_on_circle old sound head theirs is_live in
    let far = walk links.me.id.number theirs.me.id.number in
    let rest : List Peer = rising_front links.me.id.number far theirs.entries in
    let live : is_member old.members theirs.me.number ≡ true =
    ap (is_member old.members) copied.number ∙ is_member_from old.members head theirs is_live in
    Kept-with_links old at links (links_behind links theirs) sound is_its refl
    (record {
      number = mine.number;
      me_known = mine.me_known;
      known = each_take (IsPeerOf old.ids) links.r (theirs.me ∷ rest)
          (copied.me_known, each_rising_front (IsPeerOf old.ids) links.me.id.number far theirs.entries copied.known);
      rises = Rises-take links.r links.me.id.number 0 (theirs.me ∷ rest)
          ((walk_range links.me.id.number theirs.me.id.number me_in head_in).0, Rises-rising_front links.me.id.number far theirs.entries);
      short = let e = length-take links.r (theirs.me ∷ rest) in omega arith;
      positive = mine.positive;
    })
    (live_first old.members links.r theirs.me rest mine.positive live)
    (λ node member is_member skips.
    elim (Skips-behind_successor links.me.id.number links.r theirs.me theirs.entries member.me.id.number skips) [
      | inl between ↦ (at, links, is_its, near member.me.id.number (member_on_circle old sound node member is_member) between)
      | inr copy ↦ (head, theirs, is_live, copy)
    ])

pub Kept-stabilises : (old : Ring) (node head : ℕ) (new : Ring) → IsSound old → Stabilises old node head new → Kept old new
Kept-stabilises old node head new sound step =
    let rest : List Peer = drop 1 step.links.entries in
    let entries : step.links.entries ≡ step.theirs.me ∷ rest =
    first_and_rest old.members step.links (sound.safe.live node step.links step.is_its) ∙ ap (λ (p : Peer). p ∷ rest) step.is_first in
    subst (Kept old) (sym step.result)
    (Kept-behind old node head step.links step.theirs sound step.is_its step.is_live
    (λ x x_in between. subst (λ (l : List Peer). Skips step.links.me.id.number l x) (sym entries) (inl between)))

pub Kept-takes_candidate : (old : Ring) (node peer : ℕ) (new : Ring) → IsSound old → TakesCandidate old node peer new → Kept old new
Kept-takes_candidate old node peer new sound step =
    let entries : step.links.entries ≡ first_entry step.links ∷ drop 1 step.links.entries =
    first_and_rest old.members step.links (sound.safe.live node step.links step.is_its) in
    let me_in = member_on_circle old sound node step.links step.is_its in
    let peer_in = member_on_circle old sound peer step.theirs step.is_live in
    let known : AllByRecursion (IsPeerOf old.ids) (first_entry step.links ∷ drop 1 step.links.entries) =
    subst (AllByRecursion (IsPeerOf old.ids)) entries (sound.each node step.links step.is_its).known in
    let closer = between_nearer step.links.me.id.number step.theirs.me.id.number (first_entry step.links).id.number me_in peer_in
    (OnCircle-known old.ids sound.ids (first_entry step.links ∷ drop 1 step.links.entries) known).0 step.is_between in
    subst (Kept old) (sym step.result)
    (Kept-behind old node peer step.links step.theirs sound step.is_its step.is_live
    (λ x x_in between.
    let near = between_nearer step.links.me.id.number x step.theirs.me.id.number me_in x_in peer_in between in
    let nearer : walk step.links.me.id.number x < walk step.links.me.id.number (first_entry step.links).id.number = omega arith in
    subst (λ (l : List Peer). Skips step.links.me.id.number l x) (sym entries) (inl (nearer_between step.links.me.id.number x (first_entry step.links).id.number nearer))))

pub Kept-drops_dead : (old : Ring) (node : ℕ) (new : Ring) → IsSound old → DropsDead old node new → Kept old new
Kept-drops_dead old node new sound step =
    let links = step.links in
    let first = first_entry links in
    let rest : List Peer = drop 1 links.entries in
    let entries : links.entries ≡ first ∷ rest = first_and_rest old.members links (sound.safe.live node links step.is_its) in
    let mine : LinksSound old.ids node links = sound.each node links step.is_its in
    let known : AllByRecursion (IsPeerOf old.ids) (first ∷ rest) = subst (AllByRecursion (IsPeerOf old.ids)) entries mine.known in
    let rises : Rises links.me.id.number 0 (first ∷ rest) = subst (Rises links.me.id.number 0) entries mine.rises in
    let dead : is_member old.members first.number ≡ false = false_from_ne_true (is_member old.members first.number) step.is_dead in
    let live : IsSome (first_live old.members (first ∷ rest)) =
    subst (λ (l : List Peer). IsSome (first_live old.members l)) entries (sound.safe.live node links step.is_its) in
    subst (Kept old) (sym step.result)
    (Kept-with_links old node links (without_head links) sound step.is_its refl
    (record {
      number = mine.number;
      me_known = mine.me_known;
      known = known.1;
      rises = Rises-past_less links.me.id.number 0 (walk links.me.id.number first.id.number) rest (omega arith) rises.1;
      short = let e = ap length entries in let short = mine.short in omega arith;
      positive = mine.positive;
    })
    (rw dead at live)
    (λ other member is_its skips.
    let theirs : LinksSound old.ids other member = sound.each other member is_its in
    let not_first : ¬ (member.me.id.number ≡ first.id.number) =
    λ same.
    let one : member.me.number ≡ first.number = sound.ids.apart member.me.number first.number member.me.id.number theirs.me_known (known.0 ∙ ap Some (sym same)) in
    step.is_dead (ap (is_member old.members) (sym one ∙ theirs.number) ∙ is_member_from old.members other member is_its) in (
      node,
      links,
      step.is_its,
      subst (λ (l : List Peer). Skips links.me.id.number l member.me.id.number) (sym entries)
          (Skips-without_head links.me.id.number first rest member.me.id.number (member_on_circle old sound node links step.is_its)
          (OnCircle-known old.ids sound.ids (first ∷ rest) known) (member_on_circle old sound other member is_its) not_first rises skips),
    )))

-- another predecessor and other fingers
links_still_sound : (ids : List ℕ) (node : ℕ) (links : NodeLinks) (predecessor : Option Peer) (fingers : Fingers) → LinksSound ids node links → LinksSound ids node (record links { predecessor = predecessor; fingers = fingers })
links_still_sound ids node links predecessor fingers mine =
    record { number = mine.number; me_known = mine.me_known; known = mine.known; rises = mine.rises; short = mine.short; positive = mine.positive }

pub Kept-rectifies : (old : Ring) (node notifier : ℕ) (new : Ring) → IsSound old → Rectifies old node notifier new → Kept old new
Kept-rectifies old node notifier new sound step =
    let links = step.links in
    let mine : LinksSound old.ids node links = sound.each node links step.is_its in
    let live : IsSome (first_live old.members links.entries) = sound.safe.live node links step.is_its in
    let found : NodeLinks = record links { predecessor = Some step.theirs.me } in
    subst (Kept old) (sym step.result)
    (cond_both (gives_way links.me step.theirs.me (is_live old.members links.predecessor) links.predecessor) found links (λ after. Kept old (with_links old node after))
    (λ _.
    Kept-with_links old node links found sound step.is_its refl
    (links_still_sound old.ids node links _ _ mine)
    live (λ other member is_its skips. (node, links, step.is_its, skips)))
    (λ _. Kept-with_links old node links links sound step.is_its refl mine live (λ other member is_its skips. (node, links, step.is_its, skips))))

-- a member gets other fingers
pub Kept-fingers : (old : Ring) (node : ℕ) (links : NodeLinks) (fingers : Fingers) → IsSound old → links_of old.members node ≡ Some links
    → Kept old (with_links old node (record links { fingers = fingers }))
Kept-fingers old node links fingers sound is_its =
    let mine : LinksSound old.ids node links = sound.each node links is_its in
    Kept-with_links old node links (record links { fingers = fingers }) sound is_its refl
    (links_still_sound old.ids node links _ _ mine)
    (sound.safe.live node links is_its) (λ other member member_is skips. (node, links, is_its, skips))

pub Kept-joins : (old : Ring) (id pred : ℕ) (new : Ring) → IsSound old → Joins old id pred new → Kept old new
Kept-joins old id pred new sound step =
    let links = step.links in
    let first = first_entry links in
    let peer : Peer = record { number = length old.ids; id = record { number = id } } in
    let after : NodeLinks = joined_links peer links in
    let rest : List Peer = drop 1 links.entries in
    let entries : links.entries ≡ first ∷ rest = first_and_rest old.members links (sound.safe.live pred links step.is_its) in
    let theirs : LinksSound old.ids pred links = sound.each pred links step.is_its in
    let known : AllByRecursion (IsPeerOf old.ids) (first ∷ rest) = subst (AllByRecursion (IsPeerOf old.ids)) entries theirs.known in
    let on = OnCircle-known old.ids sound.ids (first ∷ rest) known in
    let pred_in = member_on_circle old sound pred links step.is_its in
    let rises : Rises links.me.id.number 0 (first ∷ rest) = subst (Rises links.me.id.number 0) entries theirs.rises in
    let short : length (first ∷ rest) ≤ links.r = subst (λ (l : List Peer). length l ≤ links.r) entries theirs.short in
    let whole : behind_predecessor id links.r links.entries ≡ first ∷ rest =
    ap (behind_predecessor id links.r) entries
    ∙ behind_predecessor_all id links.me.id.number links.r first rest step.is_id pred_in on step.is_between rises short in
    let number : length old.members ≡ length old.ids = sound.lengths in
    let grows : (node other : ℕ) → slice_get old.ids node ≡ Some other → slice_get new.ids node ≡ Some other =
    λ node other e. subst (λ (ids : List ℕ). slice_get ids node ≡ Some other) (sym step.ids) (slice_get-push_old old.ids id node other e) in
    Kept-change old new (length old.members) after sound
    (record {
      updates = subst (λ (m : Members). Updates old.members m (length old.members) (Some after)) (sym step.members) (Updates-push old.members (Some after));
      ids = subst IdsSound (sym step.ids) (IdsSound-push old.ids id sound.ids step.is_id step.is_unused);
      grows = grows;
      lengths = ap length step.members ∙ length_push old.members (Some after) ∙ ap (λ n. n + 1) number ∙ sym (length_push old.ids id) ∙ sym (ap length step.ids);
      sound =
          record {
            number = sym number;
            me_known = subst (λ (ids : List ℕ). slice_get ids (length old.ids) ≡ Some id) (sym step.ids) (slice_get-push_new old.ids id);
            known = known_more old.ids new.ids grows (behind_predecessor id links.r links.entries) (subst (AllByRecursion (IsPeerOf old.ids)) (sym whole) known);
            rises = subst (Rises id 0) (sym whole) (Rises-joined id links.me.id.number first rest step.is_id pred_in on step.is_between rises);
            short = subst (λ (l : List Peer). length l ≤ links.r) (sym whole) short;
            positive = theirs.positive;
          };
      live = subst (λ (l : List Peer). IsSome (first_live old.members l)) (entries ∙ sym whole) (sound.safe.live pred links step.is_its);
      same_me = λ before e. absurd (let within = member_within old.members (length old.members) before e in omega arith);
      skips = λ other member is_its skips. (
        pred,
        links,
        step.is_its,
        subst (λ (l : List Peer). Skips links.me.id.number l member.me.id.number) (sym entries)
            (Skips-joined id links.me.id.number first rest member.me.id.number step.is_id pred_in on.0 (member_on_circle old sound other member is_its) step.is_between
            (subst (λ (l : List Peer). Skips id l member.me.id.number) whole skips)),
      );
    })

-- each step keeps the ring sound and its principals
pub Kept-step : (old new : Ring) (step : RingStep) → IsSound old → Step old step new → Kept old new
Kept-step old new (Join id pred) sound step = Kept-joins old id.number pred new sound step
Kept-step old new (Stabilise node head) sound step = Kept-stabilises old node head new sound step
Kept-step old new (Candidate node peer) sound step = Kept-takes_candidate old node peer new sound step
Kept-step old new (DropDead node) sound step = Kept-drops_dead old node new sound step
Kept-step old new (Rectify node notifier) sound step = Kept-rectifies old node notifier new sound step

-- storing a member's links after a step keeps the ring sound and its principals
pub stored : (old now : Ring) (node : ℕ) (after : NodeLinks) → IsSound old → old ≡ now → (step : RingStep) × Step now step (with_links now node after)
    → IsSound (with_links old node after) × KeepsPrincipals now.members (with_links old node after).members
stored old now node after sound same (step, done) =
    let kept = Kept-step now (with_links now node after) step (subst IsSound same sound) done in (
      subst (λ (ring : Ring). IsSound (with_links ring node after)) (sym same) kept.sound,
      subst (λ (ring : Ring). KeepsPrincipals now.members (with_links ring node after).members) (sym same) kept.principals,
    )

pub stored_joined : (old now new : Ring) (id pred number : ℕ) (links after : NodeLinks) → IsSound old → old ≡ now → Some links ≡ links_of now.members pred
    → id < circle → ¬ (Contains old.ids id) → IsBetween links.me.id.number id (first_entry links).id.number → number ≡ length old.ids
    → after ≡ joined_links (record { number = number; id = record { number = id } }) links → new.ids ≡ old.ids ++ id ∷ [] → new.members ≡ old.members ++ Some after ∷ []
    → Joins now id pred new × IsSound new × KeepsPrincipals now.members new.members
stored_joined old now new id pred number links after sound same is_its id_in unused between numbered stored ids members =
    let peer : ℕ → Peer = λ (n : ℕ). record { number = n; id = record { number = id } } in
    let step : Joins old id pred new =
    record {
      links = links;
      is_its = ap (λ (r : Ring). links_of r.members pred) same ∙ sym is_its;
      is_id = id_in;
      is_unused = unused;
      is_between = between;
      ids = ids;
      members = members ∙ ap (λ (l : NodeLinks). old.members ++ Some l ∷ []) (stored ∙ ap (λ (n : ℕ). joined_links (peer n) links) numbered);
    } in
    let kept = Kept-joins old id pred new sound step in
    (subst (λ (r : Ring). Joins r id pred new) same step, kept.sound, subst (λ (r : Ring). KeepsPrincipals r.members new.members) same kept.principals)
