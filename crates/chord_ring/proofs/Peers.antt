-- Lists of known peers, and the identifiers of the nodes that ever joined.
use Rattle.std.proofs.Common.{◌≡◌, ℕ, zero, suc, ◌<◌, ◌≤◌, ◌⊎◌, inl, inr, true, ltb, List, [], ◌∷◌, ◌++◌, length, take, drop, get_or, Some, arith, refl, ap, sym, subst, ◌∙◌}
use Rattle.std.specs.Prelude.{IsSome, slice_get}
use Rattle.std.specs.List.{AllByRecursion, Contains}
use Rattle.std.proofs.lemmas.Bool.{cond_both, false≢true}
use Rattle.std.proofs.lemmas.Option.{same_Some, none-some, slice_get_within, get_or_from_slice_get}
use Rattle.chord_ident.specs.Circle.{walk}
use Rattle.chord_links.proofs.Clockwise.{circle}
use Rattle.chord_links.specs.declared.peer.Peer.{Peer}
use Rattle.chord_links.specs.NodeLinks.{NodeLinks, first_entry}
use Rattle.chord_links.specs.Successors.{Rises, rising_front}
use Rattle.chord_links.proofs.Skipping.{OnCircle}
use Rattle.chord_ring.specs.Ring.{Members, is_member, first_live}
use Rattle.chord_ring.specs.Sound.{IsPeerOf, IdsSound}

-- a property of each peer holds of each in a prefix, and in the rising prefix
pub each_take : (P : Peer → Type 0) (n : ℕ) (peers : List Peer) → AllByRecursion P peers → AllByRecursion P (take n peers)
each_take P zero peers each = tt
each_take P (suc n) [] each = tt
each_take P (suc n) (peer ∷ peers) each = (each.0, each_take P n peers each.1)

pub each_rising_front : (P : Peer → Type 0) (owner past : ℕ) (peers : List Peer) → AllByRecursion P peers → AllByRecursion P (rising_front owner past peers)
each_rising_front P owner past [] each = tt
each_rising_front P owner past (peer ∷ peers) each =
    cond_both (ltb past (walk owner peer.id.number)) (peer ∷ rising_front owner (walk owner peer.id.number) peers) [] (AllByRecursion P)
    (λ _. (each.0, each_rising_front P owner (walk owner peer.id.number) peers each.1)) (λ _. tt)

-- known peers have identifiers on the circle
pub OnCircle-known : (ids : List ℕ) → IdsSound ids → (peers : List Peer) → AllByRecursion (IsPeerOf ids) peers → OnCircle peers
OnCircle-known ids sound [] known = tt
OnCircle-known ids sound (peer ∷ peers) known = (sound.fit peer.number peer.id.number known.0, OnCircle-known ids sound peers known.1)

-- a list with a live entry is its first entry and the rest
pub first_and_rest : (members : Members) (links : NodeLinks) → IsSome (first_live members links.entries) → links.entries ≡ first_entry links ∷ drop 1 links.entries
first_and_rest members links live = go links.entries live
  where
    go : (peers : List Peer) → IsSome (first_live members peers) → peers ≡ get_or peers 0 links.me ∷ drop 1 peers
    go [] some = absurd (false≢true some)
    go (peer ∷ peers) some = refl

-- a prefix that begins with a live node has a live node
pub live_first : (members : Members) (r : ℕ) (head : Peer) (rest : List Peer) → 0 < r → is_member members head.number ≡ true
    → IsSome (first_live members (take r (head ∷ rest)))
live_first members zero head rest positive live = absurd (omega arith)
live_first members (suc n) head rest positive live = rw live refl

-- what rises past a number rises past a smaller one
pub Rises-past_less : (owner less past : ℕ) (peers : List Peer) → less ≤ past → Rises owner past peers → Rises owner less peers
Rises-past_less owner less past [] below rises = tt
Rises-past_less owner less past (peer ∷ peers) below rises = (let first : past < walk owner peer.id.number = rises.0 in omega arith, rises.1)

-- one more identifier at the end: the others stay, and it is last
pub slice_get-push_old : (ids : List ℕ) (id node other : ℕ) → slice_get ids node ≡ Some other → slice_get (ids ++ id ∷ []) node ≡ Some other
slice_get-push_old [] id node other e = absurd (none-some other e)
slice_get-push_old (x ∷ ids) id zero other e = e
slice_get-push_old (x ∷ ids) id (suc node) other e = slice_get-push_old ids id node other e

pub slice_get-push_new : (ids : List ℕ) (id : ℕ) → slice_get (ids ++ id ∷ []) (length ids) ≡ Some id
slice_get-push_new [] id = refl
slice_get-push_new (x ∷ ids) id = slice_get-push_new ids id

pub slice_get-push_cases : (ids : List ℕ) (id node other : ℕ) → slice_get (ids ++ id ∷ []) node ≡ Some other
    → (slice_get ids node ≡ Some other) ⊎ ((node ≡ length ids) × (id ≡ other))
slice_get-push_cases [] id zero other e = inr (refl, same_Some id other e)
slice_get-push_cases [] id (suc node) other e = absurd (none-some other e)
slice_get-push_cases (x ∷ ids) id zero other e = inl e
slice_get-push_cases (x ∷ ids) id (suc node) other e =
    elim (slice_get-push_cases ids id node other e) [ inl old ↦ inl old | inr new ↦ inr (ap suc new.0, new.1) ]

-- a new identifier that was never used keeps them apart
pub IdsSound-push : (ids : List ℕ) (id : ℕ) → IdsSound ids → id < circle → ¬ (Contains ids id) → IdsSound (ids ++ id ∷ [])
IdsSound-push ids id sound id_in unused =
    let never : (node : ℕ) → ¬ (slice_get ids node ≡ Some id) =
    λ node e. unused (node, slice_get_within ids node id e, get_or_from_slice_get ids node id id e) in
    record {
      fit = λ node other e.
          elim (slice_get-push_cases ids id node other e) [ inl old ↦ sound.fit node other old | inr new ↦ subst (λ (x : ℕ). x < circle) new.1 id_in ];
      apart = λ node other x e f.
          elim (slice_get-push_cases ids id node x e) [
            | inl old ↦
                elim (slice_get-push_cases ids id other x f) [
                  | inl old' ↦ sound.apart node other x old old'
                  | inr new' ↦ absurd (never node (old ∙ ap Some (sym new'.1)))
                ]
            | inr new ↦
                elim (slice_get-push_cases ids id other x f) [
                  | inl old' ↦ absurd (never other (old' ∙ ap Some (sym new.1)))
                  | inr new' ↦ new.0 ∙ sym new'.0
                ]
          ];
    }
