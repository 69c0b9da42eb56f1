-- What the ring has of each node, as sights show it.
use Rattle.std.proofs.Common.{◌≡◌, ◌≢◌, ℕ, suc, arith, Bool, false, List, [], ◌∷◌, ◌++◌, ⊎_elim, length, map, refl, sym, ap, ◌∙◌, subst, ◌⊎◌, inl, inr, Contains}
use Rattle.std.specs.Prelude.{is_some, IsTrue}
use Rattle.std.proofs.lemmas.List.{map-append, nil_from_length}
use Rattle.chord_map.proofs.Equal.{same_or_not, eqb_same, eqb_other}
use Rattle.chord_map.proofs.Lists.{Has, contains_has}
use Rattle.chord_model.specs.declared.message.Message.{Message}
use Rattle.chord_model.specs.Node.{Node}
use Rattle.chord_ring.specs.Ring.{Members, links_of}
use Rattle.chord_table.proofs.Rings.{push_same, push_other}
use Rattle.chord_table.specs.Rings.{place_at, place_among, AreMembers}
use Rattle.chord_table.specs.Scenes.{place_of}
use Rattle.chord_table.specs.Seen.{Actor, OfNode, OfCaller, Sight}
use Rattle.chord_table.specs.Actors.{AreOne}
use Rattle.chord_table.specs.Views.{OneIs, Assembled, with_node, nodes_among, numbers_among}

-- ---- one more sight

module _ (node : Node) (crashed : Bool) (messages : List Message) where
  -- the sight of the node's seat
  abbrev its : Sight
  its = record { actor = OfNode node crashed; messages = messages }

  -- the nodes of the sights with this one behind them
  pub nodes_pushed : (taken : List Sight)
      → nodes_among (taken ++ its ∷ []) ≡ nodes_among taken ++ node ∷ []
  nodes_pushed [] = refl
  nodes_pushed (sight ∷ rest) =
      ap (λ nodes. with_node sight.actor nodes) (nodes_pushed rest)
      ∙ in_front sight.actor (nodes_among rest)
    where
      in_front : (actor : Actor) (nodes : List Node)
          → with_node actor (nodes ++ node ∷ []) ≡ with_node actor nodes ++ node ∷ []
      in_front (OfNode other out) nodes = refl
      in_front (OfCaller caller) nodes = refl

  pub numbers_pushed : (taken : List Sight)
      → numbers_among (taken ++ its ∷ []) ≡ numbers_among taken ++ node.number ∷ []
  numbers_pushed taken =
      ap (map (λ (n : Node). n.number)) (nodes_pushed taken)
      ∙ map-append (λ (n : Node). n.number) (nodes_among taken) (node ∷ [])

  -- at each other number the ring has what it had
  pub place_elsewhere : (taken : List Sight) (number : ℕ) → number ≢ node.number
      → place_among number (taken ++ its ∷ []) ≡ place_among number taken
  place_elsewhere [] number apart = rw (eqb_other node.number number (λ e. apart (sym e))) refl
  place_elsewhere (sight ∷ rest) number apart =
      ap (λ others. place_at number sight.actor others) (place_elsewhere rest number apart)

  abbrev IsNone : List Node → Type 0
  IsNone nodes = Has (map (λ (n : Node). n.number) nodes) node.number → ⊥

  place_behind : (taken : List Sight) → IsNone (nodes_among taken)
      → place_among node.number (taken ++ its ∷ []) ≡ place_of crashed node
  place_behind [] none = rw (eqb_same node.number node.number refl) refl
  place_behind (sight ∷ rest) none = by_kind sight.actor none (λ away. place_behind rest away)
    where
      more_sights : List Sight
      more_sights = rest ++ its ∷ []

      by_kind : (actor : Actor) → IsNone (with_node actor (nodes_among rest))
          → (IsNone (nodes_among rest)
          → place_among node.number more_sights ≡ place_of crashed node)
          → place_at node.number actor (place_among node.number more_sights) ≡ place_of crashed node
      by_kind (OfNode other out) none more =
          let apart : other.number ≢ node.number = λ e. none (inl e) in
          rw (eqb_other other.number node.number apart) (more (λ has. none (inr has)))
      by_kind (OfCaller caller) none more = more none

  -- at its own it has this node, if that is none of those before
  pub place_pushed : (taken : List Sight) → (Contains (numbers_among taken) node.number → ⊥)
      → place_among node.number (taken ++ its ∷ []) ≡ place_of crashed node
  place_pushed taken fresh =
      place_behind taken (λ has. fresh (contains_has (numbers_among taken) node.number has))

  -- so members with the next number are members with one more place
  pub members_pushed : (taken : List Sight) (members : Members)
      → (Contains (numbers_among taken) node.number → ⊥) → node.number ≡ length members
      → ((number : ℕ) → links_of members number ≡ place_among number taken)
      → (number : ℕ) → links_of (members ++ place_of crashed node ∷ []) number
      ≡ place_among number (taken ++ its ∷ [])
  members_pushed taken members fresh next are number = ⊎_elim
      (λ (same : number ≡ node.number).
      ap (λ n. links_of (members ++ place_of crashed node ∷ []) n) (same ∙ next)
      ∙ push_same members (place_of crashed node)
      ∙ sym (ap (λ n. place_among n (taken ++ its ∷ [])) same ∙ place_pushed taken fresh))
      (λ (apart : number ≢ node.number).
      push_other members (place_of crashed node) number (λ e. apart (e ∙ sym next)) ∙ are number
      ∙ sym (place_elsewhere taken number apart))
      (same_or_not number node.number)

-- ---- what the sights show is one ring

-- two lists with the same links at each number are one
same_members : (members others : Members) → length members ≡ length others
    → ((number : ℕ) → links_of members number ≡ links_of others number) → members ≡ others
same_members [] others counted links = sym (nil_from_length others (sym counted))
same_members (member ∷ members) [] counted links = absurd (omega arith)
same_members (member ∷ members) (other ∷ others) counted links =
    let more : members ≡ others =
    same_members members others (omega arith) (λ number. links (suc number)) in
    ap (λ first. first ∷ members) (links 0) ∙ ap (λ rest. other ∷ rest) more

pub one_members : (a : Assembled) (members others : Members) → AreMembers a members
    → AreMembers a others → members ≡ others
one_members a members others are too =
    same_members members others (are.counted ∙ sym too.counted)
    (λ number. are.links number ∙ sym (too.links number))

-- a node that has a place is one of those whose seats were taken in
pub placed_one : (taken : List Sight) (node : Node) → IsTrue (is_some (place_among node.number taken))
    → OneIs taken (OfNode node false)
placed_one [] node some = cc
placed_one (sight ∷ rest) node some = by_kind sight.actor some (λ is. placed_one rest node is)
  where
    by_kind : (actor : Actor)
        → IsTrue (is_some (place_at node.number actor (place_among node.number rest)))
        → (IsTrue (is_some (place_among node.number rest)) → OneIs rest (OfNode node false))
        → AreOne actor (OfNode node false) ⊎ OneIs rest (OfNode node false)
    by_kind (OfNode other gone) some more = ⊎_elim
        (λ (same : other.number ≡ node.number). inl same)
        (λ (apart : other.number ≢ node.number).
        inr (more (rw (eqb_other other.number node.number apart) at some)))
        (same_or_not other.number node.number)
    by_kind (OfCaller caller) some more = inr (more some)
