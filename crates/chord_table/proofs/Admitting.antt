-- What the registrar's seat and a member's seat show while a node joins behind the member.
use Rattle.std.proofs.Common.{◌≡◌, ℕ, false, List, [], ◌∷◌, ◌++◌, refl, sym, ap, ◌∙◌, subst}
use Rattle.atomic_table.specs.Table.{Me}
use Rattle.chord_model.specs.Node.{Node}
use Rattle.chord_table.proofs.Becoming.{live_actor}
use Rattle.chord_table.proofs.Giving.{all_but_push, last_of_push}
use Rattle.chord_table.specs.Seen.{Actor, OfNode, OfCaller, Sight, View}
use Rattle.chord_table.specs.Views.{Register, Assembled, NodeSight, view_of, view_of_assembled, assembled_of, with_seat, with_admitted, with_number, without_last, last_seat, node_in, crashed_in, as_node, MayJoin, MayJoinBehind}

-- the registrar's view with one number more
pub admitted_view : (new : Actor) (a : Assembled)
    → with_admitted new (view_of_assembled a) ≡ view_of_assembled (record { register = with_number new a.register; taken = a.taken })
admitted_view (OfNode node crashed) a = refl
admitted_view (OfCaller caller) a = refl

-- the registrar's seat with that of the member
pub took : (me you first : Me ℕ View) (a : Assembled) (t : Sight) → me ≡ (view_of_assembled a, [])
    → you ≡ (view_of t, []) → first ≡ (with_seat me.0 you.0, me.1)
    → first ≡ (view_of_assembled (record a { taken = a.taken ++ t ∷ [] }), [])
took me you first a t is came both =
    both ∙ ap (λ (m : Me ℕ View). (with_seat m.0 you.0, m.1)) is
    ∙ ap (λ (y : Me ℕ View). (with_seat (view_of_assembled a) y.0, [])) came

-- then with the number of the new node
pub numbered : (first second : Me ℕ View) (a : Assembled) (new : Actor)
    → first ≡ (view_of_assembled a, []) → second ≡ (with_admitted new first.0, first.1)
    → second ≡ (view_of_assembled (record a { register = with_number new a.register }), [])
numbered first second a new is becomes =
    becomes ∙ ap (λ (m : Me ℕ View). (with_admitted new m.0, m.1)) is
    ∙ ap (λ (v : View). (v, [])) (admitted_view new a)

-- then without the member's seat again
pub released : (second third : Me ℕ View) (register : Register) (others : List Sight) (t : Sight)
    → second ≡ (view_of_assembled (record { register = register; taken = others ++ t ∷ [] }), [])
    → third ≡ (without_last second.0, second.1)
    → third ≡ (view_of_assembled (record { register = register; taken = others }), [])
released second third register others t is becomes =
    becomes ∙ ap (λ (m : Me ℕ View). (without_last m.0, m.1)) is
    ∙ ap (λ (l : List Sight). (view_of_assembled (record { register = register; taken = l }), []))
    (all_but_push others t)

-- and the member's seat as it was
pub returned : (second back : Me ℕ View) (register : Register) (others : List Sight) (t : Sight)
    → second ≡ (view_of_assembled (record { register = register; taken = others ++ t ∷ [] }), [])
    → back ≡ (last_seat second.0, []) → back ≡ (view_of t, [])
returned second back register others t is gives =
    gives ∙ ap (λ (m : Me ℕ View). (last_seat m.0, [])) is
    ∙ ap (λ (s : Sight). (view_of s, [])) (last_of_push others t)

-- a seat that shows this is one of the registrar's
pub assembled_as : (me : Me ℕ View) (a : Assembled) → me ≡ (view_of_assembled a, [])
    → me ≡ (view_of_assembled (assembled_of me.0), [])
assembled_as me a is =
    subst (λ (m : Me ℕ View). m ≡ (view_of_assembled (assembled_of m.0), [])) (sym is) refl

-- a join that the registrar may do is one that its seat allows
pub may_join_behind : (a : Assembled) (t : Sight) (w : NodeSight) (node : Node)
    → t.actor ≡ OfNode (node_in t.actor) (crashed_in t.actor) → as_node t ≡ w
    → w.crashed ≡ false → MayJoin a.register w.node node
    → MayJoinBehind (record a { taken = a.taken ++ t ∷ [] }) (OfNode node false)
may_join_behind a t w node is shows live may = (
  a.taken,
  node_in t.actor,
  t.messages,
  ap (λ (actor : Actor). a.taken ++ record { actor = actor; messages = t.messages } ∷ [])
      (live_actor t w is shows live),
  refl,
  subst (λ (n : NodeSight). MayJoin a.register n.node node) (sym shows) may,
)
