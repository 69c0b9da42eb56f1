-- Nodes whose links change.
use Rattle.std.proofs.Common.{◌≡◌, ℕ, ◌<◌, ◌≤◌, ◌||◌, Bool, true, false, inl, inr, None, Some, length, get_or, set, refl, sym, ◌∙◌, ap, subst}
use Rattle.std.specs.Prelude.{slice_get}
use Rattle.std.proofs.lemmas.Bool.{cases_Bool}
use Rattle.chord_links.specs.declared.peer.Peer.{Peer}
use Rattle.chord_model.specs.Node.{Node}
use Rattle.chord_model.specs.World.{node_at}
use Rattle.chord_links.specs.NodeLinks.{NodeLinks}
use Rattle.chord_ring.proofs.Stepping.{Kept, Kept-fingers}
use Rattle.chord_world.specs.Members.{is_dead, is_gone, links_unless, member_links, ring_with}
use Rattle.chord_world.specs.State.{WorldState, IsWorld, ring_of, fate_of}
use Rattle.chord_world.specs.Linking.{with_finger_at}
use Rattle.chord_world.proofs.Placing.{nodes_by, stands_at, missing_at}
use Rattle.chord_world.proofs.RingLemmas.{member_at, ring_relinked}
use Rattle.chord_world.proofs.Acting.{node_there, ring_is, ring_dead}
use Rattle.chord_world.proofs.Posting.{got, slice_get_there}

pub node_stands : (place : ℕ) (view old : WorldState) (node : Node) → view ≡ old → IsWorld view → slice_get view.world.nodes place ≡ Some node → node_at place old.world.nodes ≡ Some node
node_stands place view old node same kept here = stands_at nodes_by (λ (w : WorldState). w.world.nodes) place view old node same kept.nodes here

pub node_missing : (place : ℕ) (view old : WorldState) → view ≡ old → IsWorld view → length view.world.nodes ≤ place → node_at place old.world.nodes ≡ None
node_missing place view old same kept past = missing_at nodes_by (λ (w : WorldState). w.world.nodes) place view old same kept.nodes past

-- the node that was read at an index has that number
pub node_found : (place : ℕ) (view old : WorldState) (node : Node) → view ≡ old → IsWorld view → place < length view.world.nodes → node ≡ get_or view.world.nodes place node → node_at place old.world.nodes ≡ Some node
node_found place view old node same kept within is = node_stands place view old node same kept (got view.world.nodes place node within is)

-- the ring after it: unchanged except for the fingers
pub pointed_ring : (place finger : ℕ) (peer : Peer) (node : Node) (view : WorldState) → IsWorld view → slice_get view.world.nodes place ≡ Some node
    → Kept (ring_of view) (ring_with (set view.world.nodes place (with_finger_at finger peer node)) view.fates)
pointed_ring place finger peer node view kept here =
    let after = with_finger_at finger peer node in
    elim (cases_Bool (is_dead (fate_of place view))) [
      | inl dead ↦ ring_dead place node after view kept here refl dead
      | inr running ↦ elim (cases_Bool (is_gone node.phase)) [
        | inl gone ↦ ring_is place node after view kept here refl
            (ap (λ g. links_unless (is_dead (fate_of place view) || g) after.links) gone
            ∙ gone_both (is_dead (fate_of place view)) after.links node.links
            ∙ sym (ap (λ g. links_unless (is_dead (fate_of place view) || g) node.links) gone))
        | inr staying ↦
            let sound = kept.ring (node_there place view.world.nodes node here) in
            let member = member_at place view.world.nodes view.fates node kept.fates here ∙ ap (λ out. member_links out node) running ∙ ap (λ g. links_unless g node.links) staying in
            subst (Kept (ring_of view)) (sym (ring_relinked place node after.links view.world.nodes view.fates kept.fates here running staying refl))
            (Kept-fingers (ring_of view) place node.links after.links.fingers sound member)
      ]
    ]
  where
    gone_both : (dead : Bool) (links other : NodeLinks) → links_unless (dead || true) links ≡ links_unless (dead || true) other
    gone_both true links other = refl
    gone_both false links other = refl

pub node_within : (place : ℕ) (view old : WorldState) → view ≡ old → IsWorld view → place < length view.world.nodes → (node : Node) × (node_at place old.world.nodes ≡ Some node)
node_within place view old same kept within =
    let found = slice_get_there view.world.nodes place within in
    (found.0, node_stands place view old found.0 same kept found.1)
