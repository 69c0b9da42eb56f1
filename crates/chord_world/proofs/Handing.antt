-- Nodes that change, give or drop what they hold: the world keeps its rules, and so does its ring.
use Rattle.std.proofs.Common.{◌≡◌, ◌≢◌, ℕ, zero, suc, ◌<◌, inl, inr, Bool, true, false, Option, None, Some, Result, Ok, Err, List, [], ◌∷◌, length, refl, sym, ◌∙◌, ap, subst, arith}
use Rattle.std.specs.Prelude.{slice_get, IsErrAnd, ◌==◌, cond, ◌&&◌, nat_le, is_some}
use Rattle.std.proofs.lemmas.Bool.{true≢false}
use Rattle.std.proofs.lemmas.Option.{slice_get_within, same_Some}
use Rattle.chord_map.proofs.Equal.{eqb_other}
use Rattle.chord_ident.specs.declared.id.Id.{Id}
use Rattle.chord_handover.specs.Handover.{Part, parts_in}
use Rattle.chord_handover.specs.Payload.{Payload}
use Rattle.chord_handover.specs.Outbox.{part_of_item}
use Rattle.chord_node.specs.declared.fault.GiveFault.{GiveFault}
use Rattle.chord_node.specs.declared.fault.GiveFault.TheVariants as give
use Rattle.chord_model.specs.declared.phase.Phase.TheVariants as phase
use Rattle.chord_ring.specs.Ring.{is_member, CanDepart}
use Rattle.chord_node.specs.Moves.{with_held, CutAtIs, MergeIs, LeaveIs, GiveIs}
use Rattle.chord_model.specs.Node.{Node}
use Rattle.chord_segment.specs.Segment.{Segment}
use Rattle.chord_model.specs.World.{node_at}
use Rattle.chord_world.specs.declared.refusal.Refusal.{Refusal}
use Rattle.chord_world.specs.Handing.{IsMissing, HasNode, ActIs, NeededIs}
use Rattle.chord_world.specs.Handing.CannotAct.{Is_missing}
use Rattle.chord_world.specs.Steps.{Advances}
use Rattle.chord_world.specs.declared.outcome.Outcome.{Outcome}
use Rattle.chord_world.specs.Members.{is_dead, is_gone, links_unless, member_links}
use Rattle.chord_world.specs.State.{WorldState, IsWorld, ring_of, fate_of}
use Rattle.chord_world.proofs.Acting.{links_here}
use Rattle.chord_world.proofs.Pointing.{node_within}
use Rattle.chord_world.proofs.Placing.{nodes_by}

-- ---- who acts

pub has_node : (place : ℕ) (view old : WorldState) → view ≡ old → IsWorld view → place < length view.world.nodes → HasNode place old
has_node place view old same kept within = let found = node_within place view old same kept within in record { node = found.0; here = found.1 }

pub is_zero : (n : ℕ) → true ≡ (n == 0) → n ≡ 0
is_zero zero e = refl
is_zero (suc n) e = let apart : suc n ≢ 0 = omega arith in absurd (true≢false (e ∙ eqb_other (suc n) 0 apart))

no_nodes : (nodes : List Node) → length nodes ≡ 0 → nodes ≡ []
no_nodes [] e = refl
no_nodes (node ∷ nodes) e = absurd (omega arith)

-- no node exists
pub uncreated : (view old : WorldState) → view ≡ old → length view.world.nodes ≡ 0 → old.world.nodes ≡ []
uncreated view old same none = ap (λ (w : WorldState). w.world.nodes) (sym same) ∙ no_nodes view.world.nodes none

-- the node that may act is at its index
pub acts_within : (place : ℕ) (view old : WorldState) → view ≡ old → IsWorld view → HasNode place old → place < length view.world.nodes
acts_within place view old same kept has =
    let here : slice_get view.world.nodes place ≡ Some has.node =
    sym (nodes_by.found 0 place place view.world.nodes kept.nodes (omega arith)) ∙ ap (λ (w : WorldState). node_at place w.world.nodes) same ∙ has.here in
    slice_get_within view.world.nodes place has.node here

pub not_there : (place : ℕ) (old : WorldState) (refusal : Refusal) (result : Result (Unit {0}) Refusal) → IsMissing place old refusal → IsErrAnd result (λ e. e ≡ refusal) → ActIs place old result
not_there place old refusal (Ok done) missing is = absurd is
not_there place old refusal (Err e) missing is = Is_missing e (subst (IsMissing place old) (sym is) missing)

-- a refused step
pub advances_not : (old new : WorldState) (P : Refusal → Type 0) (result : Result Outcome Refusal) → IsErrAnd result P → new ≡ old
    → Advances old result new
advances_not old new P (Ok outcome) is same = absurd is
advances_not old new P (Err refusal) is same = same

-- ---- what the ring sees of a node stays

pub record IsStill (node after : Node) : Type 0 where
  pub number : after.number ≡ node.number
  pub gone : is_gone after.phase ≡ is_gone node.phase
  pub links : after.links ≡ node.links

pub still_same : (node after : Node) → after ≡ node → IsStill node after
still_same node after e = subst (IsStill node) (sym e) (record { number = refl; gone = refl; links = refl })

pub still_held : (held : List Segment) (node after : Node) → after ≡ with_held held node → IsStill node after
still_held held node after e = subst (IsStill node) (sym e) (record { number = refl; gone = refl; links = refl })

pub still_cut : (place : ℕ) (at : Id) (node after : Node) → CutAtIs place at node (Ok tt) after → IsStill node after
still_cut place at node after h = still_held after.held node after h.1

pub still_merge : (place other : ℕ) (node after : Node) → MergeIs place other node (Ok tt) after → IsStill node after
still_merge place other node after h = still_held after.held node after h.1

pub still_leave : (node after : Node) → LeaveIs node (Ok tt) after → IsStill node after
still_leave node after h = record {
  number = ap (λ (n : Node). n.number) h.1;
  gone = ap (λ (n : Node). is_gone n.phase) h.1 ∙ sym (ap is_gone h.0);
  links = ap (λ (n : Node). n.links) h.1;
}

pub still_give : (place to : ℕ) (part : Part) (node after : Node) → GiveIs place to node (Ok part) after → IsStill node after
still_give place to part node after h = subst (IsStill node) (sym h.4) (record { number = refl; gone = refl; links = refl })

pub give_ends : (place to : ℕ) (part : Part) (node after : Node) → GiveIs place to node (Ok part) after → (part.from ≡ node.number) × (part.to ≡ to)
give_ends place to part node after h = (ap (λ (p : Part). p.from) h.3, ap (λ (p : Part). p.to) h.3)

-- a node that refused is unchanged
pub kept_give : (place to : ℕ) (fault : GiveFault) (node after : Node) → GiveIs place to node (Err fault) after → after ≡ node
kept_give place to give.NoSegment node after h = h.1
kept_give place to give.NumbersSpent node after h = h.2
kept_give place to give.Memory node after h = h.2

-- ---- a part that is sent

one_of : (b : Bool) (p q : Part) → cond b (Some p) None ≡ Some q → p ≡ q
one_of true p q e = same_Some p q e
one_of false p q e = cc

pub resent_ends : (from to number part : ℕ) (o : Option Payload) (q : Part) → part_of_item from to number part o ≡ Some q → (q.from ≡ from) × (q.to ≡ to)
resent_ends from to number part None q e = cc
resent_ends from to number part (Some payload) q e =
    let same = one_of (nat_le 1 part && nat_le part (parts_in payload.pairs)) _ q e in (ap (λ (p : Part). p.from) (sym same), ap (λ (p : Part). p.to) (sym same))

pub part_known : (place to : ℕ) (node : Node) (part : Part) (view : WorldState) → IsWorld view → slice_get view.world.nodes place ≡ Some node → to < length view.world.nodes
    → (part.from ≡ node.number) × (part.to ≡ to) → (part.from < length view.world.nodes) × (part.to < length view.world.nodes)
part_known place to node part view kept here there ends =
    let at = nodes_by.number 0 place node view.world.nodes kept.nodes here in
    let within = slice_get_within view.world.nodes place node here in
    let from = ends.0 in
    let goes = ends.1 in
    (omega arith, omega arith)

-- ---- a node that is gone

-- a leaving node that is not dead for the ring is a member
pub leaving_member : (place : ℕ) (node : Node) (view old : WorldState) → view ≡ old → IsWorld view → slice_get view.world.nodes place ≡ Some node → is_dead (fate_of place view) ≡ false → node.phase ≡ phase.Leaving
    → is_member (ring_of old).members place ≡ true
leaving_member place node view old same kept here alive leaving =
    ap is_some (sym (links_here place node (is_dead (fate_of place view)) view old same kept here refl)) ∙ refl_member
  where
    refl_member : is_some (member_links (is_dead (fate_of place view)) node) ≡ true
    refl_member = ap (λ dead. is_some (member_links dead node)) alive ∙ ap (λ p. is_some (links_unless (is_gone p) node.links)) leaving

pub can_of : (place : ℕ) (old : WorldState) → NeededIs place old false → is_member (ring_of old).members place ≡ true → CanDepart (ring_of old).members place
can_of place old (inl none) member = absurd (true≢false (sym member ∙ none))
can_of place old (inr can) member = can
