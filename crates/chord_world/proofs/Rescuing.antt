-- A crashed node is rescued: the world keeps its rules, and so does its ring.
use Rattle.std.proofs.Common.{◌≡◌, ◌≢◌, ℕ, ◌⊎◌, inl, inr, true, false, None, Some, Result, Ok, Err, List, set, refl, sym, ◌∙◌, ap, subst}
use Rattle.std.specs.Prelude.{slice_get}
use Rattle.std.proofs.lemmas.Bool.{true≢false}
use Rattle.std.proofs.lemmas.List.{length-set}
use Rattle.chord_caller.proofs.Places.{got_set_same}
use Rattle.chord_ring.specs.Ring.{KeepsPrincipals}
use Rattle.chord_ring.specs.Sound.{IsSound}
use Rattle.chord_ring.specs.Steps.{Ring}
use Rattle.chord_model.specs.declared.phase.Phase.{Phase}
use Rattle.chord_model.specs.declared.phase.Phase.TheVariants as phase
use Rattle.chord_model.specs.Node.{Node, NodeStep}
use Rattle.chord_model.specs.Node.NodeStep.{Leaves, Links_change}
use Rattle.chord_model.specs.World.{put_node}
use Rattle.chord_world.specs.declared.deed.NodeDeed.TheVariants as deed
use Rattle.chord_world.specs.declared.outcome.Outcome.{Outcome}
use Rattle.chord_world.specs.declared.refusal.Refusal.{Refusal}
use Rattle.chord_world.specs.Deeds.{Log, log_in, log_with, DoesIt, DoesItAt}
use Rattle.chord_world.proofs.Deeds.{with_log}
use Rattle.chord_world.specs.declared.fate.Fate.{Fate}
use Rattle.chord_world.specs.declared.fate.Fate.TheVariants as fate
use Rattle.chord_world.specs.Members.{is_out, is_dead, is_gone, ids_of}
use Rattle.chord_world.specs.State.{WorldState, IsWorld, ring_of, fate_of, is_crashed, leaving, IsRescued}
use Rattle.chord_world.specs.Upkeep.{with_rescue, Rescues}
use Rattle.chord_world.proofs.RingLemmas.{fate_here, fate_other, fate_set, out_dead, fate_within, members_rescue}
use Rattle.chord_world.proofs.Acting.{After, ring_stays, acts, put_is}
use Rattle.chord_world.proofs.Placing.{nodes_by}
use Rattle.chord_world.proofs.Pointing.{node_stands}

-- ---- the node

leaves_by : (node : Node) (now : Phase) → node.phase ≡ now → is_gone now ≡ false
    → NodeStep node None (leaving node) None None
leaves_by node phase.Staying is there = Leaves is
leaves_by node phase.Leaving is there =
    subst (λ p. NodeStep node None (record node { phase = p }) None None) is
    (Links_change node.links refl)
leaves_by node phase.Gone is there = absurd (true≢false there)

left_by : (node : Node) (now : Phase) → node.phase ≡ now → node.phase ≢ phase.Staying
    → is_gone now ≡ false → node ≡ leaving node
left_by node phase.Staying is stays there = absurd (stays is)
left_by node phase.Leaving is stays there = ap (λ (p : Phase). record node { phase = p }) is
left_by node phase.Gone is stays there = absurd (true≢false there)

-- it is leaving, if it is not gone, and sends nothing
left_is : (node after : Node) (log log' : Log) (result : Result Outcome Refusal)
    → is_gone node.phase ≡ false
    → DoesIt deed.Leave node log result after log' → (after ≡ leaving node) × (log' ≡ log)
left_is node after log log' (Ok outcome) there it =
    (it.does.is.1, it.log_is ∙ ap (λ e. log_with e log) it.does.quiet)
left_is node after log log' (Err refusal) there (why, same, l) =
    (same ∙ left_by node node.phase refl why.is.0 there, l)

-- ---- the world

-- the world in which the node takes steps again, and is as it was
abbrev freed : ℕ → WorldState → WorldState
freed place view = record view { fates = set view.fates place fate.Rescued }

freed_ring : (place : ℕ) (view : WorldState) → is_crashed place view ≡ true
    → ring_of (freed place view) ≡ ring_of view
freed_ring place view out =
    λ i. record { ids = ids_of view.world.nodes; members = members_rescue place view.world.nodes view.fates (out_dead (fate_of place view) out) i }

freed_is_world : (place : ℕ) (view : WorldState) → IsWorld view → is_crashed place view ≡ true
    → IsWorld (freed place view)
freed_is_world place view kept out = record {
  reached = kept.reached;
  nodes = kept.nodes;
  callers = kept.callers;
  targets = kept.targets;
  calls = kept.calls;
  fates = length-set view.fates place fate.Rescued ∙ kept.fates;
  crashed = λ number node crashed here. elim (fate_other view.fates place number fate.Rescued) [
    | inl same ↦ kept.crashed number node (ap (λ n. is_crashed n view) same ∙ out) here
    | inr same ↦ kept.crashed number node (ap is_out (sym same) ∙ crashed) here
  ];
  ring = λ some. subst IsSound (sym (freed_ring place view out)) (kept.ring some);
  low = kept.low;
  high = kept.high;
}

pub record AfterRescue (place : ℕ) (old new : WorldState) : Type 0 where
  pub after : After old new
  pub rescues : Rescues place old new

rescued_here : (place : ℕ) (node : Node) (view : WorldState) → IsWorld view
    → slice_get view.world.nodes place ≡ Some node → is_crashed place view ≡ true
    → AfterRescue place view (with_rescue place node view)
rescued_here place node view kept here out =
    let new : WorldState = with_rescue place node view in
    let there = kept.crashed place node out here in
    let free = freed_is_world place view kept out in
    let rescued : fate_of place new ≡ fate.Rescued = fate_here view.fates place fate.Rescued
    (fate_within is_out view.fates place refl out) in
    let after : After (freed place view) new =
    acts place node (leaving node) None None None None (freed place view) free
    (record {
      here = here;
      running = ap is_out rescued;
      number = refl;
      was = tt;
      does = leaves_by node node.phase refl there;
      call = tt;
      aimed = kept.targets;
      ring = ring_stays place node (leaving node) (freed place view) free here (sym there) refl;
    }) in
    let stands : slice_get new.world.nodes place ≡ Some (leaving node) =
    ap (λ ns. slice_get ns place) (nodes_by.put_is 0 place
    (leaving node) view.world.nodes kept.nodes
    (nodes_by.number 0 place node view.world.nodes kept.nodes here))
    ∙ got_set_same view.world.nodes place node (leaving node) here in
    record {
      after =
          record {
            world = after.world;
            step = after.step;
            ring =
                record {
                  principals = subst (λ (r : Ring). KeepsPrincipals r.members
                      (ring_of new).members) (freed_ring place view out) after.ring.principals;
                  dead = λ number dead. fate_set is_dead view.fates place number fate.Rescued refl refl dead;
                  crashed = λ number crashed. elim
                      (fate_other view.fates place number fate.Rescued) [
                        | inl same ↦ subst (λ n. ((is_crashed n new ≡ true)
                            × (slice_get new.world.nodes n ≡ slice_get view.world.nodes n))
                            ⊎ IsRescued n view new) (sym same)
                            (inr (record { node = node; here = here; there = stands; rescued = rescued }))
                        | inr same ↦ elim (after.ring.crashed number (ap is_out same ∙ crashed)) [
                          | inl stays ↦ inl stays
                          | inr one ↦ inr
                              (record { node = one.node; here = one.here; there = one.there; rescued = one.rescued })
                        ]
                      ];
                };
          };
      rescues = record { node = node; here = node_stands place view view node refl kept here; crashed = out; new_is = refl };
    }

-- restated in the terms of the code
pub rescues_at : (place : ℕ) (view old : WorldState) (nodes : List Node) (log : Log)
    (fates : List Fate)
    (result : Result Outcome Refusal) → view ≡ old → IsWorld view → is_crashed place old ≡ true
    → DoesItAt deed.Leave place view.world.nodes (log_in view) result nodes log
    → fates ≡ set view.fates place fate.Rescued
    → AfterRescue place old (record (with_log nodes log view) { fates = fates })
rescues_at place view old nodes log fates result same kept crashed it is =
    let node = it.node in
    let out : is_crashed place view ≡ true = ap (is_crashed place) same ∙ crashed in
    let left = left_is node it.after (log_in view) log result
    (kept.crashed place node out it.here) it.is in
    let put : nodes ≡ put_node (leaving node) view.world.nodes =
    put_is place node (leaving node) nodes view kept it.here refl
    (it.new_is ∙ ap (set view.world.nodes place) left.0) in
    subst (λ w. AfterRescue place w (record (with_log nodes log view) { fates = fates })) same
    (subst (AfterRescue place view)
    (λ i. record (with_log (sym put i) (sym left.1 i) view) { fates = sym is i })
    (rescued_here place node view kept it.here out))
