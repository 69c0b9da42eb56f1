-- Joins, crashes and the ring's upkeep keep the rules of the world and of its ring.
use Rattle.std.proofs.Common.{◌≡◌, ◌≢◌, ℕ, ◌+◌, ◌<◌, ◌⊎◌, inl, inr, Bool, true, false, None, Some, Result, Ok, Err, List, [], ◌∷◌, ◌++◌, length, map, set, refl, sym, ◌∙◌, ap, subst, arith}
use Rattle.std.specs.Prelude.{slice_get, IsErrAnd}
use Rattle.std.specs.List.{Contains}
use Rattle.std.proofs.lemmas.Bool.{true≢false, cases_Bool}
use Rattle.std.proofs.lemmas.List.{length-set, length_push}
use Rattle.std.proofs.lemmas.Option.{slice_get_past, slice_get_within, same_Some}
use Rattle.chord_ident.specs.declared.id.Id.{Id}
use Rattle.chord_links.specs.NodeLinks.{NodeLinks}
use Rattle.chord_ring.specs.declared.ring_step.RingStep.{RingStep}
use Rattle.chord_ring.specs.Ring.{KeepsPrincipals, CanDepart}
use Rattle.chord_ring.specs.Sound.{IsSound}
use Rattle.chord_ring.specs.Steps.{Ring, Step, Joins, joined_links, with_links, ring_without}
use Rattle.chord_ring.specs.Refusals.{AreOwn}
use Rattle.chord_ring.proofs.Stepping.{Kept, Kept-step, Kept-joins}
use Rattle.chord_ring.proofs.OneRing.{links_from_member}
use Rattle.chord_ring.proofs.Reached.{Kept-departs}
use Rattle.chord_model.specs.declared.phase.Phase.TheVariants as phase
use Rattle.chord_model.specs.Node.{Node, newborn}
use Rattle.chord_model.specs.Node.NodeStep.{Links_change}
use Rattle.chord_model.specs.World.{WorldStep, node_at, put_node}
use Rattle.chord_model.specs.World.WorldStep.{Joins as JoinsWorld}
use Rattle.chord_world.specs.declared.fate.Fate.{Fate}
use Rattle.chord_world.specs.declared.fate.Fate.TheVariants as fate
use Rattle.chord_world.specs.Members.{is_out, is_dead, is_gone, members_of, id_of_node, ids_of, ring_with}
use Rattle.chord_world.specs.State.{WorldState, IsWorld, ring_of, fate_of, is_crashed, KeepsRing}
use Rattle.chord_world.specs.declared.outcome.Outcome.{Outcome}
use Rattle.chord_world.specs.declared.refusal.Refusal.{Refusal}
use Rattle.chord_world.specs.Joining.{with_newborn, CanJoin, JoinIs, JoinsBehind, MayJoin, RefusesJoin}
use Rattle.chord_world.specs.Upkeep.{Moves, FitAt, RelinksAt, with_crash}
use Rattle.chord_world.proofs.Placing.{nodes_by, calls_of_more}
use Rattle.chord_world.proofs.RingLemmas.{get_pushed, fate_within, fate_pushed, fate_other, fate_set, alive_runs, ids_are, ids_length, ids_pushed, members_pushed, members_crash, member_node, ring_relinked, ring_departed}
use Rattle.chord_world.proofs.Keeping.{further, with_nodes, with_more}
use Rattle.chord_world.proofs.Acting.{After, node_there, ring_dead, acts_at, put_is}

-- ---- links by a step of the ring

pub record AfterUpkeep (step : RingStep) (place : ℕ) (old new : WorldState) : Type 0 where
  pub after : After old new
  pub moves : Moves step place old new

upkept_here : (step : RingStep) (place : ℕ) (links : NodeLinks) (view : WorldState) (nodes : List Node) → IsWorld view → AreOwn (ring_of view) place links
    → Step (ring_of view) step (with_links (ring_of view) place links) → RelinksAt place links view.world.nodes nodes → AfterUpkeep step place view (with_nodes nodes view)
upkept_here step place links view nodes kept own moves relinks =
    let member = member_node place view.world.nodes view.fates own.0 kept.fates own.1 in
    let node = relinks.node in
    let after : Node = record node { links = links } in
    let one : member.node ≡ node = same_Some member.node node (sym member.here ∙ relinks.here) in
    let staying : is_gone node.phase ≡ false = ap (λ (n : Node). is_gone n.phase) (sym one) ∙ member.staying in
    let me : links.me ≡ node.links.me = own.2 ∙ ap (λ (l : NodeLinks). l.me) (sym member.links_are ∙ ap (λ (n : Node). n.links) one) in
    let put : nodes ≡ put_node after view.world.nodes = put_is place node after nodes view kept relinks.here refl relinks.new_is in
    let ring : ring_with (set view.world.nodes place after) view.fates ≡ with_links (ring_of view) place links =
    ring_relinked place node links view.world.nodes view.fates kept.fates relinks.here member.running staying me in
    record {
      after = acts_at place node after None None None None view view (with_nodes nodes view) refl kept
          (record {
            here = relinks.here;
            running = alive_runs (fate_of place view) member.running;
            number = refl;
            was = tt;
            does = Links_change links me;
            call = tt;
            aimed = kept.targets;
            ring = subst (Kept (ring_of view)) (sym ring)
                (Kept-step (ring_of view) (with_links (ring_of view) place links) step (kept.ring (node_there place view.world.nodes node relinks.here)) moves);
          })
          (ap (λ ns. with_nodes ns view) put);
      moves =
          record {
            node = node;
            links = links;
            here = nodes_by.found 0 place place view.world.nodes kept.nodes (omega arith) ∙ relinks.here;
            moves = subst (Step (ring_of view) step) (sym (ap (λ ns. ring_with ns view.fates) relinks.new_is ∙ ring)) moves;
            new_is = ap (λ ns. with_nodes ns view) put;
          };
    }

pub upkept : (step : RingStep) (place : ℕ) (links : NodeLinks) (view old : WorldState) (nodes : List Node) → view ≡ old → IsWorld view → AreOwn (ring_of old) place links
    → Step (ring_of old) step (with_links (ring_of old) place links) → RelinksAt place links view.world.nodes nodes → AfterUpkeep step place old (with_nodes nodes view)
upkept step place links view old nodes same kept own moves relinks =
    subst (λ w. AfterUpkeep step place w (with_nodes nodes view)) same
    (upkept_here step place links view nodes kept (subst (λ w. AreOwn (ring_of w) place links) (sym same) own)
    (subst (λ w. Step (ring_of w) step (with_links (ring_of w) place links)) (sym same) moves) relinks)

-- the node exists, and the links are its own
pub own_fits : (place : ℕ) (links : NodeLinks) (view old : WorldState) → view ≡ old → IsWorld view → AreOwn (ring_of old) place links → (place < length view.world.nodes) × FitAt place links view.world.nodes
own_fits place links view old same kept own' =
    let own : AreOwn (ring_of view) place links = subst (λ w. AreOwn (ring_of w) place links) (sym same) own' in
    let member = member_node place view.world.nodes view.fates own.0 kept.fates own.1 in (
      slice_get_within view.world.nodes place member.node member.here,
      λ node here.
          let is : own.0 ≡ node.links = sym member.links_are ∙ ap (λ (n : Node). n.links) (same_Some member.node node (sym member.here ∙ here)) in
          (own.2 ∙ ap (λ (l : NodeLinks). l.me) is, own.3 ∙ ap (λ (l : NodeLinks). l.r) is),
    )

-- ---- a crash

pub record AfterCrash (place : ℕ) (old new : WorldState) : Type 0 where
  pub world : IsWorld new
  pub new_is : new ≡ with_crash place old
  pub ring : KeepsRing old new

-- the world with these fates
abbrev pub with_fates : List Fate → WorldState → WorldState
with_fates fates view = record view { fates = fates }

-- the fate of a member that can depart
pub out_within : (number : ℕ) (view old : WorldState) → view ≡ old → IsWorld view → CanDepart (ring_of old).members number → number < length view.fates
out_within number view old same kept can' =
    let can : CanDepart (ring_of view).members number = subst (λ w. CanDepart (ring_of w).members number) (sym same) can' in
    let found = links_from_member (ring_of view).members number can.0 in
    let member = member_node number view.world.nodes view.fates found.0 kept.fates found.1 in
    let within = slice_get_within view.world.nodes number member.node member.here in
    let count = kept.fates in
    omega arith

crashed_here : (place : ℕ) (view : WorldState) → IsWorld view → view.world.nodes ≢ [] → CanDepart (ring_of view).members place → AfterCrash place view (with_crash place view)
crashed_here place view kept created can =
    let ring : ring_of (with_crash place view) ≡ ring_without (ring_of view) place =
    (λ i. record { ids = ids_of view.world.nodes; members = members_crash place view.world.nodes view.fates kept.fates i }) in
    let kept_ring : Kept (ring_of view) (ring_without (ring_of view) place) = Kept-departs (ring_of view) place (kept.ring created) can in
    record {
      world =
          record {
            reached = kept.reached;
            nodes = kept.nodes;
            callers = kept.callers;
            targets = kept.targets;
            calls = kept.calls;
            fates = length-set view.fates place fate.Crashed ∙ kept.fates;
            crashed = λ number node out here. there number node (fate_other view.fates place number fate.Crashed) out here;
            ring = λ _. subst IsSound (sym ring) kept_ring.sound;
            low = kept.low;
            high = kept.high;
          };
      new_is = refl;
      ring =
          record {
            principals = subst (λ (r : Ring). KeepsPrincipals (ring_of view).members r.members) (sym ring) kept_ring.principals;
            dead = λ number dead. fate_set is_dead view.fates place number fate.Crashed refl refl dead;
            crashed = λ number out. inl (fate_set is_out view.fates place number fate.Crashed refl refl out, refl);
          };
    }
  where
    there : (number : ℕ) (node : Node) → (number ≡ place) ⊎ (fate_of number (with_crash place view) ≡ fate_of number view)
        → is_crashed number (with_crash place view) ≡ true → slice_get view.world.nodes number ≡ Some node → is_gone node.phase ≡ false
    there number node (inl same) out here =
        let found = links_from_member (ring_of view).members place can.0 in
        let member = member_node place view.world.nodes view.fates found.0 kept.fates found.1 in
        ap (λ (n : Node). is_gone n.phase) (same_Some node member.node (sym here ∙ ap (slice_get view.world.nodes) same ∙ member.here)) ∙ member.staying
    there number node (inr same) out here = kept.crashed number node (ap is_out (sym same) ∙ out) here

pub crashes : (place : ℕ) (view old : WorldState) (fates : List Fate) → view ≡ old → IsWorld view → old.world.nodes ≢ [] → CanDepart (ring_of old).members place
    → fates ≡ set view.fates place fate.Crashed → AfterCrash place old (with_fates fates view)
crashes place view old fates same kept created can is =
    subst (λ w. AfterCrash place w (with_fates fates view)) same
    (subst (λ fs. AfterCrash place view (with_fates fs view)) (sym is)
    (crashed_here place view kept (subst (λ (w : WorldState). w.world.nodes ≢ []) (sym same) created) (subst (λ w. CanDepart (ring_of w).members place) (sym same) can)))

-- ---- a node that is gone

abbrev pub retired : Node → Node
retired node = record node { phase = phase.Gone; limit = 0; buffered = [] }

-- a node that is gone, and can depart if it is a member
pub retired_ring : (place : ℕ) (node : Node) (view : WorldState) → IsWorld view → slice_get view.world.nodes place ≡ Some node
    → (is_dead (fate_of place view) ≡ false → CanDepart (ring_of view).members place) → Kept (ring_of view) (ring_with (set view.world.nodes place (retired node)) view.fates)
retired_ring place node view kept here can =
    elim (cases_Bool (is_dead (fate_of place view))) [
      | inl dead ↦ ring_dead place node (retired node) view kept here refl dead
      | inr alive ↦ subst (Kept (ring_of view)) (sym (ring_departed place node (retired node) view.world.nodes view.fates kept.fates here refl refl))
          (Kept-departs (ring_of view) place (kept.ring (node_there place view.world.nodes node here)) (can alive))
    ]

-- ---- a node that joins

pub record AfterJoin (id : Id) (behind limit : ℕ) (old : WorldState) (number : ℕ) (new : WorldState) : Type 0 where
  pub after : After old new
  pub joins : JoinsBehind id behind limit old number new

abbrev link : Id → ℕ → NodeLinks → NodeLinks
link id number pred = joined_links (record { number = number; id = id }) pred

joined_here : (id : Id) (behind limit : ℕ) (pred : NodeLinks) (view : WorldState) → IsWorld view → MayJoin id behind pred view
    → AfterJoin id behind limit view (length view.world.nodes) (with_newborn (link id (length view.world.nodes) pred) limit view)
joined_here id behind limit pred view kept may =
    let number = length view.world.nodes in
    let links : NodeLinks = link id number pred in
    let new : WorldState = with_newborn links limit view in
    let member = member_node behind view.world.nodes view.fates pred kept.fates may.is_its in
    let created = node_there behind view.world.nodes member.node member.here in
    let joins : Joins (ring_of view) id.number behind (ring_of new) =
    record {
      links = pred;
      is_its = may.is_its;
      is_id = may.is_id;
      is_unused = may.is_unused;
      is_between = may.is_between;
      ids = ids_pushed view.world.nodes (newborn links limit);
      members = members_pushed (newborn links limit) view.world.nodes view.fates kept.fates
          ∙ ap (λ n. members_of view.world.nodes view.fates ++ Some (link id n pred) ∷ []) (sym (ids_length view.world.nodes));
    } in
    let kept_ring : Kept (ring_of view) (ring_of new) = Kept-joins (ring_of view) id.number behind (ring_of new) (kept.ring created) joins in
    let none : node_at number view.world.nodes ≡ None =
    nodes_by.found 0 number number view.world.nodes kept.nodes (omega arith) ∙ slice_get_past view.world.nodes number (omega arith) in
    let pushed : (at : ℕ) → is_crashed at view ≡ true → slice_get new.world.nodes at ≡ slice_get view.world.nodes at =
    (λ at out. get_pushed view.world.nodes at (newborn links limit) (let within = fate_within is_out view.fates at refl out in let same = kept.fates in omega arith)) in
    let did : WorldStep view.world new.world = JoinsWorld links limit may.is_id created none in
    record {
      after =
          record {
            world =
                record {
                  reached = further view.world new.world kept.reached did;
                  nodes = nodes_by.numbered_push 0 (newborn links limit) view.world.nodes kept.nodes (omega arith);
                  callers = kept.callers;
                  targets = kept.targets;
                  calls = calls_of_more (length view.world.nodes) _ (length view.world.callers) (length view.world.callers) view.world.sent
                      (let more = length_push view.world.nodes (newborn links limit) in omega arith) (omega arith) kept.calls;
                  fates = length_push view.fates fate.Well ∙ ap (λ n. n + 1) kept.fates ∙ sym (length_push view.world.nodes (newborn links limit));
                  crashed = λ at node out here. let was = ap is_out (sym (fate_pushed view.fates at)) ∙ out in kept.crashed at node was (sym (pushed at was) ∙ here);
                  ring = λ _. kept_ring.sound;
                  low = kept.low;
                  high = kept.high;
                };
            step = did;
            ring =
                record {
                  principals = kept_ring.principals;
                  dead = λ at dead. ap is_dead (fate_pushed view.fates at) ∙ dead;
                  crashed = λ at out. inl (ap is_out (fate_pushed view.fates at) ∙ out, pushed at out);
                };
          };
      joins = record { links = links; joins = joins; numbered = refl; new_is = refl };
    }

-- no node had the identifier, by what the code read
pub unused_is : (id : ℕ) (view old : WorldState) (read : List Node) (used : Bool) → view ≡ old → read ≡ view.world.nodes → (Contains (map id_of_node read) id → used ≡ true) → used ≡ false
    → ¬ (Contains (ring_of old).ids id)
unused_is id view old read used same is none e has =
    let path : (ring_of old).ids ≡ map id_of_node read = ap (λ w. (ring_of w).ids) (sym same) ∙ sym (ids_are view.world.nodes) ∙ ap (map id_of_node) (sym is) in
    true≢false (sym (none (subst (λ ids. Contains ids id) path has)) ∙ e)

pub used_is : (id : ℕ) (view old : WorldState) (read : List Node) → view ≡ old → read ≡ view.world.nodes → Contains (map id_of_node read) id → Contains (ring_of old).ids id
used_is id view old read same is has =
    let path : (ring_of old).ids ≡ map id_of_node read = ap (λ w. (ring_of w).ids) (sym same) ∙ sym (ids_are view.world.nodes) ∙ ap (map id_of_node) (sym is) in
    subst (λ ids. Contains ids id) (sym path) has

-- restated in the terms of the code
pub joins_at : (id : Id) (behind limit number : ℕ) (pred links : NodeLinks) (view old : WorldState) (nodes : List Node) (fates : List Fate) → view ≡ old → IsWorld view → MayJoin id behind pred old
    → number ≡ length view.world.nodes → links ≡ joined_links (record { number = number; id = id }) pred → nodes ≡ view.world.nodes ++ newborn links limit ∷ [] → fates ≡ view.fates ++ fate.Well ∷ []
    → AfterJoin id behind limit old number (with_more nodes fates view)
joins_at id behind limit number pred links view old nodes fates same kept may numbered is pushed flagged =
    let links_are : links ≡ link id (length view.world.nodes) pred = is ∙ ap (λ n. link id n pred) numbered in
    let nodes_are : nodes ≡ view.world.nodes ++ newborn (link id (length view.world.nodes) pred) limit ∷ [] =
    pushed ∙ ap (λ (l : NodeLinks). view.world.nodes ++ newborn l limit ∷ []) links_are in
    subst (λ w. AfterJoin id behind limit w number (with_more nodes fates view)) same
    (subst (λ n. AfterJoin id behind limit view n (with_more nodes fates view)) (sym numbered)
    (subst (AfterJoin id behind limit view (length view.world.nodes)) (λ i. with_more (sym nodes_are i) (sym flagged i) view)
    (joined_here id behind limit pred view kept (subst (MayJoin id behind pred) (sym same) may))))

pub can_join : (id : Id) (behind : ℕ) (limits : List ℕ) (number : ℕ) (pred links : NodeLinks) (view old : WorldState) → view ≡ old → MayJoin id behind pred old → number ≡ length view.world.nodes
    → links ≡ joined_links (record { number = number; id = id }) pred → limits ≢ [] → CanJoin id behind limits old links
can_join id behind limits number pred links view old same may numbered is stocked = record {
  pred = pred;
  may = may;
  links_are = is ∙ ap (λ n. link id n pred) (numbered ∙ ap (λ (w : WorldState). length w.world.nodes) same);
  stocked = stocked;
}

pub can_join_at : (id : Id) (behind limit : ℕ) (limits : List ℕ) (number : ℕ) (links : NodeLinks) (view old : WorldState) (nodes : List Node) (fates : List Fate) → view ≡ old → IsWorld view
    → CanJoin id behind limits old links → number ≡ length view.world.nodes → nodes ≡ view.world.nodes ++ newborn links limit ∷ [] → fates ≡ view.fates ++ fate.Well ∷ []
    → AfterJoin id behind limit old number (with_more nodes fates view)
can_join_at id behind limit limits number links view old nodes fates same kept can numbered pushed flagged =
    joins_at id behind limit number can.pred links view old nodes fates same kept can.may numbered
    (can.links_are ∙ ap (λ n. link id n can.pred) (ap (λ (w : WorldState). length w.world.nodes) (sym same) ∙ sym numbered)) pushed flagged

pub join_refused : (id : Id) (behind : ℕ) (limits : List ℕ) (old : WorldState) (refusal : Refusal) (result : Result Outcome Refusal) → RefusesJoin id behind limits old refusal → IsErrAnd result (λ e. e ≡ refusal)
    → JoinIs id behind limits old result old
join_refused id behind limits old refusal (Ok outcome) refuses is = absurd is
join_refused id behind limits old refusal (Err e) refuses is = (subst (RefusesJoin id behind limits old) (sym is) refuses, refl)
