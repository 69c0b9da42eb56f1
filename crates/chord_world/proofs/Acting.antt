-- A node does a step: the world keeps its rules, and so does its ring.
use Rattle.std.proofs.Common.{◌≡◌, ◌≢◌, ℕ, ◌<◌, ◌≤◌, ◌||◌, inl, Bool, true, false, Option, None, Some, List, [], length, map, set, refl, sym, ◌∙◌, ap, subst, arith}
use Rattle.std.specs.Prelude.{slice_get, slice_index_or}
use Rattle.std.proofs.lemmas.Bool.{true≢false}
use Rattle.std.proofs.lemmas.List.{length-set}
use Rattle.std.proofs.lemmas.Option.{slice_get_within}
use Rattle.chord_links.specs.NodeLinks.{NodeLinks}
use Rattle.chord_ring.specs.Ring.{links_of, is_member, IsPrincipal}
use Rattle.chord_ring.specs.Sound.{IsSound}
use Rattle.chord_ring.specs.Steps.{Ring}
use Rattle.chord_ring.proofs.Stepping.{Kept}
use Rattle.chord_caller.proofs.Places.{got_set_other}
use Rattle.chord_map.specs.declared.done.Done.{Done}
use Rattle.chord_model.specs.declared.message.Message.{Message}
use Rattle.chord_model.specs.Node.{Node, NodeStep}
use Rattle.chord_model.specs.World.{WorldStep, WasSent, put_node, node_at, with_one}
use Rattle.chord_model.specs.World.WorldStep.{Acts}
use Rattle.chord_world.specs.declared.refusal.Refusal.TheVariants.{Memory as NoMemory}
use Rattle.chord_world.specs.declared.fate.Fate.{Fate}
use Rattle.chord_world.specs.declared.fate.Fate.TheVariants as fate
use Rattle.chord_world.specs.Members.{is_out, is_dead, is_gone, links_unless, member_links, members_of, ring_with}
use Rattle.chord_world.specs.State.{WorldState, NodesFrom, IsKnown, AreKnown, AreAimed, IsWorld, ring_of, fate_of, is_crashed, KeepsRing}
use Rattle.chord_world.specs.Steps.{RefusesCreate}
use Rattle.chord_world.proofs.Placing.{nodes_by, calls_pushed}
use Rattle.chord_world.proofs.RingLemmas.{ids_same, members_same, members_length, member_past, member_at}
use Rattle.chord_world.proofs.Keeping.{further, with_more, none_in, no_room, map_some}

-- ---- what holds after a step

-- the new world keeps the rules, comes from the old one by a step, and keeps its ring
pub record After (old new : WorldState) : Type 0 where
  pub world : IsWorld new
  pub step : WorldStep old.world new.world
  pub ring : KeepsRing old new

-- nothing of the ring changed
pub keeps_same : (view old new : WorldState) → view ≡ old → new.world.nodes ≡ view.world.nodes → new.fates ≡ view.fates → KeepsRing old new
keeps_same view old new same nodes fates =
    subst (λ w. KeepsRing w new) same
    (record {
      principals = λ node principal still. subst (λ ms. IsPrincipal ms node) (λ i. members_of (sym nodes i) (sym fates i)) principal;
      dead = λ number dead. ap (λ fs. is_dead (slice_index_or fs number fate.Well)) fates ∙ dead;
      crashed = λ number out. inl (ap (λ fs. is_out (slice_index_or fs number fate.Well)) fates ∙ out, ap (λ ns. slice_get ns number) nodes);
    })

-- memory ran out before a first node was there: nothing changed
pub record NotFounded (limits : List ℕ) (old new : WorldState) : Type 0 where
  pub answer : RefusesCreate limits old NoMemory × (new ≡ old)
  pub step : new ≡ old
  pub ring : KeepsRing old new

pub not_founded : {S : Type 0} (limit : S → ℕ) (stores : List S) (view old : WorldState) (nodes : List Node) (fates : List Fate) → view ≡ old → length view.world.nodes ≡ 0 → 0 < length stores
    → nodes ≡ view.world.nodes → fates ≡ view.fates → NotFounded (map limit stores) old (with_more nodes fates view)
not_founded limit stores view old nodes fates viewed none some n f =
    let same = no_room view old nodes fates viewed n f in
    record {
      answer = ((ap (λ (w : WorldState). w.world.nodes) (sym viewed) ∙ none_in view.world.nodes none, map_some limit stores some), same);
      step = same;
      ring = keeps_same view old (with_more nodes fates view) viewed n f;
    }

pub keeps_all : (old : WorldState) → KeepsRing old old
keeps_all old = keeps_same old old old refl refl refl

pub node_there : (place : ℕ) (nodes : List Node) (node : Node) → slice_get nodes place ≡ Some node → nodes ≢ []
node_there place nodes node here none = let within = slice_get_within nodes place node here in let empty = ap (λ (ns : List Node). length ns) none in omega arith

-- ---- a node that does a step

-- the sent message is of one of the callers, or of a handover between two of the nodes
abbrev pub SendsCall : ℕ → ℕ → Option Message → Type 0
SendsCall nodes count None = Unit {0}
SendsCall nodes count (Some message) = IsKnown nodes count message

pub calls_with : (nodes count : ℕ) (sent : List Message) (message : Option Message) → AreKnown nodes count sent → SendsCall nodes count message → AreKnown nodes count (with_one sent message)
calls_with nodes count sent None all here = all
calls_with nodes count sent (Some message) all here = calls_pushed nodes count sent message all here

-- the world after a node became this one, sent this message to this target, and executed this call
abbrev pub acted : Node → Option Message → Option (Option ℕ) → Option Done → WorldState → WorldState
acted after sent target done view =
    record view {
      world = record view.world { nodes = put_node after view.world.nodes; sent = with_one view.world.sent sent; history = with_one view.world.history done };
      targets = with_one view.targets target;
    }

-- the node at this index did a step
pub record Acting (place : ℕ) (node after : Node) (taken sent : Option Message) (target : Option (Option ℕ)) (done : Option Done) (view : WorldState) : Type 0 where
  pub here : slice_get view.world.nodes place ≡ Some node
  pub running : is_crashed place view ≡ false
  pub number : after.number ≡ node.number
  pub was : WasSent view.world.sent taken
  pub does : NodeStep node taken after sent done
  pub call : SendsCall (length view.world.nodes) (length view.world.callers) sent
  pub aimed : AreAimed (with_one view.world.sent sent) (with_one view.targets target)
  pub ring : Kept (ring_of view) (ring_with (set view.world.nodes place after) view.fates)

-- what the ring reads of the node is unchanged
pub ring_is : (place : ℕ) (node after : Node) (view : WorldState) → IsWorld view → slice_get view.world.nodes place ≡ Some node → after.links.me ≡ node.links.me
    → member_links (is_dead (fate_of place view)) after ≡ member_links (is_dead (fate_of place view)) node → Kept (ring_of view) (ring_with (set view.world.nodes place after) view.fates)
ring_is place node after view kept here me links =
    let ids = ids_same place node after view.world.nodes here me in
    let members = members_same place node after view.world.nodes view.fates kept.fates here links in
    subst (Kept (ring_of view)) (λ i. record { ids = sym ids i; members = sym members i })
    (record { sound = kept.ring (node_there place view.world.nodes node here); principals = λ _ principal _. principal })

-- a node that is dead for the ring may become any node of its identifier
pub ring_dead : (place : ℕ) (node after : Node) (view : WorldState) → IsWorld view → slice_get view.world.nodes place ≡ Some node → after.links.me ≡ node.links.me
    → is_dead (fate_of place view) ≡ true → Kept (ring_of view) (ring_with (set view.world.nodes place after) view.fates)
ring_dead place node after view kept here me dead =
    ring_is place node after view kept here me (ap (λ d. member_links d after) dead ∙ sym (ap (λ d. member_links d node) dead))

-- its links stay, and it is gone exactly if it was
pub ring_stays : (place : ℕ) (node after : Node) (view : WorldState) → IsWorld view → slice_get view.world.nodes place ≡ Some node
    → is_gone after.phase ≡ is_gone node.phase → after.links ≡ node.links → Kept (ring_of view) (ring_with (set view.world.nodes place after) view.fates)
ring_stays place node after view kept here gone links =
    ring_is place node after view kept here (ap (λ (l : NodeLinks). l.me) links) (λ i. links_unless (is_dead (fate_of place view) || gone i) (links i))

pub acts : (place : ℕ) (node after : Node) (taken sent : Option Message) (target : Option (Option ℕ)) (done : Option Done) (view : WorldState) → IsWorld view
    → Acting place node after taken sent target done view → After view (acted after sent target done view)
acts place node after taken sent target done view kept acting =
    let new = acted after sent target done view in
    let at = acting.number ∙ nodes_by.number 0 place node view.world.nodes kept.nodes acting.here in
    let put : put_node after view.world.nodes ≡ set view.world.nodes place after = nodes_by.put_is 0 place after view.world.nodes kept.nodes at in
    let there : node_at place view.world.nodes ≡ Some node = nodes_by.found 0 place place view.world.nodes kept.nodes (omega arith) ∙ acting.here in
    let count : length (put_node after view.world.nodes) ≡ length view.world.nodes = ap (λ (ns : List Node). length ns) put ∙ length-set view.world.nodes place after in
    let ring : ring_of new ≡ ring_with (set view.world.nodes place after) view.fates = ap (λ ns. ring_with ns view.fates) put in
    let others : (number : ℕ) → is_crashed number view ≡ true → slice_get new.world.nodes number ≡ slice_get view.world.nodes number =
    (λ number out. ap (λ ns. slice_get ns number) put
    ∙ got_set_other view.world.nodes place number after (λ same. true≢false (sym out ∙ ap (λ n. is_crashed n view) same ∙ acting.running))) in
    let did : WorldStep view.world new.world = Acts place node after taken sent done there acting.was acting.does in
    record {
      world =
          record {
            reached = further view.world new.world kept.reached did;
            nodes = subst (NodesFrom 0) (sym put) (nodes_by.numbered_set 0 place after view.world.nodes kept.nodes at);
            callers = kept.callers;
            targets = acting.aimed;
            calls = subst (λ n. AreKnown n (length view.world.callers) (with_one view.world.sent sent)) (sym count)
                (calls_with (length view.world.nodes) (length view.world.callers) view.world.sent sent kept.calls acting.call);
            fates = kept.fates ∙ sym count;
            crashed = λ number other out there. kept.crashed number other out (sym (others number out) ∙ there);
            ring = λ _. subst IsSound (sym ring) acting.ring.sound;
            low = kept.low;
            high = kept.high;
          };
      step = did;
      ring =
          record {
            principals = λ number principal still.
                subst (λ (r : Ring). IsPrincipal r.members number) (sym ring)
                (acting.ring.principals number principal (subst (λ (r : Ring). is_member r.members number ≡ true) ring still));
            dead = λ number dead. dead;
            crashed = λ number out. inl (out, others number out);
          };
    }

-- stated over the view of the fields, in the terms of the code
pub acts_at : (place : ℕ) (node after : Node) (taken sent : Option Message) (target : Option (Option ℕ)) (done : Option Done) (view old new : WorldState) → view ≡ old → IsWorld view
    → Acting place node after taken sent target done view → new ≡ acted after sent target done view → After old new
acts_at place node after taken sent target done view old new same kept acting is =
    subst (After old) (sym is) (subst (λ w. After w (acted after sent target done view)) same (acts place node after taken sent target done view kept acting))

-- the nodes of the code
pub put_is : (place : ℕ) (node after : Node) (nodes : List Node) (view : WorldState) → IsWorld view → slice_get view.world.nodes place ≡ Some node → after.number ≡ node.number
    → nodes ≡ set view.world.nodes place after → nodes ≡ put_node after view.world.nodes
put_is place node after nodes view kept here number is =
    is ∙ sym (nodes_by.put_is 0 place after view.world.nodes kept.nodes (number ∙ nodes_by.number 0 place node view.world.nodes kept.nodes here))

-- ---- what the code reads of the ring

pub count_is : (count : ℕ) (view old : WorldState) → view ≡ old → IsWorld view → count ≡ length view.world.nodes → count ≡ length (ring_of old).members
count_is count view old same kept is =
    is ∙ sym (members_length view.world.nodes view.fates kept.fates) ∙ ap (λ (w : WorldState). length (ring_of w).members) same

pub none_past : (number : ℕ) (view old : WorldState) → view ≡ old → IsWorld view → length view.world.nodes ≤ number → None ≡ links_of (ring_of old).members number
none_past number view old same kept past =
    subst (λ w. None ≡ links_of (ring_of w).members number) same (sym (member_past number view.world.nodes view.fates kept.fates past))

pub links_here : (number : ℕ) (node : Node) (out : Bool) (view old : WorldState) → view ≡ old → IsWorld view → slice_get view.world.nodes number ≡ Some node → is_dead (fate_of number view) ≡ out
    → member_links out node ≡ links_of (ring_of old).members number
links_here number node out view old same kept here is =
    subst (λ w. member_links out node ≡ links_of (ring_of w).members number) same
    (ap (λ b. member_links b node) (sym is) ∙ sym (member_at number view.world.nodes view.fates node kept.fates here))
