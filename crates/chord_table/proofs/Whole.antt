-- What a look of the registrar's seat proves, with the seats that it took in.
use Rattle.std.proofs.Common.{◌≡◌, ℕ, List, [], ◌∷◌, length, None, refl, sym, ap, ◌∙◌, subst, inl, inr, All}
use Rattle.std.specs.Prelude.{Contains}
use Rattle.std.proofs.lemmas.List.{length-map}
use Rattle.std.proofs.lemmas.List.Elements.{All-nil, All-cons, All-head, All-tail, All-weaker}
use Rattle.chord_caller.specs.Caller.{Caller}
use Rattle.chord_map.proofs.Equal.{eqb_other}
use Rattle.chord_map.specs.History.{EachOnce}
use Rattle.chord_model.specs.World.{World, caller_at}
use Rattle.chord_table.proofs.Counted.{callers_counted}
use Rattle.chord_table.proofs.Later.{later_itself}
use Rattle.chord_table.proofs.Histories.{was_in, once_in_all}
use Rattle.chord_table.proofs.Telling.{EachHolds}
use Rattle.chord_table.proofs.WholeRing.{all_nodes, ring_stands}
use Rattle.chord_table.specs.Actors.{IsThere, AreOne}
use Rattle.chord_table.specs.Later.{WasThere}
use Rattle.chord_table.specs.Scenes.{Scene}
use Rattle.chord_table.specs.Seen.{Actor, OfNode, OfCaller, Sight}
use Rattle.chord_table.specs.Shown.{HoldsIn, IsIn, latest_callers, taken_by_all, AssemblyShown, WholeShown}
use Rattle.chord_table.specs.Views.{OneIs, AllDiffer, IsSeen, IsSeenIn, IsTrueOfSome, Assembled, view_of_assembled, with_caller, callers_among, IsWhole}

-- the same without whether nodes crashed
all_seen : (scene : Scene) (taken : List Sight) → All (IsSeenIn scene) taken
    → All (IsSeen scene.world) taken
all_seen scene taken seen =
    All-weaker (IsSeenIn scene) (IsSeen scene.world) (λ (s : Sight) (h : IsSeenIn scene s). h.0)
    taken seen

-- ---- what a look proves

caller_seen : (world : World) (actor : Actor) (callers : List Caller) → IsThere world actor → All (WasThere world) callers → All (WasThere world) (with_caller actor callers)
caller_seen world (OfNode node crashed) callers there all = all
caller_seen world (OfCaller caller) callers there all = All-cons (WasThere world) caller callers (caller, there, later_itself caller) all

callers_seen : (world : World) (taken : List Sight) → All (IsSeen world) taken → All (WasThere world) (callers_among taken)
callers_seen world [] all = All-nil (WasThere world)
callers_seen world (sight ∷ rest) all =
    let first : IsSeen world sight = All-head (IsSeen world) sight rest all in
    caller_seen world sight.actor (callers_among rest) first.0 (callers_seen world rest (All-tail (IsSeen world) sight rest all))

-- no actor of the list is the caller, so its number is not found
none_step : (actor : Actor) (callers : List Caller) (caller : Caller) → (AreOne actor (OfCaller caller) → ⊥) → caller_at caller.number callers ≡ None → caller_at caller.number (with_caller actor callers) ≡ None
unfolding caller_at
none_step (OfNode node crashed) callers caller apart none = none
none_step (OfCaller other) callers caller apart none = rw (eqb_other other.number caller.number apart) none

none_found : (taken : List Sight) (caller : Caller) → (OneIs taken (OfCaller caller) → ⊥) → caller_at caller.number (callers_among taken) ≡ None
unfolding caller_at
none_found [] caller apart = refl
none_found (sight ∷ rest) caller apart =
    none_step sight.actor (callers_among rest) caller (λ one. apart (inl one)) (none_found rest caller (λ one. apart (inr one)))

-- no number occurs twice, so each caller is the latest of its number
latest_step : (actor : Actor) (rest : List Sight) → (OneIs rest actor → ⊥) → latest_callers (callers_among rest) ≡ callers_among rest
    → latest_callers (with_caller actor (callers_among rest)) ≡ with_caller actor (callers_among rest)
latest_step (OfNode node crashed) rest apart same = same
latest_step (OfCaller caller) rest apart same = rw (none_found rest caller apart) (ap (λ (cs : List Caller). caller ∷ cs) same)

all_latest : (taken : List Sight) → AllDiffer taken → latest_callers (callers_among taken) ≡ callers_among taken
all_latest [] differ = refl
all_latest (sight ∷ rest) differ = latest_step sight.actor rest differ.0 (all_latest rest differ.1)

pub assembly_told : (a : Assembled) → IsTrueOfSome (view_of_assembled a) → EachHolds
    → AssemblyShown a
assembly_told a (scene, lived, agrees, (nodes, callers, knows, differ, seen)) each =
    let there : All (IsSeen scene.world) a.taken = all_seen scene a.taken seen in
    let holds : HoldsIn scene = each scene lived agrees in
    let history = holds.headline.history in
    let stand : All (IsIn scene.world.history) (callers_among a.taken) =
    All-weaker (WasThere scene.world) (IsIn scene.world.history)
    (λ c. was_in scene.world history c) (callers_among a.taken)
    (callers_seen scene.world a.taken there) in
    record {
      scene = scene;
      holds = holds;
      nodes = nodes;
      callers = callers;
      knows = knows;
      differ = differ;
      there = seen;
      legal = history.legal;
      stand = stand;
      once = subst (λ (cs : List Caller). EachOnce (taken_by_all cs)) (all_latest a.taken differ)
          (once_in_all scene.world.history (callers_among a.taken) stand);
      one_holder = holds.headline.one_holder;
    }

pub whole_told : (a : Assembled) → AssemblyShown a → IsWhole a → WholeShown a
whole_told a shown whole = record {
  world = world;
  reached = shown.holds.reached;
  nodes = (all_nodes scene a shown.nodes shown.differ shown.there whole.nodes).moved;
  callers = (callers_counted scene a.taken shown.differ shown.there as_many).moved;
  node_order = shown.nodes;
  caller_order = shown.callers;
  messages = All-weaker (IsSeenIn scene) (λ (s : Sight). All (Contains world.sent) s.messages)
      (λ (s : Sight) (h : IsSeenIn scene s). h.0.1) a.taken shown.there;
  headline = shown.holds.headline;
  legal = shown.legal;
  stand = shown.stand;
  once = shown.once;
  one_holder = shown.one_holder;
  ring = ring_stands scene a shown.holds shown.nodes shown.knows shown.differ shown.there whole.nodes;
}
  where
    scene : Scene
    scene = shown.scene

    world : World
    world = scene.world

    as_many : length (callers_among a.taken) ≡ length world.callers
    as_many =
        whole.callers ∙ sym (ap length shown.callers)
        ∙ length-map world.callers (λ (c : Caller). c.number)
