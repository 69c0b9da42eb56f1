-- Each step leads to a world that keeps the rules.
use Rattle.std.proofs.Common.{◌≡◌, ◌≢◌, ℕ, zero, suc, ◌<◌, ◌≤◌, Bool, true, false, Some, Ok, List, [], ◌∷◌, ◌++◌, length, get_or, map, refl, sym, ◌∙◌, ap, subst, arith, length-append}
use Rattle.std.proofs.lemmas.Option.{slice_get_past, none-some}
use Rattle.std.specs.Prelude.{slice_get, ◌^◌}
use mathlib.Core.Logic.{∥∥₁_map}
use Rattle.chord_ident.specs.declared.id.Id.{Id}
use Rattle.chord_links.specs.NodeLinks.{alone}
use Rattle.chord_ring.specs.Sound.{IsSound}
use Rattle.chord_ring.specs.Steps.{founded_ring}
use Rattle.chord_ring.proofs.Reached.{IsSound-founded}
use Rattle.chord_caller.specs.Caller.{Caller}
use Rattle.chord_caller.specs.Answers.{new_caller}
use Rattle.chord_model.specs.Node.{Node, founder}
use Rattle.chord_model.specs.World.{World, WorldStep, Reached}
use Rattle.chord_model.specs.World.WorldStep.{Creates, Opens}
use Rattle.chord_model.specs.World.Run.{Stays, Goes_on}
use Rattle.chord_world.specs.Members.{members_of, ids_of, is_out, is_dead, ring_with}
use Rattle.chord_world.specs.declared.fate.Fate.{Fate}
use Rattle.chord_world.specs.declared.fate.Fate.TheVariants as fate
use Rattle.chord_world.specs.State.{WorldState, new_world, fate_of, CrashedAreThere, IsWorld, KeepsRing}
use Rattle.chord_world.specs.declared.outcome.Outcome.TheVariants as did
use Rattle.chord_world.specs.Steps.{with_founder, CreateIs, IsWindow, with_caller}
use Rattle.chord_world.proofs.Placing.{callers_by, calls_of_more}
use Rattle.chord_world.proofs.RingLemmas.{member_past, fate_within}

-- the world after one more step is reachable
pub further : (old new : World) → ∥ Reached old ∥₁ → WorldStep old new → ∥ Reached new ∥₁
further old new reached step = ∥∥₁_map reached (λ run. Goes_on run step)

pub new_is_world : (r : ℕ) → 2 ≤ r → r ≤ 16 → IsWorld (new_world r)
new_is_world r low high = record { reached = ∣ Stays ∣₁; nodes = tt; callers = tt; targets = tt; calls = tt; fates = refl; crashed = λ number node out here. cc; ring = λ some. absurd (some refl); low = low; high = high }

-- ---- a first node

pub founds : (id : Id) (limit : ℕ) (old : WorldState) → id.number < 2 ^ 128 → old.world.nodes ≡ [] → WorldStep old.world (with_founder id limit old).world
founds id limit old circle none = Creates (alone (record { number = 0; id = id }) old.r) limit circle none

founded_ring_is : (id : Id) (r limit : ℕ) → ring_with (founder (alone (record { number = 0; id = id }) r) limit ∷ []) (fate.Well ∷ []) ≡ founded_ring id.number r
unfolding members_of ids_of
founded_ring_is id r limit = refl

pub founded_is_world : (id : Id) (limit : ℕ) (old : WorldState) → id.number < 2 ^ 128 → old.world.nodes ≡ [] → IsWorld old → IsWorld (with_founder id limit old)
founded_is_world id limit old circle none kept = record {
  reached = further old.world (with_founder id limit old).world kept.reached (founds id limit old circle none);
  nodes = (refl, tt);
  callers = kept.callers;
  targets = kept.targets;
  calls = calls_of_more (length old.world.nodes) 1 (length old.world.callers) (length old.world.callers) old.world.sent
      (let empty = ap (λ (ns : List Node). length ns) none in omega arith) (omega arith) kept.calls;
  fates = refl;
  crashed = none_crashed;
  ring = λ _. subst IsSound (sym (founded_ring_is id old.r limit)) (IsSound-founded id.number old.r circle (let low = kept.low in omega arith));
  low = kept.low;
  high = kept.high;
}
  where
    none_crashed : CrashedAreThere (with_founder id limit old)
    none_crashed zero node out here = cc
    none_crashed (suc number) node out here = cc

-- ---- a caller

pub opens : (window : ℕ) (old : WorldState) → IsWindow window → IsWorld old → WorldStep old.world (with_caller window old).world
opens window old fits kept =
    Opens (length old.world.callers) window fits.0 fits.1
    (callers_by.found 0 (length old.world.callers) (length old.world.callers) old.world.callers kept.callers (omega arith)
    ∙ slice_get_past old.world.callers (length old.world.callers) (omega arith))

pub opened_is_world : (window : ℕ) (old : WorldState) → IsWindow window → IsWorld old → IsWorld (with_caller window old)
opened_is_world window old fits kept = record {
  reached = further old.world (with_caller window old).world kept.reached (opens window old fits kept);
  nodes = kept.nodes;
  callers = callers_by.numbered_push 0 (new_caller (length old.world.callers) window) old.world.callers kept.callers (omega arith);
  targets = kept.targets;
  calls = calls_of_more (length old.world.nodes) (length old.world.nodes) (length old.world.callers) _ old.world.sent (omega arith) (let more = length-append old.world.callers (new_caller (length old.world.callers) window ∷ []) in omega arith) kept.calls;
  fates = kept.fates;
  crashed = kept.crashed;
  ring = kept.ring;
  low = kept.low;
  high = kept.high;
}

-- ---- over the view of the fields, which is the old value

-- the world with these nodes
abbrev pub with_nodes : List Node → WorldState → WorldState
with_nodes nodes view = record view { world = record view.world { nodes = nodes } }

-- and with these fates
abbrev pub with_more : List Node → List Fate → WorldState → WorldState
with_more nodes fates view = record view { world = record view.world { nodes = nodes }; fates = fates }

abbrev pub with_callers : List Caller → WorldState → WorldState
with_callers callers view = record view { world = record view.world { callers = callers } }

-- a list with no length is empty
pub none_in : {A : Type 0} (xs : List A) → length xs ≡ 0 → xs ≡ []
none_in [] e = refl
none_in (x ∷ xs) e = absurd (omega arith)

-- memory ran out
pub no_room : (view old : WorldState) (nodes : List Node) (fates : List Fate) → view ≡ old → nodes ≡ view.world.nodes → fates ≡ view.fates → with_more nodes fates view ≡ old
no_room view old nodes fates same n f = (λ i. with_more (n i) (f i) view) ∙ same

-- a first node, in the terms of the code
pub founded_items : (id : Id) (limit : ℕ) (view : WorldState) (nodes before : List Node) (node : Node) → view.world.nodes ≡ []
    → nodes ≡ before ++ node ∷ [] → before ≡ view.world.nodes → node ≡ founder (alone (record { number = 0; id = id }) view.r) limit
    → nodes ≡ founder (alone (record { number = 0; id = id }) view.r) limit ∷ []
founded_items id limit view nodes before node none items same is =
    items ∙ ap (λ (ns : List Node). ns ++ node ∷ []) (same ∙ none) ∙ ap (λ (n : Node). n ∷ []) is

-- the fates of the nodes, of which there were none
pub founded_fates : (view : WorldState) (fates before : List Fate) → IsWorld view → view.world.nodes ≡ [] → fates ≡ before ++ fate.Well ∷ [] → before ≡ view.fates → fates ≡ fate.Well ∷ []
founded_fates view fates before kept none is same =
    is ∙ ap (λ fs. fs ++ fate.Well ∷ []) (same ∙ no_fates view.fates (kept.fates ∙ ap (λ (ns : List Node). length ns) none))
  where
    no_fates : (fs : List Fate) → length fs ≡ 0 → fs ≡ []
    no_fates [] e = refl
    no_fates (f ∷ fs) e = absurd (omega arith)

pub founded_at : (id : Id) (limit : ℕ) (view : WorldState) (nodes : List Node) (fates : List Fate) → id.number < 2 ^ 128 → view.world.nodes ≡ [] → IsWorld view
    → nodes ≡ founder (alone (record { number = 0; id = id }) view.r) limit ∷ [] → fates ≡ fate.Well ∷ [] → IsWorld (with_more nodes fates view)
founded_at id limit view nodes fates circle none kept is flagged =
    subst IsWorld (λ i. with_more (sym is i) (sym flagged i) view) (founded_is_world id limit view circle none kept)

pub limit_first : {S : Type 0} (f : S → ℕ) (xs : List S) (x : S) → 0 < length xs → x ≡ get_or xs 0 x → slice_get (map f xs) 0 ≡ Some (f x)
limit_first f [] x some e = absurd (omega arith)
limit_first f (y ∷ xs) x some e = ap (λ z. Some (f z)) (sym e)

pub map_some : {S : Type 0} (f : S → ℕ) (xs : List S) → 0 < length xs → map f xs ≢ []
map_some f [] some e = omega arith
map_some f (x ∷ xs) some e = cc

pub some_first : {S : Type 0} (f : S → ℕ) (xs : List S) → map f xs ≢ [] → 0 < length xs
some_first f [] some = absurd (some refl)
some_first f (x ∷ xs) some = omega arith

pub founded_answer : (id : Id) (limits : List ℕ) (limit : ℕ) (view old : WorldState) (nodes : List Node) (fates : List Fate) → view ≡ old → view.world.nodes ≡ []
    → slice_get limits 0 ≡ Some limit → nodes ≡ founder (alone (record { number = 0; id = id }) view.r) limit ∷ [] → fates ≡ fate.Well ∷ []
    → CreateIs id limits old (Ok (did.Node 0)) (with_more nodes fates view)
founded_answer id limits limit view old nodes fates same none first is flagged =
    subst (λ w. CreateIs id limits w (Ok (did.Node 0)) (with_more nodes fates view)) same
    (none, refl, (limit, first, λ i. with_more (is i) (flagged i) view))

pub founded_step : (id : Id) (limit : ℕ) (view old : WorldState) (nodes : List Node) (fates : List Fate) → view ≡ old → id.number < 2 ^ 128 → view.world.nodes ≡ []
    → nodes ≡ founder (alone (record { number = 0; id = id }) view.r) limit ∷ [] → WorldStep old.world (with_more nodes fates view).world
founded_step id limit view old nodes fates same circle none is =
    subst (λ w. WorldStep w.world (with_more nodes fates view).world) same
    (subst (λ ns. WorldStep view.world (with_more ns fates view).world) (sym is) (founds id limit view circle none))

-- no ring existed before
pub founded_keeps : (view old : WorldState) (nodes : List Node) (fates : List Fate) → view ≡ old → IsWorld view → view.world.nodes ≡ [] → KeepsRing old (with_more nodes fates view)
founded_keeps view old nodes fates same kept none =
    subst (λ w. KeepsRing w (with_more nodes fates view)) same
    (record {
      principals = λ node principal still.
          absurd (none-some principal.links (sym (member_past node view.world.nodes view.fates kept.fates (let empty = ap (λ (ns : List Node). length ns) none in omega arith)) ∙ principal.is_its));
      dead = λ number dead. none_within is_dead number refl dead;
      crashed = λ number out. none_within is_out number refl out;
    })
  where
    none_within : {A : Type 0} (p : Fate → Bool) (number : ℕ) → p fate.Well ≡ false → p (fate_of number view) ≡ true → A
    none_within p number well e =
        absurd (let within = fate_within p view.fates number well e in let empty = ap (λ (ns : List Node). length ns) none in let count = kept.fates in omega arith)

-- a caller, in the terms of the code
pub opened_items : (window number : ℕ) (view : WorldState) (callers before : List Caller) (caller : Caller)
    → callers ≡ before ++ caller ∷ [] → before ≡ view.world.callers → caller ≡ new_caller number window → number ≡ length view.world.callers
    → callers ≡ view.world.callers ++ new_caller (length view.world.callers) window ∷ []
opened_items window number view callers before caller items same is at =
    items ∙ ap (λ (cs : List Caller). cs ++ caller ∷ []) same ∙ ap (λ (x : Caller). view.world.callers ++ x ∷ []) (is ∙ ap (λ n. new_caller n window) at)

pub opened_at : (window : ℕ) (view : WorldState) (callers : List Caller) → IsWindow window → IsWorld view
    → callers ≡ view.world.callers ++ new_caller (length view.world.callers) window ∷ [] → IsWorld (with_callers callers view)
opened_at window view callers fits kept is = subst (λ cs. IsWorld (with_callers cs view)) (sym is) (opened_is_world window view fits kept)

pub opened_step : (window : ℕ) (view old : WorldState) (callers : List Caller) → view ≡ old → IsWindow window → IsWorld view
    → callers ≡ view.world.callers ++ new_caller (length view.world.callers) window ∷ [] → WorldStep old.world (with_callers callers view).world
opened_step window view old callers same fits kept is =
    subst (λ w. WorldStep w.world (with_callers callers view).world) same
    (subst (λ cs. WorldStep view.world (with_callers cs view).world) (sym is) (opens window view fits kept))
