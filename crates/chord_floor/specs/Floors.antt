-- The floors of an identifier's holder, and the calls that are executed from then on.
use Rattle.std.specs.Prelude.{◌≡◌, ℕ, ◌<◌, ◌≤◌, true, Option, None, Some, List, ◌∷◌, ◌++◌, length, drop, All}
use Rattle.chord_caller.specs.Caller.{Caller, floor_of}
use Rattle.chord_caller.specs.declared.ask.Ask.{Ask}
use Rattle.chord_ident.specs.Circle.{in_span}
use Rattle.chord_map.specs.declared.done.Done.{Done}
use Rattle.chord_map.specs.declared.pair.Pair.{Pair}
use Rattle.chord_model.specs.declared.message.Message.{Message}
use Rattle.chord_model.specs.Headline.{Holds}
use Rattle.chord_model.specs.Node.{Node, NodeStep}
use Rattle.chord_model.specs.World.{World, WorldStep, caller_at}
use Rattle.chord_segment.specs.Marks.{mark_of}
use Rattle.chord_segment.specs.Segment.{Segment, id_of}

-- the holder of the identifier has at least this floor for the caller
abbrev pub HasFloor : World → ℕ → ℕ → ℕ → Type 0
HasFloor world x caller floor =
    (segment : Segment) (pairs : List Pair) → Holds world.nodes segment pairs
    → in_span segment.span x ≡ true → floor ≤ mark_of caller segment.floors

-- the calls that were executed after the earlier world
abbrev pub executed_since : World → World → List Done
executed_since earlier later = drop (length earlier.history) later.history

-- each of these calls that is the caller's and for the identifier has a number above the floor
abbrev pub AreAbove : ℕ → ℕ → ℕ → List Done → Type 0
AreAbove x caller floor dones =
    All (λ (done : Done). done.caller ≡ caller → id_of done.request ≡ x → floor < done.number) dones

-- the Ask whose call a node's step executes, if it executes one
abbrev pub ask_executed_by : {old new : Node} {taken sent : Option Message} {done : Option Done}
    → NodeStep old taken new sent done → Option Ask
ask_executed_by (NodeStep.Executes ask segment held new) = Some ask
ask_executed_by step = None

-- the Ask whose call a step of a world executes, if it executes one
abbrev pub ask_executed_in : {old new : World} → WorldStep old new → Option Ask
ask_executed_in (WorldStep.Acts number node after taken sent call here was by) = ask_executed_by by
ask_executed_in step = None

-- Behind each call that a caller submitted after the earlier world, no call of that caller for the
-- same identifier is at or below the floor that the caller had in the earlier world.
abbrev pub SettledFirst : World → World → Type 0
SettledFirst earlier later =
    (number : ℕ) (caller : Caller) (done : Done) (before behind : List Done)
    → caller_at number earlier.callers ≡ Some caller → later.history ≡ before ++ done ∷ behind
    → done.caller ≡ number → length caller.submitted < done.number
    → AreAbove (id_of done.request) number (floor_of caller) behind
