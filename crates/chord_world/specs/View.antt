-- The fields of a World as a world of the definitions.
use Rattle.chord_world.specs.declared.world.World.TheInside.{Inside}
use Rattle.chord_world.specs.State.{WorldState, messages_of, targets_of}

abbrev pub state_of : {S : Type 0} → Inside S → WorldState
state_of a = record {
  world = record { nodes = a.nodes.items; callers = a.callers.items; sent = messages_of a.sent.items; history = a.history.calls };
  targets = targets_of a.sent.items;
  fates = a.fates.items;
  r = a.r;
}
