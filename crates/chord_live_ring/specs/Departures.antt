-- Departures of nodes with their seats. Source: our own.
use Rattle.std.specs.Prelude.{◌≡◌, ◌≢◌, ◌⊎◌, ℕ, ◌||◌, ◌==◌, Bool, true, false, Option, None, Some, []}
use Rattle.chord_live_ring.specs.Sights.{Seated, is_member}
use Rattle.chord_live_ring.specs.declared.fault.DepartFault.{DepartFault}
use Rattle.chord_live_ring.specs.declared.fault.DepartFault.TheVariants as fault
use Rattle.chord_live_steps.specs.declared.departure.Departure.{Departure}
use Rattle.chord_live_steps.specs.declared.departure.Departure.TheVariants as departure
use Rattle.chord_model.specs.Node.{Node}
use Rattle.chord_model.specs.declared.phase.Phase.TheVariants.{Leaving}
use Rattle.chord_table.specs.Views.{gone_if}

-- the node once a node departed: it is gone if it is the one that retired
abbrev pub node_after : Departure → Node → Node
node_after (departure.Crash number) node = node
node_after (departure.Retire number) node = gone_if (number == node.number) node

-- whether it crashed, once a node departed
abbrev pub crashed_after : Departure → ℕ → Bool → Bool
crashed_after (departure.Crash number) own crashed = (number == own) || crashed
crashed_after (departure.Retire number) own crashed = crashed

-- the node with its seat, once a node departed
abbrev pub seated_after : Departure → Seated → Seated
seated_after departure seated = record seated {
  node = node_after departure seated.node;
  crashed = crashed_after departure seated.node.number seated.crashed;
}

-- the node is leaving and empty, if it is the one that is to retire
abbrev pub LeavesEmpty : Departure → Node → Type 0
LeavesEmpty (departure.Crash number) node = Unit {0}
LeavesEmpty (departure.Retire number) node = number ≡ node.number → (node.phase ≡ Leaving) × (node.held ≡ []) × (node.outbox ≡ [])

-- why the node would not crash so that the ring is asked
abbrev pub CrashFaultIs : Seated → Option DepartFault → Type 0
CrashFaultIs seated None = is_member seated ≡ true
CrashFaultIs seated (Some why) = (why ≡ fault.NotLive) × (is_member seated ≡ false)

-- the node is a leaving member
abbrev pub IsLeaving : Seated → Type 0
IsLeaving seated = (seated.crashed ≡ false) × (seated.node.phase ≡ Leaving)

-- why the node would not retire so that the ring is asked
abbrev pub RetireFaultIs : Seated → Option DepartFault → Type 0
RetireFaultIs seated None = IsLeaving seated × (seated.node.held ≡ []) × (seated.node.outbox ≡ [])
RetireFaultIs seated (Some fault.NotLeaving) = ¬ IsLeaving seated
RetireFaultIs seated (Some fault.NotEmpty) = IsLeaving seated × ((seated.node.held ≢ []) ⊎ (seated.node.outbox ≢ []))
RetireFaultIs seated (Some other) = ⊥
