-- Why a node of a ring does not depart, as each call tells it. Source: our own.
use Rattle.chord_live_ring.specs.declared.fault.CrashFault.{CrashFault}
use Rattle.chord_live_ring.specs.declared.fault.CrashFault.TheVariants as crash
use Rattle.chord_live_ring.specs.declared.fault.DepartFault.{DepartFault}
use Rattle.chord_live_ring.specs.declared.fault.DepartFault.TheVariants as departs
use Rattle.chord_live_ring.specs.declared.fault.RingRetireFault.{RingRetireFault}
use Rattle.chord_live_ring.specs.declared.fault.RingRetireFault.TheVariants as ring
use Rattle.chord_node.specs.declared.fault.RetireFault.{RetireFault}
use Rattle.chord_node.specs.declared.fault.RetireFault.TheVariants as node

-- the refusal of a departure for the node's own
abbrev pub departure_refusal : RetireFault → DepartFault
departure_refusal node.NotLeaving = departs.NotLeaving
departure_refusal node.NotEmpty = departs.NotEmpty

-- the refusal to retire for that of a departure
abbrev pub retire_refusal : DepartFault → RingRetireFault
retire_refusal departs.NotLeaving = ring.NotLeaving
retire_refusal departs.NotEmpty = ring.NotEmpty
retire_refusal departs.NotLive = ring.NotLeaving
retire_refusal departs.Unsafe = ring.Unsafe

-- the refusal of a crash for that of a departure
abbrev pub crash_refusal : DepartFault → CrashFault
crash_refusal departs.NotLeaving = crash.NotLive
crash_refusal departs.NotEmpty = crash.NotLive
crash_refusal departs.NotLive = crash.NotLive
crash_refusal departs.Unsafe = crash.Unsafe
