use Rattle.std.proofs.Common.{◌≡◌}
use Rattle.chord_table.specs.Views.{callers_among}
use Rattle.chord_live_ring.proofs.closing.Gathering.take_slots.Given as goal

-- who is registered and which callers were taken in stays as it was
abbrev pub invariant-loop-slot : goal.invariant-loop-slot
invariant-loop-slot g l =
    (l.self.seats.register ≡ l.initial.self.seats.register) × (callers_among l.self.seats.taken ≡ callers_among l.initial.self.seats.taken)
