use Rattle.std.proofs.Common.{◌≡◌, ◌++◌, map}
use Rattle.chord_table.specs.Views.{CallerSight, callers_among}
use Rattle.chord_live_ring.proofs.closing.Gathering.take_callers.Given as goal

-- the callers so far were taken in, in order
abbrev pub invariant-loop-caller : goal.invariant-loop-caller
invariant-loop-caller g l =
    (l.self.seats.register ≡ l.initial.self.seats.register)
    × (callers_among l.self.seats.taken ≡ callers_among l.initial.self.seats.taken ++ map (λ (c : CallerSight). c.caller) l.yielded)
