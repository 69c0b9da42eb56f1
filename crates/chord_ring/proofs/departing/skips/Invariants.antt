use Rattle.std.proofs.Common.{◌↔◌, drop}
use Rattle.chord_links.specs.Successors.{Skips}
use Rattle.chord_ring.proofs.departing.skips.Given as goal

-- the list skips the identifier exactly if the rest of it does
abbrev pub invariant-loop-peer : goal.invariant-loop-peer
invariant-loop-peer l =
    Skips l.links.me.id.number l.links.entries l.x.number ↔ Skips l.before.number (drop l.peer-index l.links.entries) l.x.number
