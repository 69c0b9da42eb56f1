use Rattle.std.proofs.Common.{◌≡◌, take}
use Rattle.chord_live_ring.specs.Sights.{numbers_of}
use Rattle.chord_live_ring.proofs.looking.numbers_of.Given as goal

-- the numbers of the peers so far
abbrev pub invariant-loop-peer : goal.invariant-loop-peer
invariant-loop-peer l = l.numbers.items ≡ numbers_of (take l.peer-index l.peers)
