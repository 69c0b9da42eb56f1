use Rattle.std.proofs.Common.{◌≡◌, length, take}
use Rattle.chord_segment.specs.Callers.{calls_in}
use Rattle.chord_live_ring.specs.Sights.{capped}
use Rattle.chord_live_ring.proofs.looking.kept_for.Given as goal

-- the replies of the callers so far are counted
abbrev pub invariant-loop-own : goal.invariant-loop-own
invariant-loop-own l = l.kept ≡ capped (length (calls_in (take l.own-index l.callers)))
