use Rattle.std.proofs.Common.{◌≡◌, ◌++◌, take, drop}
use Rattle.chord_ident.specs.Circle.{walk}
use Rattle.chord_links.specs.Successors.{rising_front}
use Rattle.chord_links.proofs.successors.rising_len.Given as goal

-- the rising prefix is the peers so far and the rising prefix of the rest
abbrev pub invariant-loop-i : goal.invariant-loop-i
invariant-loop-i l = rising_front l.owner.number (walk l.owner.number l.fn.past.number) l.peers ≡ take l.i l.peers ++ rising_front l.owner.number (walk l.owner.number l.last.number) (drop l.i l.peers)
