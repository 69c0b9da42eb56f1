use Rattle.chord_route.specs.Course.{ComesTo}
use Rattle.chord_route.proofs.lookup.look_up.Given as goal

-- the lookup has come here by its forwards so far
abbrev pub invariant-loop-forwards : goal.invariant-loop-forwards
invariant-loop-forwards g l = ComesTo (g.R.LinkReader.answers l.reader) l.from l.target.number l.forwards l.here
