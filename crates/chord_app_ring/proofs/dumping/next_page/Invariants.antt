use Rattle.chord_app_ring.specs.Dumping.{Waits}
use Rattle.chord_app_ring.proofs.dumping.next_page.Given as goal

-- each try so far found the page under way
abbrev pub invariant-loop-tries : goal.invariant-loop-tries
invariant-loop-tries g l = Waits g.T.PageTeller.tells l.fn.after l.fn.teller l.tries l.teller
