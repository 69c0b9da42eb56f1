use Rattle.std.proofs.Common.{true, ap, ◌∙◌}
use Rattle.chord_journal.specs.Journal.{added}
use Rattle.chord_live_ring.proofs.Additions.{retrieve_adds_none}
use Rattle.chord_live_ring.proofs.journaling.asks_change.Goals as goal
use Rattle.chord_live_steps.specs.Dealt.{executed_for}

pub returns-in-Retrieve-clause-other : goal.returns-in-Retrieve-clause-other
returns-in-Retrieve-clause-other c _ node =
    ap (λ message. added true (executed_for message node)) c.in-Ask.is ∙ retrieve_adds_none c.in-Ask.ask c.in-Retrieve.key node c.in-Retrieve.is
