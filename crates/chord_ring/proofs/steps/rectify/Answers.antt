-- The predecessor gives way if it is dead or the notifier is behind it.
use Rattle.std.proofs.Common.{◌∙◌, sym, rules}
use Rattle.chord_ring.proofs.Betweens.{cuts_by_between}
use Rattle.chord_ring.proofs.steps.rectify.Goals as goal
use Rattle.chord_ring.proofs.steps.rectify.Goals.{in-None, in-Some+then-not-predecessor_live, in-Some+else-not-predecessor_live}

pub returns-then-gives-clause-answer : goal.returns-then-gives-clause-answer
returns-then-gives-clause-answer c =
    elim c.match-predecessor.branch [
      | in-None w ↦ search rules
      | in-Some+then-not-predecessor_live w ↦ search rules
      | in-Some+else-not-predecessor_live w ↦
          let lies = rw w.me.ensures at (cuts_by_between w.in-Some.predecessor.id c.args.notifier.id w.me.result.id w.between.result w.between.ensures) in
          rw (sym c.predecessor.ensures ∙ w.in-Some.is, w.if-not-predecessor_live.false) (w.gives-is ∙ sym lies)
    ]

pub returns-else-gives-clause-answer : goal.returns-else-gives-clause-answer
returns-else-gives-clause-answer c =
    elim c.match-predecessor.branch [
      | in-None w ↦ search rules
      | in-Some+then-not-predecessor_live w ↦ search rules
      | in-Some+else-not-predecessor_live w ↦
          let lies = rw w.me.ensures at (cuts_by_between w.in-Some.predecessor.id c.args.notifier.id w.me.result.id w.between.result w.between.ensures) in
          rw (sym c.predecessor.ensures ∙ w.in-Some.is, w.if-not-predecessor_live.false) (w.gives-is ∙ sym lies)
    ]
