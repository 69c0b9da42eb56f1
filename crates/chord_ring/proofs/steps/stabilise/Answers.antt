-- The candidate is the entry's predecessor if it is between the two.
use Rattle.std.proofs.Common.{◌∙◌, sym, rules}
use Rattle.chord_ring.proofs.Betweens.{cuts_by_between}
use Rattle.chord_ring.proofs.steps.stabilise.Goals as goal
use Rattle.chord_ring.proofs.steps.stabilise.Goals.{in-Some, in_default-2, in_default}

pub returns-clause-ok : goal.returns-clause-ok
returns-clause-ok c =
    elim c.match-predecessor.branch [
      | in-Some w ↦
          let had = sym c.predecessor.ensures ∙ w.in-Some.is in
          let lies = rw (c.me-own.ensures, c.me-first.ensures) at (cuts_by_between c.me-own.result.id w.in-Some.peer.id c.me-first.result.id w.between.result w.between.ensures) in
          rw (had, lies, w.if-between.true) w.candidate-is
      | in_default-2 w ↦
          let had = sym c.predecessor.ensures ∙ w.in-Some.is in
          let lies = rw (c.me-own.ensures, c.me-first.ensures) at (cuts_by_between c.me-own.result.id w.in-Some.peer.id c.me-first.result.id w.between.result w.between.ensures) in
          rw (had, lies, w.if-between.false) w.candidate-is
      | in_default w ↦ search rules
    ]
