use Rattle.std.proofs.Common.{◌≡◌, ℕ, List, subst, drop, ◌∙◌}
use Rattle.chord_serve.specs.Stepping.{AnswersNext}
use Rattle.chord_serve.proofs.Outboxes.{answered_behind}
use Rattle.chord_serve.proofs.link.outbox.Outbox.answer.Goals as goal

pub returns-clause-next : goal.returns-clause-next
returns-clause-next g c before at =
    let p = g.P.Protocol in
    let now : drop c.self.inside.start c.self.inside.due ≡ c.args.self.now = c.self.view_is ∙ c.settle.ensures in
    subst (λ (due : List ℕ). AnswersNext p.hears p.says p.stops p.rests p.idle p.begun c.answer_next.result before due (drop c.self.inside.start c.answer_next.new.due) c.answer_next.new.self) now
    (answered_behind p.hears p.says p.stops p.rests p.idle p.begun c.self.inside.start c.answer_next.result before c.self.inside.due c.answer_next.new.due c.answer_next.new.self c.self.invariant (c.answer_next.ensures.next before at))
