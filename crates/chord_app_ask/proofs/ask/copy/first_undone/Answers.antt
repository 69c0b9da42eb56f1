use Rattle.std.proofs.Common.{◌≤◌, length, All, subst, arith}
use Rattle.std.proofs.lemmas.List.{take_all}
use Rattle.std.proofs.lemmas.List.Elements.{All-more}
use Rattle.chord_app_ask.specs.Copies.{IsDone}
use Rattle.chord_app_ask.proofs.ask.copy.first_undone.Goals as goal

pub loop-question-preserved : goal.loop-question-preserved
loop-question-preserved c =
    All-more IsDone c.args.questions.now c.loop-question.question-index c.question-item.result
    c.loop-question-test.true c.loop-question.invariant
    (subst IsDone c.question-item.is c.in_default.ensures)

pub returns : goal.returns
returns c =
    let all : length c.args.questions.now ≤ c.loop-question.question-index =
    omega (arith, c.loop-question-test.false) in
    subst (All IsDone) (take_all c.loop-question.question-index c.args.questions.now all)
    c.loop-question.invariant
