use Rattle.std.proofs.Common.{take}
use Rattle.chord_app_ask.specs.Copies.{AreDone}
use Rattle.chord_app_ask.proofs.ask.copy.first_undone.Given as goal

-- those so far are done
abbrev pub invariant-loop-question : goal.invariant-loop-question
invariant-loop-question l = AreDone (take l.question-index l.questions)
