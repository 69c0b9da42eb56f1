use Rattle.std.proofs.Common.{List, map, ◌++◌, [], ◌∷◌, ap, sym, subst, ◌∙◌}
use Rattle.chord_app_serve.proofs.Together.{groups_next}
use Rattle.chord_app_serve.specs.Together.{AreGroups, caller_in, callers_in}
use Rattle.chord_app_serve.specs.declared.plan_run.asking.AskResult.{AskResult}
use Rattle.chord_caller.specs.Caller.{Caller}
use Rattle.chord_app_serve.proofs.plan_run.RunAnswers.add.Goals as goal

pub returns : goal.returns
returns g c = λ groups.
    let before = map caller_in c.args.self.now.callers.items in
    let own = callers_in c.args.answers.caller in
    let next = groups_next before own c.args.self.now.all.items c.args.answers.results groups c.args.answers.are in
    subst (λ (callers : List Caller). AreGroups callers c.push.new.self.items) (sym c.in_ok-add_caller.ensures.callers)
    (subst (λ (all : List (List AskResult)). AreGroups (before ++ own) all) (sym (c.in_ok-push.ensures.items ∙ ap (λ (all : List (List AskResult)). all ++ c.args.answers.results ∷ []) c.add_caller.ensures.all)) next)
