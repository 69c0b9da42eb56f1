use Rattle.std.proofs.Common.{◌≡◌, List, [], ◌∷◌, ◌++◌, map, take, sym, ◌∙◌, ap, subst, arith}
use Rattle.std.proofs.lemmas.List.{take_more}
use Rattle.chord_world.specs.declared.runs.StepResult.{StepResult}
use Rattle.chord_world.specs.Runs.{Ran}
use Rattle.chord_world.specs.Runs.Ran.{Nothing}
use Rattle.chord_world.proofs.RunLemmas.{ran_more, limits_after, run_more, run_none, vacant_after}
use Rattle.chord_world.proofs.runs.run.Goals as goal

pub returns-in_err-answers-clause-seen : goal.returns-in_err-answers-clause-seen
returns-in_err-answers-clause-seen g c = c.seen_first.ensures c.args.world.now.world c.args.world.now.world c.headline.ensures.reached (run_none c.args.world.now.world)

pub loop-step-init : goal.loop-step-init
loop-step-init g c = record {
  ran = subst (λ (xs : List StepResult). Ran (map g.S.EntryStore.limit c.args.stores.now.items) c.args.world.now [] xs (map g.S.EntryStore.limit c.args.stores.now.items) c.args.world.now)
      (sym c.in_ok-answers.ensures.items) Nothing;
  run = run_none c.args.world.now.world;
  vacant = c.requires;
  counted = c.in_ok-answers.ensures.len;
  room = c.in_ok-answers.ensures.exact;
}

pub loop-step-preserved : goal.loop-step-preserved
loop-step-preserved g c = record {
  ran = ran_more _ _ _ _ _ _ _ _ _ _ c.step-item.result c.answer_of.result c.step-result.result c.loop-step.invariant.ran c.step-result.ensures.answer c.answer_of.ensures
      (take_more c.args.steps.now c.loop-step.step-index c.step-item.result (omega arith) ∙ ap (λ s. take c.loop-step.step-index c.args.steps.now ++ s ∷ []) (sym c.step-item.is))
      c.push_reserved.ensures.items
      (limits_after g.S.EntryStore.limit c.step-item.result c.answer_of.result c.step-result.result _ _ c.answer_of.ensures c.step-result.ensures.stores);
  run = run_more c.args.world.now.world c.loop-step.world c.step-result.new.self c.step-item.result c.step-result.result c.loop-step.invariant.run c.step-result.ensures.step;
  vacant = vacant_after (λ (s : g.row.S.Denot). g.S.EntryStore.content s ≡ []) c.step-item.result c.step-result.result _ _ c.step-result.ensures.stores c.loop-step.invariant.vacant;
  counted = let n = c.loop-step.invariant.counted in omega arith;
  room = c.push_reserved.ensures.capacity ∙ c.loop-step.invariant.room;
}
