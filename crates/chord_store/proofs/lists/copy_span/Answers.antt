use Rattle.std.proofs.Common.{sym, ◌∙◌}
use Rattle.chord_store.proofs.Memory.{inside_at}
use Rattle.chord_store.proofs.lists.copy_span.Goals as goal

pub returns-in_err-try_copy-clause-none : goal.returns-in_err-try_copy-clause-none
returns-in_err-try_copy-clause-none c = λ none.
    absurd (inside_at c.args.span.now c.args.pairs.now c.loop-pair.pair-index c.pair-item.result c.loop-pair-test.true c.pair-item.is (sym c.is_inside.ensures ∙ c.if-is_inside.true) none)

pub returns-in_err-push-clause-none : goal.returns-in_err-push-clause-none
returns-in_err-push-clause-none c = λ none.
    absurd (inside_at c.args.span.now c.args.pairs.now c.loop-pair.pair-index c.pair-item.result c.loop-pair-test.true c.pair-item.is (sym c.is_inside.ensures ∙ c.if-is_inside.true) none)
