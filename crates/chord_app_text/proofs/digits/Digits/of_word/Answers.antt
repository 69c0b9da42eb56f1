use Rattle.std.proofs.Common.{◌∙◌, sym, false}
use Rattle.chord_app_text.specs.Digits.{ArePairs}
use Rattle.chord_app_text.proofs.Pairs.{none_written, shown_written, some_written}
use Rattle.chord_app_text.proofs.digits.Digits.of_word.Goals as goal

pub invariant_of-result-then-writes_pairs : goal.invariant_of-result-then-writes_pairs
invariant_of-result-then-writes_pairs c =
    some_written c.args.word.now (c.writes_pairs.ensures.0 c.if-writes_pairs.true)

pub returns-then-writes_pairs : goal.returns-then-writes_pairs
returns-then-writes_pairs c = shown_written c.args.word.now (c.writes_pairs.ensures.0 c.if-writes_pairs.true)

pub returns-else-writes_pairs : goal.returns-else-writes_pairs
returns-else-writes_pairs c =
    none_written c.args.word.now (sym c.eq.ensures ∙ c.if-eq.false)
    (λ (pairs : ArePairs c.args.word.now). cc (sym (c.writes_pairs.ensures.1 pairs) ∙ c.if-writes_pairs.false))
