use Rattle.chord_app_operator.specs.Lines.{pair_line}
use Rattle.chord_app_operator.proofs.Lines.{one_more_line}
use Rattle.chord_app_operator.proofs.show.inserts.pair_lines.Goals as goal

pub loop-pair-preserved : goal.loop-pair-preserved
loop-pair-preserved c =
    one_more_line pair_line c.args.pairs.now c.loop-pair.pair-index _ _ _ _ c.loop-pair-test.true c.pair-item.is c.in_ok-add_line.ensures c.loop-pair.invariant
