use Rattle.chord_app_operator.specs.Json.{count_member}
use Rattle.chord_app_operator.proofs.Members.{one_more_member}
use Rattle.chord_app_operator.proofs.show.members.put_counts.Goals as goal

pub loop-name-preserved : goal.loop-name-preserved
loop-name-preserved c =
    one_more_member count_member c.args.counts.now c.loop-name.name-index _ _ _ _ _ c.loop-name-test.true c.from.ensures c.in_ok-put.ensures.ok c.loop-name.invariant
