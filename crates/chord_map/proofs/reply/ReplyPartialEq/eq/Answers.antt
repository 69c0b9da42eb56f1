use Rattle.chord_map.specs.Same.{tells_reply}
use Rattle.chord_map.proofs.reply.ReplyPartialEq.eq.Goals as goal

pub returns-in-Values-Values-clause-same : goal.returns-in-Values-Values-clause-same
returns-in-Values-Values-clause-same c =
    tells_reply c.args.self.now c.args.other.now c.in-Values-Values.values c.in-Values-Values.others c.eq.result c.in-Values-Values.is-0 c.in-Values-Values.is-1 c.eq.ensures
