use Rattle.std.proofs.Common.{length}
use Rattle.chord_resp_serve.proofs.hearing.+hear_on.Given as goal

abbrev pub decreases-hear_on : goal.decreases-hear_on
decreases-hear_on g l = length l.rest.now
