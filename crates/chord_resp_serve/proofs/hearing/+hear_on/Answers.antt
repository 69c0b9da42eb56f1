use Rattle.std.proofs.Common.{List, subst}
use Rattle.chord_map.specs.declared.request.Request.{Request}
use Rattle.chord_resp_serve.specs.declared.standing.Standing.{Standing}
use Rattle.chord_resp_serve.specs.Waiting.{AsksSome}
use Rattle.chord_resp_serve.proofs.Asks.{done_then, head_and_rest, one_more}
use Rattle.chord_resp_serve.proofs.hearing.+hear_on.Goals as goal

pub returns-in-len1-up-clause-asked : goal.returns-in-len1-up-clause-asked
returns-in-len1-up-clause-asked g t c before first request given standing =
    let old = c.args.standing.now in
    let one = one_more c.saturating_add-standing.result old c.saturating_add-standing.ensures in
    let parts = head_and_rest c.args.rest.now c.request-item.result c.in-len1-up.len_at_least c.request-item.is in
    let more = c.hear_on.ensures.asked old c.args.asker.now c.request-item.result c.ask-answer.ensures.answer one in
    done_then g.A.Asker.answers c.hear_on.result request c.args.rest.now c.args.answer c.args.tally.now c.hear.new.self c.hear_on.new.tally before c.hear_on.new.standing first c.args.asker.now c.hear_on.new.asker given
    c.in_default-hear.ensures.heard c.in_default-hear.ensures.done
    (subst (λ (n : Standing). AsksSome g.A.Asker.answers c.hear_on.result n c.args.asker.now c.hear.new.self c.args.rest.now c.hear_on.new.tally c.hear_on.new.standing c.hear_on.new.asker) standing
    (subst (λ (x : List Request). AsksSome g.A.Asker.answers c.hear_on.result old c.args.asker.now c.hear.new.self x c.hear_on.new.tally c.hear_on.new.standing c.hear_on.new.asker) parts more))
