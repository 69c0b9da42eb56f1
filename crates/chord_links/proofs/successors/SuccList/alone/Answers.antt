-- Each walk is longer than 0.
use Rattle.std.proofs.Common.{◌≡◌, [], ◌∷◌, ◌++◌, arith, ap, ◌∙◌}
use Rattle.chord_links.proofs.Clockwise.{walk_positive}
use Rattle.chord_links.proofs.successors.SuccList.alone.Goals as goal

pub invariant_of-result : goal.invariant_of-result
invariant_of-result c =
    let pushed : c.push.new.self ≡ c.args.me ∷ [] = c.push.ensures ∙ ap (λ l. l ++ c.args.me ∷ []) c.new-peers.ensures in
    rw pushed (omega arith, (walk_positive c.args.me.id.number c.args.me.id.number, tt))
