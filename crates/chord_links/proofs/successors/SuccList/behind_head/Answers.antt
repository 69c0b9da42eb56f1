-- The pushed peers are the list behind the first entry, and that rises.
use Rattle.std.proofs.Common.{refl}
use Rattle.chord_links.proofs.Skipping.{filled_behind_successor}
use Rattle.chord_links.proofs.successors.SuccList.behind_head.Goals as goal

pub invariant_of-result : goal.invariant_of-result
invariant_of-result c =
    let filled =
    filled_behind_successor c.args.owner.number c.args.r c.args.head c.args.rest.now c.args.rest.now c.new-peers.result c.push.new.self
    c.extend_from_slice.new.self c.rising_len.result c.min-copied.result c.requires.low refl
    c.rising_len.ensures.front c.min-copied.ensures c.new-peers.ensures c.push.ensures c.extend_from_slice.ensures in
    (filled.1, filled.2)
