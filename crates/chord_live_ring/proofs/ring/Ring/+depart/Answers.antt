use Rattle.std.proofs.Common.{◌≡◌, ◌≤◌, ◌+◌, Bool, sym, ap, ◌∙◌, length, rules}
use Rattle.chord_live_ring.proofs.Coming.{shown_by}
use Rattle.chord_live_ring.proofs.Departures.{back_messages, back_shows, can_go, few_next, given_err, given_ok, last_kept, last_left, last_node, leaves_empty, may_after, may_next, rows_next, seated_back, seated_left, shown_after}
use Rattle.chord_live_ring.specs.Departures.{crashed_after, node_after}
use Rattle.chord_live_ring.specs.Sights.{Seated}
use Rattle.chord_live_steps.specs.Departures.{MayDepart, departed, rows_among}
use Rattle.chord_model.specs.Node.{Node}
use Rattle.chord_table.specs.Scenes.{place_of}
use Rattle.chord_table.specs.Views.{as_actor}
use Rattle.chord_live_ring.proofs.ring.Ring.+depart.Goals as goal

pub lend-depart_from-requires : goal.lend-depart_from-requires
lend-depart_from-requires g t c =
    let seat = c.in-Some-replace.seat in
    let there = sym c.replace.ensures.value ∙ c.in-Some-replace.is in
    let shows = shown_by c.seated.inside.node c.seated.inside.crashed c.seated.inside.seat seat there c.seated.invariant in
    let can = can_go c.args.departure c.args.seated.now c.departure_fault.result c.departure_fault.ensures.retire c.in_default.not-Some in
    let few : length c.post.new.self ≤ c.args.at + 1 =
    few_next c.args.board.now c.post.new.self c.seated.inside.node.number c.args.at (place_of c.seated.inside.crashed c.seated.inside.node) c.requires.few c.post.ensures in
    let board : c.post.new.self ≡ rows_among c.take_node.new.self.taken =
    rows_next c.args.numbers.now c.take_node.new.self c.args.board.now c.post.new.self c.seated.inside.node c.seated.inside.crashed seat c.take_node.ensures c.requires.board shows.0 shows.1 c.post.ensures in
    let may : MayDepart c.args.departure c.take_node.new.self.taken =
    may_after c.args.departure c.args.numbers.now c.take_node.new.self (as_actor seat) c.take_node.ensures
    (may_next c.args.departure c.args.numbers.now.taken c.args.seated.now seat (sym (ap (λ (s : Seated). s.node) c.seated.view_is) ∙ shows.0)
    (sym (ap (λ (s : Seated). s.crashed) c.seated.view_is) ∙ shows.1) can c.requires.may) in
    search rules

pub lend-depart_node-requires : goal.lend-depart_node-requires
lend-depart_node-requires g t c =
    let can = can_go c.args.departure c.args.seated.now c.departure_fault.result c.departure_fault.ensures.retire c.in_default.not-Some in
    leaves_empty c.args.departure c.args.seated.now c.seated.inside.node (sym (ap (λ (s : Seated). s.node) c.seated.view_is)) can

pub lend-give_node-requires-clause-node : goal.lend-give_node-requires-clause-node
lend-give_node-requires-clause-node g t c =
    let seat = c.in-Some-replace.seat in
    let last = last_left c.args.departure c.args.numbers.now c.take_node.new.self c.depart_from.new.numbers seat c.take_node.ensures c.in-Ok.ensures.done in
    last_node c.depart_from.new.numbers.taken (shown_after c.args.departure seat) last

pub lend-give_node-requires-in-Err-clause-node : goal.lend-give_node-requires-in-Err-clause-node
lend-give_node-requires-in-Err-clause-node g t c =
    let seat = c.in-Some-replace.seat in
    let last = last_kept c.args.departure c.args.numbers.now c.take_node.new.self c.depart_from.new.numbers seat c.take_node.ensures c.in-Err.ensures.kept in
    last_node c.depart_from.new.numbers.taken seat last

pub lend-invariant_of-seated-in-Err : goal.lend-invariant_of-seated-in-Err
lend-invariant_of-seated-in-Err g t c =
    let seat = c.in-Some-replace.seat in
    let there = sym c.replace.ensures.value ∙ c.in-Some-replace.is in
    let shows = shown_by c.seated.inside.node c.seated.inside.crashed c.seated.inside.seat seat there c.seated.invariant in
    let last = last_kept c.args.departure c.args.numbers.now c.take_node.new.self c.depart_from.new.numbers seat c.take_node.ensures c.in-Err.ensures.kept in
    back_shows c.depart_from.new.numbers.taken seat last c.give_node-in-Err.result c.seated.inside.node c.seated.inside.crashed c.give_node-in-Err.ensures.seat shows.0 shows.1

pub lend-returns-in-Err-clause-kept : goal.lend-returns-in-Err-clause-kept
lend-returns-in-Err-clause-kept g t c =
    let seat = c.in-Some-replace.seat in
    given_err (departed c.args.departure) c.args.numbers.now c.take_node.new.self c.depart_from.new.numbers c.give_node-in-Err.new.self (as_actor seat) c.take_node.ensures c.in-Err.ensures.kept c.give_node-in-Err.ensures.left

pub lend-returns-in-Err-clause-same : goal.lend-returns-in-Err-clause-same
lend-returns-in-Err-clause-same g t c =
    let seat = c.in-Some-replace.seat in
    let there = sym c.replace.ensures.value ∙ c.in-Some-replace.is in
    let last = last_kept c.args.departure c.args.numbers.now c.take_node.new.self c.depart_from.new.numbers seat c.take_node.ensures c.in-Err.ensures.kept in
    seated_back c.seated.inside.node c.seated.inside.crashed c.seated.inside.seat seat c.give_node-in-Err.result c.seated.inside.counts c.args.seated.now c.seated.view_is there
    (back_messages c.depart_from.new.numbers.taken seat last c.give_node-in-Err.result c.give_node-in-Err.ensures.seat)

pub lend-invariant_of-seated : goal.lend-invariant_of-seated
lend-invariant_of-seated g t c =
    let seat = c.in-Some-replace.seat in
    let there = sym c.replace.ensures.value ∙ c.in-Some-replace.is in
    let shows = shown_by c.seated.inside.node c.seated.inside.crashed c.seated.inside.seat seat there c.seated.invariant in
    let last = last_left c.args.departure c.args.numbers.now c.take_node.new.self c.depart_from.new.numbers seat c.take_node.ensures c.in-Ok.ensures.done in
    let mine = c.depart_node.ensures.node ∙ ap (λ (n : Node). node_after c.args.departure n) shows.0 in
    let out = c.depart_node.ensures.crashed ∙ ap (λ (n : Node). crashed_after c.args.departure n.number c.seated.inside.crashed) shows.0 ∙ ap (λ (b : Bool). crashed_after c.args.departure seat.node.number b) shows.1 in
    back_shows c.depart_from.new.numbers.taken (shown_after c.args.departure seat) last c.give_node.result c.depart_node.new.node c.depart_node.new.crashed c.give_node.ensures.seat mine out

pub lend-returns-in-Ok-clause-done : goal.lend-returns-in-Ok-clause-done
lend-returns-in-Ok-clause-done g t c =
    let seat = c.in-Some-replace.seat in
    given_ok (departed c.args.departure) c.args.numbers.now c.take_node.new.self c.depart_from.new.numbers c.give_node.new.self (as_actor seat) c.take_node.ensures c.in-Ok.ensures.done c.give_node.ensures.left

pub lend-returns-in-Ok-clause-left : goal.lend-returns-in-Ok-clause-left
lend-returns-in-Ok-clause-left g t c =
    let seat = c.in-Some-replace.seat in
    let there = sym c.replace.ensures.value ∙ c.in-Some-replace.is in
    let last = last_left c.args.departure c.args.numbers.now c.take_node.new.self c.depart_from.new.numbers seat c.take_node.ensures c.in-Ok.ensures.done in
    seated_left c.args.departure c.seated.inside.node c.depart_node.new.node c.seated.inside.crashed c.depart_node.new.crashed c.seated.inside.seat seat c.give_node.result c.seated.inside.counts c.args.seated.now c.seated.view_is there
    (back_messages c.depart_from.new.numbers.taken (shown_after c.args.departure seat) last c.give_node.result c.give_node.ensures.seat) c.depart_node.ensures.node c.depart_node.ensures.crashed
