-- There is one seat fewer.
use Rattle.std.proofs.Common.{arith, sym, subst, ap, ◌≢◌, ◌≡◌, List, [], length}
use Rattle.chord_live_steps.proofs.Judging.{one_node_fewer}
use Rattle.chord_live_steps.specs.Counts.{Counts}
use Rattle.chord_live_steps.specs.Registered.{IsRegister}
use Rattle.chord_table.specs.Seen.{OfNode, Sight}
use Rattle.chord_table.specs.Views.{Assembled, crashed_in, last_of, node_in, nodes_among}
use Rattle.chord_live_steps.proofs.numbers.Numbers.give_node.Goals as goal

pub overflow_sub-self : goal.overflow_sub-self
overflow_sub-self g c =
    let taken = sym (ap (λ (counts : Counts). counts.taken) c.self.view_is) in
    let some = subst (λ (l : List Sight). l ≢ []) taken c.requires.some in
    let node = subst (λ (l : List Sight). (last_of l).actor ≡ OfNode (node_in (last_of l).actor) (crashed_in (last_of l).actor)) taken c.requires.node in
    let fewer = one_node_fewer c.self.inside.registrar.taken some node in
    omega (arith, c.self.invariant.0, fewer)

pub invariant_of-self : goal.invariant_of-self
invariant_of-self g c =
    let i = c.self.invariant in
    let taken = sym (ap (λ (counts : Counts). counts.taken) c.self.view_is) in
    let some = subst (λ (l : List Sight). l ≢ []) taken c.requires.some in
    let node = subst (λ (l : List Sight). (last_of l).actor ≡ OfNode (node_in (last_of l).actor) (crashed_in (last_of l).actor)) taken c.requires.node in
    let fewer = one_node_fewer c.self.inside.registrar.taken some node in
    let left = ap (λ (a : Assembled). length (nodes_among a.taken)) c.give_node.ensures.left in (
      omega (arith, i.0, fewer, left),
      i.1,
      subst (IsRegister c.self.inside.callers c.self.inside.ids.items c.self.inside.premise) (sym (ap (λ (a : Assembled). a.register) c.give_node.ensures.left)) i.2,
    )
