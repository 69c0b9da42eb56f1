-- There is one seat more.
use Rattle.std.proofs.Common.{arith, refl, sym, subst, ap, ◌∙◌, ◌+◌, length}
use Rattle.chord_live_steps.proofs.Judging.{one_more_node}
use Rattle.chord_live_steps.specs.Counts.{Counts}
use Rattle.chord_live_steps.specs.Registered.{IsRegister}
use Rattle.chord_table.specs.Views.{Assembled, as_actor, nodes_among}
use Rattle.chord_live_steps.proofs.numbers.Numbers.take_node.Goals as goal

pub unreachable-requires : goal.unreachable-requires
unreachable-requires g c =
    let nodes = ap (λ (counts : Counts). counts.nodes) c.self.view_is in
    let taken = ap (λ (counts : Counts). length (nodes_among counts.taken)) c.self.view_is in
    omega (arith, c.requires.some_left, c.self.invariant.0, nodes, taken, c.len.ensures)

pub invariant_of-self : goal.invariant_of-self
invariant_of-self g c =
    let i = c.self.invariant in
    let taken = c.take_node.ensures in (
      ap (λ n. n + 1) i.0 ∙ sym (one_more_node c.self.inside.registrar.taken (as_actor c.args.seat) refl) ∙ ap (λ (a : Assembled). length (nodes_among a.taken)) (sym taken),
      i.1,
      subst (IsRegister c.self.inside.callers c.self.inside.ids.items c.self.inside.premise) (sym (ap (λ (a : Assembled). a.register) taken)) i.2,
    )
