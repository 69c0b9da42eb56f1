-- The seats of all nodes show what the board has, as a look at the table proves.
use Rattle.std.proofs.Common.{◌≡◌, ◌∙◌, List, ap, sym, subst, length, refl}
use Rattle.std.proofs.lemmas.Bool.{true≢false}
use Rattle.chord_live_steps.proofs.Judging.{all_held, allowed, can_by, can_now, departed_count, retires_now}
use Rattle.chord_live_steps.specs.Counts.{Counts}
use Rattle.chord_live_steps.specs.Departures.{MayDepart, number_of, rows_among}
use Rattle.chord_live_steps.specs.Registered.{IsRegister}
use Rattle.chord_ring.specs.Ring.{CanDepart, Members}
use Rattle.chord_table.specs.Rings.{AreMembers}
use Rattle.chord_table.specs.Seen.{Sight}
use Rattle.chord_table.specs.Views.{Assembled, HasAllNodes, MayRetire, nodes_among}
use Rattle.chord_live_steps.proofs.numbers.Numbers.depart.Goals as goal

pub returns-then-self-nodes-clause-variant : goal.returns-then-self-nodes-clause-variant
returns-then-self-nodes-clause-variant g c = (
  λ yes. cc,
  λ can. absurd (c.if-self-nodes.true (c.self.invariant.0 ∙ ap (λ (counts : Counts). length (nodes_among counts.taken)) c.self.view_is ∙ can.0
      ∙ sym ((c.len-nodes.ensures ∙ c.self.inside.ids.ok.0) ∙ ap (λ (counts : Counts). counts.nodes) c.self.view_is))),
)

pub returns-then-not-can_depart_among-clause-variant : goal.returns-then-not-can_depart_among-clause-variant
returns-then-not-can_depart_among-clause-variant g c = (
  λ yes. cc,
  λ can. absurd (true≢false (sym (c.can_depart_among.ensures.1 (can_by c.args.departure c.len-nodes.result c.args.self.now.nodes c.number.result c.args.self.now.taken c.args.board.now
      ((c.len-nodes.ensures ∙ c.self.inside.ids.ok.0) ∙ ap (λ (counts : Counts). counts.nodes) c.self.view_is) c.requires.board c.number.ensures can)) ∙ c.if-not-can_depart_among.true)),
)

pub depart_now-requires-clause-whole : goal.depart_now-requires-clause-whole
depart_now-requires-clause-whole g c =
    subst HasAllNodes (sym c.look.ensures.same)
    (all_held c.self.inside.registrar c.self.inside.callers c.self.inside.ids.items c.self.inside.premise c.self.invariant.2 c.self.inside.held c.self.invariant.0 (c.if-self-nodes.false ∙ (c.len-nodes.ensures ∙ c.self.inside.ids.ok.0)))

pub depart_now-requires-clause-can : goal.depart_now-requires-clause-can
depart_now-requires-clause-can g c =
    let whole = all_held c.self.inside.registrar c.self.inside.callers c.self.inside.ids.items c.self.inside.premise c.self.invariant.2 c.self.inside.held c.self.invariant.0 (c.if-self-nodes.false ∙ (c.len-nodes.ensures ∙ c.self.inside.ids.ok.0)) in
    let board = c.requires.board ∙ sym (ap (λ (counts : Counts). rows_among counts.taken) c.self.view_is) in
    subst (λ (a : Assembled). (members : Members) × AreMembers a members × CanDepart members (number_of c.args.departure)) (sym c.look.ensures.same)
    (can_now c.self.inside.registrar c.self.inside.callers c.self.inside.ids.items c.self.inside.premise c.self.invariant.2 c.look.ensures.shown whole c.len-nodes.result c.number.result
    (number_of c.args.departure) c.args.board.now (c.len-nodes.ensures ∙ c.self.inside.ids.ok.0) board c.number.ensures (c.can_depart_among.ensures.0 c.if-not-can_depart_among.false))

pub depart_now-requires-clause-may : goal.depart_now-requires-clause-may
depart_now-requires-clause-may g c = λ number is.
    let board = c.requires.board ∙ sym (ap (λ (counts : Counts). rows_among counts.taken) c.self.view_is) in
    let may = subst (λ (taken : List Sight). MayDepart c.args.departure taken) (sym (ap (λ (counts : Counts). counts.taken) c.self.view_is)) c.requires.may in
    subst (λ (a : Assembled). MayRetire a.taken number) (sym c.look.ensures.same)
    (retires_now c.args.departure c.len-nodes.result c.number.result number c.self.inside.registrar.taken c.args.board.now board (c.number.ensures ∙ ap number_of is) may is
    (c.can_depart_among.ensures.0 c.if-not-can_depart_among.false))

pub invariant_of-self : goal.invariant_of-self
invariant_of-self g c =
    let i = c.self.invariant in
    let counted = ap (λ (a : Assembled). length (nodes_among a.taken)) c.depart_now.ensures ∙ departed_count c.args.departure c.look.new.self.taken
    ∙ ap (λ (a : Assembled). length (nodes_among a.taken)) c.look.ensures.same in
    let register = ap (λ (a : Assembled). a.register) c.depart_now.ensures ∙ ap (λ (a : Assembled). a.register) c.look.ensures.same in
    (i.0 ∙ sym counted, i.1, subst (IsRegister c.self.inside.callers c.self.inside.ids.items c.self.inside.premise) (sym register) i.2)

pub returns-clause-variant : goal.returns-clause-variant
returns-clause-variant g c =
    let taken = ap (λ (counts : Counts). length (nodes_among counts.taken)) c.self.view_is in (
      λ yes. allowed c.args.departure c.self.inside.held c.len-nodes.result c.args.self.now.nodes c.number.result c.args.self.now.taken c.args.board.now (c.self.invariant.0 ∙ taken) c.if-self-nodes.false
          ((c.len-nodes.ensures ∙ c.self.inside.ids.ok.0) ∙ ap (λ (counts : Counts). counts.nodes) c.self.view_is) c.requires.board c.number.ensures (c.can_depart_among.ensures.0 c.if-not-can_depart_among.false),
      λ can. refl,
    )
