use Rattle.std.proofs.Common.{◌∙◌, arith}
use Rattle.chord_world.specs.View.{state_of}
use Rattle.chord_world.specs.Members.{is_dead}
use Rattle.chord_world.specs.State.{WorldState}
use Rattle.chord_world.proofs.Acting.{none_past, links_here}
use Rattle.chord_world.proofs.Posting.{got, slice_get_there}
use Rattle.chord_world.proofs.RingLemmas.{fate_view}
use Rattle.chord_world.proofs.members.WorldMemberReader.member.Goals.{then-number-len-via-then-number-len, then-number-len-via-else-number-len+then-is_dead}
use Rattle.chord_world.proofs.members.WorldMemberReader.member.Goals as goal

pub returns-then-number-len : goal.returns-then-number-len
returns-then-number-len g c =
    let view : WorldState = state_of c.self.inside in
    elim c.then-number-len.branch [
      | then-number-len-via-then-number-len w ↦ none_past c.args.number view c.args.self.now c.self.view_is c.self.invariant (omega arith)
      | then-number-len-via-else-number-len+then-is_dead w ↦
          let there = slice_get_there c.self.inside.nodes.items c.args.number (omega arith) in
          links_here c.args.number there.0 _ view c.args.self.now c.self.view_is c.self.invariant there.1
          (fate_view is_dead c.args.number view _ _ w.deref.ensures.value w.is_dead.ensures w.if-is_dead.true)
    ]

pub returns : goal.returns
returns g c =
    let view : WorldState = state_of c.self.inside in
    c.links_of_member.ensures
    ∙ links_here c.args.number c.index.result.now _ view c.args.self.now c.self.view_is c.self.invariant (got c.self.inside.nodes.items c.args.number c.index.result.now (omega arith) c.index.ensures)
    (fate_view is_dead c.args.number view _ _ c.deref.ensures.value c.is_dead.ensures c.if-is_dead.false)
