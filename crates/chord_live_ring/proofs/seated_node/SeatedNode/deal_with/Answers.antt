use Rattle.std.proofs.Common.{None, Some, Ok, ap, ◌∙◌, sym, subst}
use Rattle.chord_journal.specs.Journal.{JournalIs}
use Rattle.chord_live_ring.proofs.Coming.{acted, shown_by}
use Rattle.chord_live_ring.proofs.Additions.{silent_none}
use Rattle.chord_live_steps.specs.Dealt.{DealIs, message_in}
use Rattle.chord_model.specs.Node.{Node}
use Rattle.chord_table.proofs.Becoming.{taking_keeps}
use Rattle.chord_table.specs.Scenes.{place_of}
use Rattle.chord_table.specs.Views.{NodeSight}
use Rattle.chord_live_ring.proofs.seated_node.SeatedNode.deal_with.Goals.{in-Ok-Some, in-Ok-None, in-Err}
use Rattle.chord_live_ring.proofs.seated_node.SeatedNode.deal_with.Goals as goal

pub send-envelope-requires : goal.send-envelope-requires
send-envelope-requires g c =
    let node = λ (s : NodeSight). s.node in
    let seat = c.receive-message.ensures.seat in
    let mine = (shown_by c.self.inside.node c.self.inside.crashed c.self.inside.seat c.in-Some.seat c.in-Some.is c.self.invariant).0 ∙ sym (ap node seat) in
    record {
      event = acted c.in-Some.seat c.receive-message.new.self c.args.keyed.envelope c.receive-message.result c.self.inside.node c.deal_by_id.new.node c.in-Ok-Some.field-0
          (Some c.in-Ok-Some.sent) seat c.receive-message.ensures.message mine (ap message_in c.in-Ok-Some.field-0-is)
          c.in-Ok-Some.ensures.step;
    }

pub local-requires : goal.local-requires
local-requires g c =
    let node = λ (s : NodeSight). s.node in
    let seat = c.receive-message.ensures.seat in
    let mine = (shown_by c.self.inside.node c.self.inside.crashed c.self.inside.seat c.in-Some.seat c.in-Some.is c.self.invariant).0 ∙ sym (ap node seat) in
    let step = c.in-Ok-None.ensures.step in
    let crashed = c.receive-message.new.self.crashed in
    record {
      event = (
        None,
        acted c.in-Some.seat c.receive-message.new.self c.args.keyed.envelope c.receive-message.result c.self.inside.node c.deal_by_id.new.node c.in-Ok-None.field-0 None seat
            c.receive-message.ensures.message mine (ap message_in c.in-Ok-None.field-0-is) step,
      );
      place = taking_keeps crashed c.self.inside.node c.deal_by_id.new.node c.receive-message.result (message_in c.in-Ok-None.field-0) step.0 step.1 ∙ ap (λ (n : Node). place_of crashed n) mine;
    }

pub returns-clause-unchanged : goal.returns-clause-unchanged
returns-clause-unchanged g c =
    let message = c.receive-message.result in
    let old = c.self.inside.node in
    let new = c.deal_by_id.new.node in
    let journal = c.args.journal.now in
    let journal' = c.deal_by_id.new.journal in
    elim c.match-deal_by_id.branch [
      | in-Ok-Some w ↦ rw w.result-is (tt)
      | in-Ok-None w ↦
          let silent = subst (λ sent. DealIs message old (Ok sent) new) w.in-Ok-None.field-0-is w.in-Ok-None.ensures.answer in
          rw w.result-is (subst (λ did. JournalIs journal did journal') (silent_none message old new silent) w.in-Ok-None.ensures.journal)
      | in-Err w ↦ rw w.result-is (w.in-Err.ensures.journal)
    ]
