use Rattle.std.proofs.Common.{◌≡◌, refl, sym, ap, ◌∙◌}
use Rattle.chord_resp_serve.specs.declared.about.About.{About}
use Rattle.chord_resp_serve.specs.declared.hearing.Course.TheVariants.{Ended, Waits}
use Rattle.chord_resp.specs.Table.{command_of}
use Rattle.chord_resp_serve.specs.Asking.{outcome_of}
use Rattle.chord_resp_serve.specs.Transactions.{standing_behind}
use Rattle.chord_resp_serve.specs.Words.{with_flow}
use Rattle.chord_resp_serve.proofs.Asks.{heard_on}
use Rattle.chord_resp_serve.proofs.Outputs.{tells_extends}
use Rattle.chord_resp_serve.proofs.Waits.{asks_all, command_steps}
use Rattle.chord_resp_serve.proofs.command_protocol.CommandProtocol.settle.Goals as goal

pub returns-in-Waits-clause-next : goal.returns-in-Waits-clause-next
returns-in-Waits-clause-next g c before asked =
    let new = c.hear_on.new in
    let waiting = c.args.waiting in
    let it = c.args.self.now in
    let p = asked.taken in
    let all = heard_on g.A.Asker.answers Waits (standing_behind before.standing (command_of asked.taken.words)) before.asker waiting.requests c.as_slice.result.now c.args.answer waiting.tally new.tally it.standing new.standing it.asker new.asker c.as_slice.ensures asked.asked c.in-Waits.ensures.asked in (
      (
        _,
        refl,
        record {
          taken = record { words = p.words; taken = record { next = p.taken.next; server = p.taken.server }; command_is = p.command_is; informed = p.informed };
          asked = all;
        },
      ),
      refl,
    )

pub returns-in-Ended-clause-next : goal.returns-in-Ended-clause-next
returns-in-Ended-clause-next g c before asked =
    let new = c.hear_on.new in
    let waiting = c.args.waiting in
    let it = c.args.self.now in
    let outcome = outcome_of c.in-Ended.outcome new.tally in
    let about : About = record { number = it.server.number; info = c.deref.result } in
    let all = heard_on g.A.Asker.answers (Ended c.in-Ended.outcome) (standing_behind before.standing (command_of asked.taken.words)) before.asker waiting.requests c.as_slice.result.now c.args.answer waiting.tally new.tally it.standing new.standing it.asker new.asker c.as_slice.ensures asked.asked c.in-Ended.ensures.asked in
    let told = asks_all g.A.Asker.answers g.I.Informs.tells about before it waiting c.args.answer outcome c.tell-told.result c.due.inside.bytes.items c.tell-told.new.out.items new.standing new.asker asked all c.tell-told.ensures in
    let flows : c.with_flow.result ≡ with_flow c.tell-told.result _ = c.with_flow.ensures ∙ ap (with_flow c.tell-told.result) waiting.goes in
    rw (c.step_of.ensures.exact, sym c.due.view_is) (command_steps g.A.Asker.answers g.I.Informs.tells before it _ waiting.command waiting.info.items about c.tell-told.result c.with_flow.result c.due.inside.bytes.items c.tell-told.new.out.items
    asked.taken (ap (λ h. h.number) asked.taken.taken.server, c.deref.ensures.value) refl refl c.requires told flows)

pub returns-in-Ended-clause-grows : goal.returns-in-Ended-clause-grows
returns-in-Ended-clause-grows g c =
    let about : About = record { number = c.args.self.now.server.number; info = c.deref.result } in
    rw (sym c.due.view_is) (tells_extends about c.args.waiting.command (outcome_of c.in-Ended.outcome c.hear_on.new.tally) c.tell-told.result c.due.inside.bytes.items c.tell-told.new.out.items c.tell-told.ensures)
