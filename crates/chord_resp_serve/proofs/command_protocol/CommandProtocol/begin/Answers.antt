use Rattle.std.proofs.Common.{◌≡◌, List, ◌∷◌, drop, refl, sym, ap, subst, ◌∙◌}
use Rattle.chord_map.specs.declared.request.Request.{Request}
use Rattle.chord_resp.specs.Answers.{Joins}
use Rattle.chord_resp_serve.specs.declared.about.About.{About}
use Rattle.chord_resp_serve.specs.declared.standing.Standing.{Standing}
use Rattle.chord_resp_serve.specs.declared.tally.Tally.{Tally}
use Rattle.chord_resp_serve.specs.Transactions.{standing_behind}
use Rattle.chord_resp.specs.Table.{command_of}
use Rattle.chord_resp_serve.specs.Answering.{AnswersCommand, answer_of}
use Rattle.chord_resp_serve.specs.Words.{with_flow}
use Rattle.chord_resp_serve.proofs.Asks.{first_and_rest, first_asked, no_first, one_more}
use Rattle.chord_resp_serve.proofs.Outputs.{joins_extends}
use Rattle.chord_resp_serve.proofs.Waits.{asks_nothing, command_steps}
use Rattle.chord_resp_serve.proofs.command_protocol.CommandProtocol.begin.Goals as goal

pub returns-in_default-first-clause-next : goal.returns-in_default-first-clause-next
returns-in_default-first-clause-next g c before taken standing asker =
    let it = c.args.self.now in
    let old = c.due.inside.bytes.items in
    let new = c.put_answer-told.new.out.items in
    let told = c.put_answer-told.result in
    let about : About = record { number = it.server.number; info = c.deref.result } in
    let none = sym c.in-Ok.ensures ∙ sym c.as_slice.ensures ∙ no_first c.as_slice.result.now c.in_default-first.ensures.value in
    let joins = subst (λ (t : Tally). Joins told old new (answer_of about c.args.command t)) c.new-tally.ensures c.put_answer-told.ensures in
    let n = standing_behind before.standing (command_of taken.words) in
    let done : AnswersCommand g.A.Asker.answers about c.args.command n before.asker told old new it.standing it.asker =
    subst (λ (m : Standing). AnswersCommand g.A.Asker.answers about c.args.command m before.asker told old new it.standing it.asker) standing
    (rw asker (asks_nothing g.A.Asker.answers g.I.Informs.tells about c.args.command it.standing it.asker told old new none joins)) in
    let flows : c.with_flow.result ≡ with_flow told _ = c.with_flow.ensures ∙ ap (with_flow told) c.flow_of-flow.ensures in
    rw (c.step_of.ensures.exact, sym c.due.view_is) (command_steps g.A.Asker.answers g.I.Informs.tells before it it c.args.command c.args.info.items about told c.with_flow.result old new
    taken (ap (λ h. h.number) taken.taken.server, c.deref.ensures.value) refl refl c.requires done flows)

pub returns-in_default-first-clause-grows : goal.returns-in_default-first-clause-grows
returns-in_default-first-clause-grows g c =
    rw (sym c.due.view_is) (joins_extends c.put_answer-told.result c.due.inside.bytes.items c.put_answer-told.new.out.items _ c.put_answer-told.ensures)

pub returns-clause-next : goal.returns-clause-next
returns-clause-next g c before taken standing asker =
    let it = c.args.self.now in
    let parts = first_and_rest c.as_slice.result.now c.in-Some.request.now c.in-Some.ensures.value in
    let one = one_more c.saturating_add-self.result it.standing c.saturating_add-self.ensures in
    let all = first_asked g.A.Asker.answers c.in-Ok.requests c.in-Some.request.now c.ask-answer.result (standing_behind before.standing (command_of taken.words)) it.standing (record it.standing { asked = c.saturating_add-self.result }) before.asker it.asker c.ask-answer.new.self c.new-tally.result
    (sym standing) asker c.new-tally.ensures (subst (λ (xs : List Request). xs ≡ c.in-Some.request.now ∷ drop 1 xs) c.as_slice.ensures parts) c.ask-answer.ensures.answer one in
    c.settle.ensures.next before (record {
      taken = record { words = taken.words; taken = record { next = taken.taken.next; server = taken.taken.server }; command_is = taken.command_is; informed = taken.informed };
      asked = all;
    })
