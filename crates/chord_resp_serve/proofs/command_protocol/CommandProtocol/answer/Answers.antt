use Rattle.std.proofs.Common.{◌≡◌, Ok, ap, refl, subst, sym, ◌∙◌}
use Rattle.chord_resp.specs.Table.{command_of}
use Rattle.chord_resp_serve.proofs.Waits.{refused_steps}
use Rattle.chord_resp_serve.specs.News.{NewsIs, subject_of}
use Rattle.chord_resp_serve.specs.Transactions.{allowed, standing_behind}
use Rattle.chord_resp_serve.specs.Waiting.{TakesCommand}
use Rattle.chord_resp_serve.specs.declared.standing.Standing.{Standing}
use Rattle.chord_resp_serve.proofs.command_protocol.CommandProtocol.answer.Goals as goal

pub returns-in-Err-Refused-clause-next : goal.returns-in-Err-Refused-clause-next
returns-in-Err-Refused-clause-next g c before taken standing asker =
    let refused = rw (c.in-Err-Refused.field-0-is, sym standing) at c.in-Err-Refused.ensures.exact in
    let gone = rw c.in-Err-Refused.field-0-is at c.in-Err-Refused.ensures.behind in
    let behind = gone ∙ ap (λ (n : Standing). standing_behind n (command_of c.args.words)) (sym standing) in
    rw c.step_of.ensures.exact (refused_steps g.A.Asker.answers g.I.Informs.tells before _ c.args.words c.in-Ok.info.items _ c.tell_refusal-told.result c.with_flow.result
    c.args.due.now c.tell_refusal-told.new.due (record { next = taken.next; server = taken.server }) c.requires behind asker (rw c.of_words-subject.ensures at c.in-Ok.ensures) refused c.tell_refusal-told.ensures c.with_flow.ensures)

pub returns-in-Ok-called_for-clause-next : goal.returns-in-Ok-called_for-clause-next
returns-in-Ok-called_for-clause-next g c before taken standing asker =
    let is = rw (sym standing) at c.in-Ok-called_for.ensures.exact in
    let behind = c.in-Ok-called_for.ensures.behind ∙ ap (λ (n : Standing). standing_behind n (command_of c.args.words)) (sym standing) in
    c.begin.ensures.next before
    (record { words = c.args.words; taken = record { next = taken.next; server = taken.server }; command_is = is; informed = subst (λ h. NewsIs (g.I.Informs.tells h.source.now) (subject_of c.args.words) c.in-Ok.info.items) taken.server (rw c.of_words-subject.ensures at c.in-Ok.ensures) })
    behind asker
