use Rattle.std.proofs.Common.{Ok, ap, sym, ◌∙◌}
use Rattle.std.specs.Prelude.{option_copied}
use Rattle.chord_app_ask.proofs.Asking.{request_ok}
use Rattle.chord_app_ask.proofs.ask.line.RequestWords.request.Goals as goal

pub returns-clause-limits : goal.returns-clause-limits
returns-clause-limits c =
    let words = c.args.self in
    request_ok words.operation.now (option_copied words.key) (option_copied words.value)
    words.has_more c.in_ok-request.field-0
    (sym c.in_ok-asked.ensures.request ∙ ap Ok (sym c.in_ok-request.ensures.request))
