use Rattle.chord_app_ask.proofs.Asking.{no_text, text_read}
use Rattle.chord_app_ask.proofs.ask.line.read_line.Goals as goal

pub returns-in-Ok-clause-request : goal.returns-in-Ok-clause-request
returns-in-Ok-clause-request c =
    text_read c.args.line.now c.in-Ok.text.now _ c.request.result _ c.in-Ok.ensures.cases.1
    c.in-Ok.ensures.cases.0 c.of_line.ensures.request c.of_line.ensures.memory
    c.request.ensures.request

pub returns-in-Err-clause-request : goal.returns-in-Err-clause-request
returns-in-Err-clause-request c = no_text c.args.line.now c.in-Err.ensures.cases.0
