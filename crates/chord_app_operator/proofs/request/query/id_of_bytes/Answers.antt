use Rattle.std.proofs.Common.{sym}
use Rattle.chord_app_operator.proofs.Digits.{not_utf8_no_id}
use Rattle.chord_app_operator.proofs.request.query.id_of_bytes.Goals as goal

pub returns-in-Err : goal.returns-in-Err
returns-in-Err c = sym (not_utf8_no_id c.args.text.now c.in-Err.ensures.cases.0)
