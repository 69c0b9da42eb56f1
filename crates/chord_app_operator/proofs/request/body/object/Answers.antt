use Rattle.std.proofs.Common.{sym, ◌∙◌, ◌<◌, length, arith}
use Rattle.std.proofs.lemmas.Bool.{false≢true}
use Rattle.chord_app_operator.proofs.Objects.{read_object, no_object}
use Rattle.chord_app_operator.proofs.request.body.object.Goals as goal

pub returns-in-Ok : goal.returns-in-Ok
returns-in-Ok c =
    let some : 0 < length c.args.body.now = grind (arith, c.if-is_empty.false, c.is_empty.ensures) in
    c.only_object.ensures ∙ read_object c.args.body.now _ some c.in-Ok.ensures.ok.0 c.in-Ok.ensures.ok.1

pub returns-else-is_memory : goal.returns-else-is_memory
returns-else-is_memory c =
    let some : 0 < length c.args.body.now = grind (arith, c.if-is_empty.false, c.is_empty.ensures) in
    no_object c.args.body.now some (c.in-Err.ensures.err (λ m. false≢true (sym c.if-is_memory.false ∙ c.is_memory-is_memory.ensures.1 m)))
