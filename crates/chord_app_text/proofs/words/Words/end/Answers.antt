use Rattle.std.proofs.Common.{arith}
use Rattle.chord_app_text.proofs.Spaces.{some_left}
use Rattle.chord_app_text.proofs.words.Words.end.Goals as goal

pub returns-in-Some : goal.returns-in-Some
returns-in-Some c =
    let some = some_left c.args.self.now.rest c.in-Some.field-0 c.in-Some.is in
    rw some (grind (arith, c.into.ensures))
