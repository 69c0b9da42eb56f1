use Rattle.std.proofs.Common.{◌∙◌, sym}
use Rattle.chord_app_text.proofs.Pairs.{count_is}
use Rattle.chord_app_text.proofs.digits.Digits.count.Goals as goal

pub returns-else-eq : goal.returns-else-eq
returns-else-eq c =
    (count_is c.self.inside.word.now c.args.self.now (sym c.eq.ensures ∙ c.if-eq.false) c.self.invariant (sym c.self.view_is)).0
