use Rattle.std.proofs.Common.{◌≡◌, length, sym, ap, subst, ◌∙◌}
use Rattle.std.specs.Str.Parse.{AllDigits}
use Rattle.chord_app_plan.proofs.Digits.{digits_fail_not, same_text}
use Rattle.chord_app_plan.proofs.node.PlanNode.read.Goals as goal

pub returns-in_default-clause-accepts : goal.returns-in_default-clause-accepts
returns-in_default-clause-accepts c = λ node is.
    let text = c.in_ok-text.field-0.now in
    let same : is.digits ≡ text = same_text is.digits text (sym is.id ∙ c.in_ok-text.ensures.value) in
    absurd (digits_fail_not text c.in_default.field-0 (sym (ap length same) ∙ is.count) (subst (AllDigits 16) same is.all) c.in_default.ensures.bad_length c.in_default.ensures.bad_digit)
