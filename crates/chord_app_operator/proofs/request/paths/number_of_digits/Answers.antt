use Rattle.std.proofs.Common.{◌+◌, ◌-◌, ◌*◌, take, get_or, arith, sym, ◌∙◌, ap}
use Rattle.std.specs.Str.Parse.{digits_value}
use Rattle.std.proofs.lemmas.Int.Digits.{digits_value_more, digits_more}
use Rattle.chord_app_operator.proofs.Digits.{short_number, digit_is, ascii_more}
use Rattle.chord_app_operator.proofs.request.paths.number_of_digits.Goals as goal

pub overflow_mul-number : goal.overflow_mul-number
overflow_mul-number c =
    let small = short_number c.args.text.now c.loop-digit.digit-index (omega (arith, c.loop-digit-test.true, c.if-text-gt19.false)) c.loop-digit.invariant.digits in
    omega (arith, small, c.loop-digit.invariant.value)

pub overflow_add-number : goal.overflow_add-number
overflow_add-number c =
    let small = short_number c.args.text.now c.loop-digit.digit-index (omega (arith, c.loop-digit-test.true, c.if-text-gt19.false)) c.loop-digit.invariant.digits in
    let digit = c.if-not-is_ascii_digit.ensures in
    omega (arith, small, c.loop-digit.invariant.value, digit.cases.0, digit.cases.1)

pub loop-digit-preserved : goal.loop-digit-preserved
loop-digit-preserved c =
    let digit = c.if-not-is_ascii_digit.ensures in
    let text = c.args.text.now in
    let place = c.loop-digit.digit-index in
    let within = c.loop-digit-test.true in
    let is = digit_is (get_or text place 0) digit.cases.0 digit.cases.1 in
    record {
      digits = digits_more 10 text place within c.loop-digit.invariant.digits digit.bound;
      value = ap (λ n. n * 10 + (get_or text place 0 - 48)) c.loop-digit.invariant.value ∙ ap (λ n. digits_value 10 (take place text) * 10 + n) (sym is) ∙ sym (digits_value_more 10 text place within);
      ascii = ascii_more text place within c.loop-digit.invariant.ascii (sym digit.value);
    }
