use Rattle.chord_app_operator.proofs.Digits.{hex_is}
use Rattle.chord_app_operator.proofs.request.query.id_of_digits.Goals as goal

pub returns : goal.returns
returns c = rw c.ok.ensures.value (hex_is c.args.text.now c.of_hex.result c.of_hex.ensures.value c.of_hex.ensures.digits c.of_hex.ensures.bad_length c.of_hex.ensures.bad_digit)
