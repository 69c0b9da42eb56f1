use Rattle.std.proofs.Common.{◌≡◌, true, take}
use Rattle.std.specs.Str.{all_ascii_digits}
use Rattle.std.specs.Str.Parse.{AllDigits, digits_value}
use Rattle.chord_app_operator.proofs.request.paths.number_of_digits.Given as goal

abbrev pub invariant-loop-digit : goal.invariant-loop-digit
invariant-loop-digit l = record {
  digits : AllDigits 10 (take l.digit-index l.text);
  value : l.number ≡ digits_value 10 (take l.digit-index l.text);
  ascii : all_ascii_digits (take l.digit-index l.text) ≡ true;
}
