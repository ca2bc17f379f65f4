use Rattle.std.proofs.Common.{◌≡◌, ◌<◌, ◌^◌, take, true}
use Rattle.std.specs.Char.{is_digit}
use Rattle.std.specs.List.{list_all}
use Rattle.std.specs.Str.Parse.{digits_value}
use Rattle.text_values.proofs.numbers.read_digits.Given as goal

abbrev pub invariant-digits : goal.invariant-digits
invariant-digits l = record {
  spelled : l.number ≡ digits_value 16 (take l.digit-index l.digits);
  digits : list_all (λ c. is_digit c 16) (take l.digit-index l.digits) ≡ true;
  small : l.number < 16 ^ l.digit-index;
}
