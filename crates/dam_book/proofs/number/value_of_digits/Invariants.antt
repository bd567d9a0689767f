-- The digits that are left, after the number so far, say the whole number; and it has as many digits as were read.
use Rattle.dam_book.proofs.Common.{all_ascii_digits, drop, value_from, ◌<◌, ◌^◌, ◌≡◌}
use Rattle.dam_book.proofs.number.value_of_digits.Given as goal

abbrev pub invariant-loop-digit : goal.invariant-loop-digit
invariant-loop-digit l = record {
  digits : all_ascii_digits (drop l.digit-index l.digits) ≡ all_ascii_digits l.digits;
  value : value_from l.number (drop l.digit-index l.digits) ≡ value_from 0 l.digits;
  small : l.number < 10 ^ l.digit-index;
}
