-- The text of a number has one to nine digits, and no zero before others.
use Rattle.std.proofs.Common.{rules}
use Rattle.dam_book.proofs.NumberTexts.{no_text_too_long, no_empty_text, no_leading_zero, number_read}
use Rattle.dam_book.proofs.number.read_number.Goals as goal

pub returns-then-is_empty : goal.returns-then-is_empty
returns-then-is_empty c = λ n small e. no_empty_text _ n small (search rules) e

pub returns-then-text-gt-MOST_DIGITS : goal.returns-then-text-gt-MOST_DIGITS
returns-then-text-gt-MOST_DIGITS c = λ n small e. no_text_too_long _ n small c.if-text-gt-MOST_DIGITS.true e

pub returns-then-has_leading_zero : goal.returns-then-has_leading_zero
returns-then-has_leading_zero c = λ n small e.
    no_leading_zero _ n small c.if-has_leading_zero.ensures.0 c.if-has_leading_zero.ensures.1 e

pub returns : goal.returns
returns c = number_read _ _ (search rules) (search rules) c.if-has_leading_zero.ensures c.value_of_digits.ensures
