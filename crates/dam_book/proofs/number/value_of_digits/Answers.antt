-- A number of fewer than nine digits has room for one more.
use Rattle.std.proofs.Common.{arith, rules}
use Rattle.dam_book.proofs.NumberTexts.{below_power}
use Rattle.dam_book.proofs.number.value_of_digits.Goals as goal

pub overflow_mul-number : goal.overflow_mul-number
overflow_mul-number c = omega (arith, below_power _ _ (omega arith) c.loop-digit.invariant.small)

pub overflow_add-number : goal.overflow_add-number
overflow_add-number c =
    let small = below_power _ _ (omega arith) c.loop-digit.invariant.small in
    let digit = c.is_ascii_digit.ensures.bound in
    search (rules, small, digit)
