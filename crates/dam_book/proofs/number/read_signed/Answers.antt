-- After a dash stands the text of a number above zero.
use Rattle.dam_book.proofs.Common.{arith, decimal_injective, rules, sym, ◌∙◌, ◌∷◌, ◌≡◌}
use Rattle.dam_book.proofs.NumberTexts.{below_zero}
use Rattle.dam_book.proofs.number.read_signed.Goals as goal

pub returns-in_err-number-2 : goal.returns-in_err-number-2
returns-in_err-number-2 c = rw c.from_residual-in_err-number-2.ensures
    (λ z short e.
    let dash : c.args.text.now ≡ 45 ∷ c.in-Some-eq45-default.digits.now = search rules in
    let n = below_zero _ _ z dash short e in
    c.in_err-number-2.ensures n.0 n.2 n.3)

pub returns-in-0 : goal.returns-in-0
returns-in-0 c = λ z short e.
    let dash : c.args.text.now ≡ 45 ∷ c.in-Some-eq45-default.digits.now = search rules in
    let n = below_zero _ _ z dash short e in
    let number = c.in_ok-number-2.ensures in
    let same = decimal_injective n.0 _ (omega (arith, n.2)) (omega (arith, number.0)) (sym n.3 ∙ number.1) in
    omega (arith, same, n.1, c.in-0.is)
