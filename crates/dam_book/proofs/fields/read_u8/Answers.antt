-- Texts of different numbers differ.
use Rattle.dam_book.proofs.Common.{arith, decimal_injective, sym, ◌∙◌, ◌≡◌}
use Rattle.dam_book.proofs.fields.read_u8.Goals as goal

pub returns-in_default : goal.returns-in_default
returns-in_default c = λ n small e.
    let number = c.in_ok-number.ensures in
    let same : n ≡ c.in_ok-number.number = decimal_injective n _ (omega arith) (omega (arith, number.0)) (sym e ∙ number.1) in
    c.in_default.ensures (omega (arith, same))
