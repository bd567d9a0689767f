-- Texts of different numbers differ.
use Rattle.dam_book.proofs.Common.{IsPeriod, arith}
use Rattle.dam_book.proofs.FieldTexts.{number_of}
use Rattle.dam_book.proofs.fields.read_period.Goals as goal

pub returns : goal.returns
returns c = number_of IsPeriod (λ p h. omega arith) c.new.result _ _ (omega (arith, c.in_ok-number.ensures.0)) c.in_ok-number.ensures.1
    c.new.ensures
