-- Texts of different numbers differ, and a day's number of periods is small.
use Rattle.dam_book.proofs.Common.{arith, is_day, true, ℕ, ◌≡◌}
use Rattle.dam_book.proofs.FieldTexts.{number_of}
use Rattle.dam_book.proofs.fields.read_day_length.Goals as goal

pub returns : goal.returns
returns c = number_of (λ (n : ℕ). is_day n ≡ true) (λ n day. omega (arith, c.days_are_short.ensures.short n day)) c.new.result _ _
    (omega (arith, c.in_ok-periods.ensures.0)) c.in_ok-periods.ensures.1 c.new.ensures
