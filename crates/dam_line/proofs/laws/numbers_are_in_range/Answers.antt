-- Each value that the parse took passes its option's parser.
use Rattle.dam_line.proofs.Ranges.{in_range}
use Rattle.dam_line.proofs.laws.numbers_are_in_range.Goals as goal

pub returns : goal.returns
returns c words found option none met plan is = in_range words found option none met plan is
