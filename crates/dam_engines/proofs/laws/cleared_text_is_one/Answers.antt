-- The law of the published results of a closed book.
use Rattle.dam_engines.proofs.Results.{cleared-one}
use Rattle.dam_engines.proofs.laws.cleared_text_is_one.Goals as goal

pub returns : goal.returns
returns c = cleared-one c.books_are_cleared_alike.ensures
