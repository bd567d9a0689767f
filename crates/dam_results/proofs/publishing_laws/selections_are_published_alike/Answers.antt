-- The law of one period says that its price and its best execution are the only ones.
use Rattle.dam_results.proofs.PublishedOnce.{published-one}
use Rattle.dam_results.proofs.publishing_laws.selections_are_published_alike.Goals as goal

pub returns : goal.returns
returns c = published-one (record { ends = c.best_execution_is_unique.ensures.ends; best = c.best_execution_is_unique.ensures.best })
