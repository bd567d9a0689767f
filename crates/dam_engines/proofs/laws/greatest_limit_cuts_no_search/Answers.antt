-- A book has few blocks.
use Rattle.dam_engines.proofs.Limits.{nodes_of_problem, not_cut_short}
use Rattle.dam_engines.proofs.laws.greatest_limit_cuts_no_search.Goals as goal

pub returns-clause-covers : goal.returns-clause-covers
returns-clause-covers c = nodes_of_problem

pub returns-clause-whole : goal.returns-clause-whole
returns-clause-whole c = not_cut_short
