-- A place more.
use Rattle.dam_bound.proofs.BuildingClasses.{alike_found, apart_found, none_found}
use Rattle.std.proofs.Common.{rules}
use Rattle.dam_bound.proofs.classes.first_of_class.Goals as goal

pub returns-then-are_alike-clause-value : goal.returns-then-are_alike-clause-value
returns-then-are_alike-clause-value c = alike_found c.args.blocks.now c.args.at c.loop-other.other (search rules) (search rules) c.loop-other.invariant

pub loop-other-preserved : goal.loop-other-preserved
loop-other-preserved c = apart_found c.args.blocks.now c.args.at c.loop-other.other (search rules) (search rules) c.loop-other.invariant

pub returns-clause-value : goal.returns-clause-value
returns-clause-value c = none_found c.args.blocks.now c.args.at c.loop-other.other (search rules) (search rules) c.loop-other.invariant
