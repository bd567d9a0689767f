-- The volume of an accepted block, and none of a rejected one, is an execution of the block as a step.
use Rattle.dam_bound.proofs.Common.{◌∙◌, ap, sym, welfare_from}
use Rattle.dam_bound.proofs.Covering.{none_of_none, completed_from}
use Rattle.dam_bound.proofs.laws.relaxed_welfare_bounds_completions.Goals as goal

pub returns-clause-most : goal.returns-clause-most
returns-clause-most c problem prefix sel w is e =
    completed_from (record {
      joined = c.executions_join.ensures.joined;
      parted = c.executions_join.ensures.parted;
      volume = c.executions_join.ensures.volume;
      welfare = c.executions_join.ensures.welfare;
      reached = c.best_has_greatest_welfare.ensures.reached;
      bound = c.best_has_greatest_welfare.ensures.bound;
      some = c.best_has_greatest_welfare.ensures.some;
      small = c.executions_are_small.ensures;
      sums = record { parted = c.sums_split_at_fronts.ensures.parted; padded = c.sums_split_at_fronts.ensures.padded };
    })
    1 problem.blocks prefix is.rest problem.hours w (ap (λ xs. welfare_from problem.blocks xs 1 problem.hours) (sym is.agrees) ∙ e)

pub returns-clause-none : goal.returns-clause-none
returns-clause-none c problem prefix sel is = none_of_none _ _ (λ w e. returns-clause-most c problem prefix sel w is e)
