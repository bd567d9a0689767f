-- Conclusive answers give the result, from the laws of the crate below.
use Rattle.dam_search.proofs.Common.{max, ProblemState, IsProblem, IsReached, greatest_found}
use Rattle.dam_search.proofs.Collecting.{collected, some_found, reached_zero, reached_greater, reached_greatest, all_reached}
use Rattle.dam_search.proofs.laws.conclusive_answers_give_result.Goals as goal

zero_reached : (c : goal.After-choices_are_all_selections) (problem : ProblemState) → IsProblem problem → IsReached problem 0
zero_reached c problem is =
    let empty = c.empty_is_eligible.ensures problem is in
    reached_zero problem _ empty.0 empty.1 (c.eligible_welfare_is_not_negative.ensures problem _ empty.0 is empty.1)

pub returns-clause-result : goal.returns-clause-result
returns-clause-result c problem depth answers b are highest =
    collected problem depth answers b c.result_exists.ensures c.choices_are_all_selections.ensures.each c.ranking_is_total.ensures.transitive are.is_problem are.in_blocks
    are.answered are.reached highest

pub returns-clause-found : goal.returns-clause-found
returns-clause-found c problem depth answers are none =
    some_found problem depth answers c.result_exists.ensures c.choices_are_all_selections.ensures.each are.is_problem are.in_blocks are.answered are.reached none

pub returns-clause-conclusive : goal.returns-clause-conclusive
returns-clause-conclusive c problem depth answers is deep are reads =
    let reached = reached_greatest problem depth answers (zero_reached c problem is) are.sound in
    record {
      is_problem = is;
      in_blocks = deep;
      answered = are;
      reached = all_reached problem answers (greatest_found answers) reached reads;
    }

pub returns-clause-offered : goal.returns-clause-offered
returns-clause-offered c problem depth first answers is deep are reached_first reads =
    let found = reached_greatest problem depth answers (zero_reached c problem is) are.sound in
    let reached = reached_greater problem first (greatest_found answers) reached_first found in
    record {
      is_problem = is;
      in_blocks = deep;
      answered = are;
      reached = all_reached problem answers (max first (greatest_found answers)) reached reads;
    }
