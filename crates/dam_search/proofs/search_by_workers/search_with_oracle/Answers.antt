-- The answers of the workers are the ones that are collected, and they are one about each piece.
use Rattle.dam_search.proofs.Common.{◌^◌, List, sym, subst, All, PieceAnswer, IsWorked, AreOneEach}
use Rattle.dam_search.specs.Search.{IsSearched}
use Rattle.dam_search.proofs.Seats.{all_worked, one_each}
use Rattle.dam_search.proofs.search_by_workers.search_with_oracle.Goals as goal

pub result_of_answers-requires-clause-worked : goal.result_of_answers-requires-clause-worked
result_of_answers-requires-clause-worked g c =
    let problem = c.args.problem.now in let depth = c.depth-depth.result in let node_limit = c.node_limit-node_limit.result in
    let same = c.in_ok-context.ensures.same in
    subst (λ (xs : List PieceAnswer). All (λ (a : PieceAnswer). IsWorked problem depth node_limit a) xs)
    (sym c.deref.ensures.value)
    (all_worked problem depth node_limit c.in_ok-context.context.first_welfare c.in_ok-walked.walked.answers.items c.in_ok-context.ensures.reached
    (rw (same.0, same.1, same.2) at c.in_ok-walked.ensures))

pub returns : goal.returns
returns g c =
    let problem = c.args.problem.now in let depth = c.depth-depth.result in let node_limit = c.node_limit-node_limit.result in
    let same = c.in_ok-context.ensures.same in let answers = c.in_ok-walked.walked.answers.items in
    let one = one_each problem depth node_limit c.in_ok-context.context.first_welfare answers (rw (same.0, same.1, same.2) at c.in_ok-walked.ensures) in
    let searched : IsSearched problem depth node_limit c.result_of_answers.result =
    c.result_of_answers.ensures.searched (subst (λ (xs : List PieceAnswer). AreOneEach xs (2 ^ depth)) (sym c.deref.ensures.value) one) in
    rw (c.depth-depth.ensures.value, c.block_count.ensures.value, c.node_limit-node_limit.ensures.value) at searched
