-- The one answer is a worker's, and it is about the one piece.
use Rattle.dam_search.proofs.Common.{◌≤◌, max, arith, PieceAnswer, welfare_found, IsWorked}
use Rattle.dam_search.proofs.OneAnswer.{all_one, one_alone, worked_is}
use Rattle.dam_search.proofs.search_without_threads.search_alone_with_oracle.Goals as goal

pub result_of_answers-requires-clause-worked : goal.result_of_answers-requires-clause-worked
result_of_answers-requires-clause-worked g c =
    let problem = c.args.problem.now in let a = c.walk_piece-answer.result in let first = c.in_ok-context.context.first_welfare in
    let walk = c.walk_piece-answer.ensures in let same = c.in_ok-context.ensures.same in
    let read : a.incumbent_read ≤ max first (welfare_found a.best) =
    (let greatest_read = walk.greatest_read in let greatest_offer = walk.offered in let known = c.walk_piece-answer.new.incumbent.known in let offered =
    c.offer.ensures.greatest_offer in let none =
    c.new-incumbent.ensures.greatest_offer in omega (arith, greatest_read, greatest_offer, known, offered, none)) in
    all_one (λ (x : PieceAnswer). IsWorked problem 0 c.args.node_limit x) a
    (worked_is problem first c.args.node_limit a (rw (same.0, same.1, same.2) at walk.walked) c.in_ok-context.ensures.reached read)

pub returns : goal.returns
returns g c = c.result_of_answers.ensures.searched (one_alone c.walk_piece-answer.result c.walk_piece-answer.ensures.piece)
