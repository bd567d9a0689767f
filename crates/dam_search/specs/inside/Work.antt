-- The work of one worker.
use Rattle.std.specs.Prelude.{◌≡◌, ℕ, ◌-◌, ◌^◌, ◌<◌, ◌≤◌, max, true, List, [], map, length, All}
use Rattle.dam_blocks.specs.Problem.{ProblemState}
use Rattle.dam_blocks.specs.Selection.{choice}
use Rattle.dam_search.specs.declared.answer.PieceAnswer.{PieceAnswer}
use Rattle.dam_search.specs.declared.view.View.{View}
use Rattle.dam_search.specs.Piece.{node_count, IsSpent}
use Rattle.dam_search.specs.Answer.{IsSoundAnswer, greatest_found}

-- a sound answer about a piece of the cutting. If a piece can have more nodes than the limit, the answer kept to it.
-- Otherwise it is done
pub record IsWalkedPiece (problem : ProblemState) (depth node_limit : ℕ) (answer : PieceAnswer) : Type 0 where
  pub in_cutting : answer.piece < 2 ^ depth
  pub sound : IsSoundAnswer problem depth answer
  pub spent : node_limit < node_count (length problem.blocks - depth)
      → IsSpent problem (choice depth answer.piece) (length problem.blocks - depth) 0 node_limit
      answer.visited answer.incumbent_read answer.done
  pub done : node_count (length problem.blocks - depth) ≤ node_limit → answer.done ≡ true

-- a seat for this number of pieces, which drew and offered nothing
pub record IsFresh (pieces : ℕ) (view : View) : Type 0 where
  pub pieces_are : view.pieces ≡ pieces
  pub undrawn : view.drawn ≡ []
  pub going : view.draws_past_the_end ≡ 0
  pub unoffered : view.greatest_offer ≡ 0

-- the answers about the pieces that a seat drew, in the order of its draws; its greatest offer is
-- the greater of `besides` and the greatest welfare that they found, and the greatest value that it
-- read is at least the value read by each of them
pub record AreAnswersOf (problem : ProblemState) (depth node_limit besides : ℕ) (view : View)
    (answers : List PieceAnswer) : Type 0 where
  pub pieces : map (λ (answer : PieceAnswer). answer.piece) answers ≡ view.drawn
  pub walked : All (λ (answer : PieceAnswer). IsWalkedPiece problem depth node_limit answer) answers
  pub greatest_read : All (λ (answer : PieceAnswer). answer.incumbent_read ≤ view.greatest_read) answers
  pub offered : view.greatest_offer ≡ max besides (greatest_found answers)
