-- The answers about the pieces of a search, and which of them settle its result.
use Rattle.std.specs.Prelude.{◌≡◌, ℕ, ◌^◌, ◌<◌, ◌≤◌, max, ℤ, pos, ◌≤ℤ◌, Bool, true, Some, List, [], ◌∷◌, length, All, Contains}
use Rattle.dam_blocks.specs.declared.selection.Solution.{Solution}
use Rattle.dam_blocks.specs.Problem.{ProblemState, IsProblem}
use Rattle.dam_blocks.specs.Selection.{choice}
use Rattle.dam_blocks.specs.Eligible.{IsEligible}
use Rattle.dam_search.specs.declared.answer.PieceAnswer.{PieceAnswer}
use Rattle.dam_search.specs.Piece.{Rises, welfare_found, IsSound}

-- a sound answer about its piece of a cutting of this depth
abbrev pub IsSoundAnswer : ProblemState → ℕ → PieceAnswer → Type 0
IsSoundAnswer problem depth answer =
    IsSound problem (choice depth answer.piece) answer.best answer.incumbent_read answer.done

-- sound answers, all of them done, and one about each piece of a cutting of this depth
pub record AreAnswered (problem : ProblemState) (depth : ℕ) (answers : List PieceAnswer)
    : Type 0 where
  pub sound : All (λ (answer : PieceAnswer). IsSoundAnswer problem depth answer) answers
  pub done : All (λ (answer : PieceAnswer). answer.done ≡ true) answers
  pub each : (piece : ℕ) → piece < 2 ^ depth
      → (answer : PieceAnswer) × Contains answers answer × (answer.piece ≡ piece)

-- some eligible selection has at least this welfare
pub record IsReached (problem : ProblemState) (value : ℕ) : Type 0 where
  pub selection : List Bool
  pub welfare : ℤ
  pub eligible : IsEligible problem selection welfare
  pub reaches : pos value ≤ℤ welfare

-- answers that settle which selection is the result: about every piece of the problem's cutting,
-- sound and done, and none of them read more than some eligible selection has
pub record AreConclusive (problem : ProblemState) (depth : ℕ) (answers : List PieceAnswer)
    : Type 0 where
  pub is_problem : IsProblem problem
  pub in_blocks : depth ≤ length problem.blocks
  pub answered : AreAnswered problem depth answers
  pub reached : All (λ (answer : PieceAnswer). IsReached problem answer.incumbent_read) answers

-- the greatest welfare that the answers found, 0 if they found none
abbrev pub greatest_found : List PieceAnswer → ℕ
greatest_found [] = 0
greatest_found (answer ∷ answers) = max (welfare_found answer.best) (greatest_found answers)

-- one of the selections that the answers found, and the others rank at or below it
pub record IsHighest (answers : List PieceAnswer) (best : Solution) : Type 0 where
  pub among : (answer : PieceAnswer) × Contains answers answer × (answer.best ≡ Some best)
  pub others : All (λ (answer : PieceAnswer). Rises answer.best (Some best)) answers
