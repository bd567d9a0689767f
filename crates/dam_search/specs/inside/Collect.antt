-- The answers of the workers, the selection found on the way through them, and the result of it
-- all.
use Rattle.std.specs.Prelude.{◌≡◌, ◌≢◌, ℕ, ◌-◌, ◌^◌, ◌<◌, ◌≤◌, ◌==◌, Bool, true, false, not, ◌&&◌, nat_lt, Result, Ok, Err}
use Rattle.std.specs.Prelude.{Option, Some, None, List, length, slice_index_or, All, Contains, count_by}
use Rattle.dam_book.specs.Limits.{most_blocks}
use Rattle.dam_blocks.specs.declared.selection.Solution.{Solution}
use Rattle.dam_blocks.specs.Problem.{ProblemState}
use Rattle.dam_blocks.specs.Selection.{choice}
use Rattle.dam_search.specs.declared.answer.PieceAnswer.{PieceAnswer}
use Rattle.dam_search.specs.declared.fault.SearchFault.{SearchFault}
use Rattle.dam_search.specs.declared.fault.SearchFault.TheVariants.{Memory, AnswerMissingOrRepeated, Unfinished}
use Rattle.dam_search.specs.Piece.{node_count, IsSpent}
use Rattle.dam_search.specs.Answer.{IsSoundAnswer, IsReached, IsHighest}
use Rattle.dam_search.specs.Words.{most_pieces}

-- a worker's answer about a piece of the cutting: it is sound, and read no more than some eligible
-- selection has. If a piece can have more nodes than the limit, it kept to it. Otherwise it is done
pub record IsWorked (problem : ProblemState) (depth node_limit : ℕ) (answer : PieceAnswer) : Type 0 where
  pub in_cutting : answer.piece < 2 ^ depth
  pub sound : IsSoundAnswer problem depth answer
  pub reached : IsReached problem answer.incumbent_read
  pub spent : node_limit < node_count (length problem.blocks - depth)
      → IsSpent problem (choice depth answer.piece) (length problem.blocks - depth) 0 node_limit
      answer.visited answer.incumbent_read answer.done
  pub done : node_count (length problem.blocks - depth) ≤ node_limit → answer.done ≡ true

-- how many answers there are about the piece
abbrev pub answers_about : List PieceAnswer → ℕ → ℕ
answers_about answers piece = count_by (λ (answer : PieceAnswer). answer.piece == piece) answers

-- there is one answer about each of this number of pieces
abbrev pub AreOneEach : List PieceAnswer → ℕ → Type 0
AreOneEach answers pieces = (piece : ℕ) → piece < pieces → answers_about answers piece ≡ 1

-- the piece has no answer or more than one, and each before it has one
pub record IsFirstFaulty (answers : List PieceAnswer) (piece : ℕ) : Type 0 where
  pub faulty : answers_about answers piece ≢ 1
  pub before : AreOneEach answers piece

-- how many answers there are about each piece
pub record AreAnswerCounts (answers : List PieceAnswer) (counts : List ℕ) : Type 0 where
  pub long : length counts ≡ most_pieces
  pub each : (piece d : ℕ) → piece < most_pieces
      → slice_index_or counts piece d ≡ answers_about answers piece

-- whether the answer isn't done, and is about a lesser piece than that one
abbrev pub is_lesser_unfinished : PieceAnswer → Option PieceAnswer → Bool
is_lesser_unfinished answer None = not answer.done
is_lesser_unfinished answer (Some unfinished) = not answer.done && nat_lt answer.piece unfinished.piece

-- a selection that was found is as long as selections are
abbrev pub IsLong : Option Solution → Type 0
IsLong None = Unit {0}
IsLong (Some best) = length best.selection ≡ most_blocks

-- the highest selection that the answers found, or none if they found none
abbrev pub IsHighestFound : List PieceAnswer → Option Solution → Type 0
IsHighestFound answers None = All (λ (answer : PieceAnswer). answer.best ≡ None) answers
IsHighestFound answers (Some best) = IsHighest answers best

-- the answer about the least piece of those that aren't done
abbrev pub IsLeastUnfinished : List PieceAnswer → Option PieceAnswer → Type 0
IsLeastUnfinished answers None = All (λ (answer : PieceAnswer). answer.done ≡ true) answers
IsLeastUnfinished answers (Some unfinished) =
    Contains answers unfinished × (unfinished.done ≡ false)
    × All (λ (answer : PieceAnswer). answer.done ≡ false → unfinished.piece ≤ answer.piece) answers

-- the result of answers about the pieces of a cutting of this depth: the first piece that lacks one
-- or has several, else the least unfinished one, else the highest selection that was found
abbrev pub IsCollected : ℕ → List PieceAnswer → Result Solution SearchFault → Type 0
IsCollected depth answers (Err Memory) = ⊥
IsCollected depth answers (Err (AnswerMissingOrRepeated piece)) =
    (piece < 2 ^ depth) × IsFirstFaulty answers piece
IsCollected depth answers (Err (Unfinished piece visited)) =
    AreOneEach answers (2 ^ depth)
    × ((unfinished : PieceAnswer) × IsLeastUnfinished answers (Some unfinished) × (unfinished.piece ≡ piece)
    × (unfinished.visited ≡ visited))
IsCollected depth answers (Ok best) =
    AreOneEach answers (2 ^ depth) × IsLeastUnfinished answers None × IsHighest answers best
