-- The numbers that a watch of a search may hear.
use Rattle.std.specs.Prelude.{ℕ, ◌^◌, min, List, length}
use Rattle.dam_book.specs.Book.{BookState, entries_of, run}
use Rattle.dam_book.specs.declared.command.Command.{Command}
use Rattle.dam_blocks.specs.Problem.{problem_of}
use Rattle.dam_plan.specs.Plan.{PlanTerms}
use Rattle.dam_results.specs.Run.{refused_among}

-- the number of pieces of the search of this book by this plan
abbrev pub piece_count : PlanTerms → BookState → ℕ
piece_count plan book = 2 ^ min plan.cut (length (problem_of book).blocks)

-- of each of these journals it may hear how many commands are refused, and how many pieces the search has by the plan
abbrev pub MayHearOf : (ℕ → Type 0) → (ℕ → Type 0) → PlanTerms
    → (ℕ → List Command → Type 0) → Type 0
MayHearOf MayHearRefused MayHearPieces plan IsOne =
    (periods : ℕ) (commands : List Command) → IsOne periods commands
    → MayHearRefused (refused_among (entries_of periods commands))
    × MayHearPieces (piece_count plan (run periods commands))
