-- The published results of a closed book.
use Rattle.std.specs.Prelude.{◌≡◌, ◌≢◌, ◌⊎◌, ℕ, ℤ, pos, ◌<ℤ◌, Bool, true, List}
use Rattle.dam_book.specs.Book.{BookState}
use Rattle.dam_blocks.specs.Problem.{ProblemState, problem_of}
use Rattle.dam_blocks.specs.Eligible.{IsEligible}
use Rattle.dam_blocks.specs.Result.{accepts_first}
use Rattle.dam_results.specs.declared.published.PeriodResult.{PeriodResult}
use Rattle.dam_results.specs.declared.published.RowResult.{RowResult}
use Rattle.dam_results.specs.Published.{ArePublished, results_text}

-- the best selection, with its welfare: each other eligible selection has less welfare; or the same, and then this one accepts
-- the first block at which they differ
pub record IsBestSelection (problem : ProblemState) (sel : List Bool) (welfare : ℤ) : Type 0 where
  pub eligible : IsEligible problem sel welfare
  pub others : (other : List Bool) (its_welfare : ℤ) → IsEligible problem other its_welfare → other ≢ sel
      → (its_welfare <ℤ welfare) ⊎ ((its_welfare ≡ welfare) × (accepts_first sel other ≡ true))

-- the book is closed, and this welfare, these periods and these orders are published for its best selection
pub record IsClearing (book : BookState) (welfare : ℕ) (periods : List PeriodResult)
    (rows : List RowResult) : Type 0 where
  pub closed : book.closed ≡ true
  pub selection : List Bool
  pub best : IsBestSelection (problem_of book) selection (pos welfare)
  pub published : ArePublished (problem_of book) selection welfare periods rows

-- the text is the results text for the closed book
abbrev pub IsResultsText : BookState → List ℕ → Type 0
IsResultsText book text =
    (welfare : ℕ) × (periods : List PeriodResult) × (rows : List RowResult)
    × IsClearing book welfare periods rows × (text ≡ results_text welfare periods rows)
