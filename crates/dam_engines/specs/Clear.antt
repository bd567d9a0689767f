-- The text that the clearing engine prints for a journal's commands, and the engine's faults.
use Rattle.std.specs.Prelude.{◌≡◌, ℕ, pos, min, true, false, Bool, List, length}
use Rattle.dam_book.specs.Book.{BookState, run}
use Rattle.dam_book.specs.declared.command.Command.{Command}
use Rattle.dam_blocks.specs.Problem.{ProblemState, problem_of}
use Rattle.dam_blocks.specs.Result.{IsResult}
use Rattle.dam_plan.specs.Plan.{PlanTerms}
use Rattle.dam_search.specs.Search.{IsUnfinished, LimitHasNeeded}
use Rattle.dam_results.specs.Clearing.{IsResultsText}
use Rattle.dam_engines.specs.declared.fault.RunFault.{RunFault}
use Rattle.dam_engines.specs.declared.fault.RunFault.TheVariants.{StillOpen, Unfinished, Memory}

-- the book is closed, and for the search of its problem by this plan, the limit on nodes may be too low for this piece
pub record IsCutShort (plan : PlanTerms) (book : BookState) (piece visited : ℕ) : Type 0 where
  pub closed : book.closed ≡ true
  pub unfinished : IsUnfinished (problem_of book) (min plan.cut (length (problem_of book).blocks)) plan.node_limit piece visited

-- the problem has a result, and the plan's limit on nodes is at least the number that each piece needs if the result's welfare is
-- read from the start
pub record PlanHasNeeded (plan : PlanTerms) (problem : ProblemState) : Type 0 where
  pub selection : List Bool
  pub welfare : ℕ
  pub best : IsResult problem selection (pos welfare)
  pub needed : LimitHasNeeded problem (min plan.cut (length problem.blocks)) plan.node_limit welfare

-- the text is the results text of the book, and the plan's limit on nodes is at least the number needed to clear it; a lesser limit
-- gives no results
abbrev pub IsClearedWithin : PlanTerms → BookState → List ℕ → Type 0
IsClearedWithin plan book text = IsResultsText book text × PlanHasNeeded plan (problem_of book)

-- the text is the results text of the book that these commands make, within the plan's limit on nodes
abbrev pub AreResultsWithin : PlanTerms → ℕ → List Command → List ℕ → Type 0
AreResultsWithin plan periods commands text = IsClearedWithin plan (run periods commands) text

-- the terms of a search by one worker that cuts nothing; they are those of a plan only if a plan may have this limit on nodes
abbrev pub terms_alone : ℕ → PlanTerms
terms_alone node_limit = record { workers = 1; cut = 0; node_limit = node_limit }

-- how the clearing of a book can fail: it is open; if it is closed, its search didn't finish, if that can be; or memory ran out
abbrev pub IsBookFault : PlanTerms → BookState → RunFault → Type 0
IsBookFault plan book StillOpen = book.closed ≡ false
IsBookFault plan book (Unfinished piece visited) = IsCutShort plan book piece visited
IsBookFault plan book Memory = Unit {0}
IsBookFault plan book fault = ⊥

-- how the clearing of the book that these commands make can fail
abbrev pub IsClearFault : PlanTerms → ℕ → List Command → RunFault → Type 0
IsClearFault plan periods commands fault = IsBookFault plan (run periods commands) fault
