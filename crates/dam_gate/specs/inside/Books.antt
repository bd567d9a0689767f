-- The book of a keeper, the one before it, and how that leads to it.
use Rattle.std.specs.Prelude.{◌≡◌, ℕ, List, Option, Some, IfSome, slice_get}
use Rattle.dam_book.specs.Book.{BookState, book_after, refusal}
use Rattle.dam_book.specs.declared.command.Entry.{Entry}
use Rattle.dam_book.specs.declared.reason.Reason.{Reason}

-- an earlier book, and the place of the entry whose command changed it, with the reason that refuses it in that book
pub record EarlierState : Type 0 where
  pub book : BookState
  pub place : ℕ
  pub outcome : Option Reason

-- a book, and the one before it, if that is kept
pub record BooksState : Type 0 where
  pub book : BookState
  pub before : Option EarlierState

-- the command of the step's entry made this book of the step's
pub record LeadsTo (es : List Entry) (s : EarlierState) (after : BookState) : Type 0 where
  pub entry : Entry
  pub stands : slice_get es s.place ≡ Some entry
  pub decided : s.outcome ≡ refusal s.book entry.command
  pub made : book_after s.book entry.command ≡ after

-- the book before leads to the book
abbrev pub AreSteps : List Entry → BooksState → Type 0
AreSteps es b = IfSome b.before (λ s. LeadsTo es s b.book)
