-- The day of a desk.
use Rattle.std.specs.Prelude.{◌≡◌, ℕ, List, Option, None, Some, length}
use Rattle.dam_book.specs.Book.{run}
use Rattle.dam_book.specs.declared.command.Command.{Command}
use Rattle.dam_desk.specs.declared.desk_day.DeskDay.{DeskDay}

-- how many commands were entered
abbrev pub entered_of : Option DeskDay → ℕ
entered_of None = 0
entered_of (Some day) = day.entered

-- the book is that of the day's commands, and their number is kept
pub record IsDayWith (day : DeskDay) (periods : ℕ) (commands : List Command) : Type 0 where
  pub same_day : day.periods ≡ periods
  pub book : day.book ≡ run periods commands
  pub entered : day.entered ≡ length commands
