-- The journal format: which texts read as which journals.
use Rattle.std.specs.Prelude.{◌≡◌, ◌≤◌, ℕ, true, nat_lt, List, ◌∷◌, length, map, position, Option, None}
use Rattle.std.specs.List.{AllByRecursion}
use Rattle.dam_book.specs.Name.{IsName, IsParticipant}
use Rattle.dam_book.specs.Price.{IsPrice}
use Rattle.dam_book.specs.Volumes.{IsVolumes}
use Rattle.dam_book.specs.Order.{IsOrder}
use Rattle.dam_book.specs.Book.{is_day}
use Rattle.dam_book.specs.declared.command.Command.{Command}
use Rattle.dam_book.specs.declared.command.Command.TheVariants.{Submit, Amend, Cancel, Close}
use Rattle.dam_results.specs.Limits.{most_bytes, most_records}
use Rattle.dam_results.specs.Records.{Fields, records_of, record_of_day, record_of_command}

-- each part of a command is within its limits
abbrev pub IsCommand : Command → Type 0
IsCommand (Submit who name order) = IsParticipant who × IsName name × IsOrder order
IsCommand (Amend who name price volumes) =
    IsParticipant who × IsName name × IsPrice price × IsVolumes volumes
IsCommand (Cancel who name) = IsParticipant who × IsName name
IsCommand Close = Unit {0}

-- the offset of the first byte that isn't ASCII
abbrev pub first_non_ascii : List ℕ → Option ℕ
first_non_ascii text = position (nat_lt 127) text

-- these records are a day and commands, as many as a text may hold
pub record AreRecords (records : List Fields) (periods : ℕ) (commands : List Command) : Type 0 where
  pub few : length records ≤ most_records
  pub day : is_day periods ≡ true
  pub valid : AllByRecursion IsCommand commands
  pub written : records ≡ record_of_day periods ∷ map record_of_command commands

-- the text is a journal of these periods and commands
pub record ReadsAs (text : List ℕ) (periods : ℕ) (commands : List Command) : Type 0 where
  pub short : length text ≤ most_bytes
  pub ascii : first_non_ascii text ≡ None
  pub records : AreRecords (records_of text) periods commands

-- the text is a journal, and this is made of its periods and commands
abbrev pub IsMadeFrom : {T : Type 0} → (ℕ → List Command → T → Type 0) → List ℕ → T → Type 0
IsMadeFrom MadeOf text made =
    (periods : ℕ) × (commands : List Command) × ReadsAs text periods commands
    × MadeOf periods commands made
