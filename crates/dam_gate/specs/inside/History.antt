-- The one history of a gate: the rule of the word that counts it, and the effect of a step.
use Rattle.std.specs.Prelude.{ℕ, ◌≡◌, ◌==◌, true, List, [], ◌∷◌, ◌++◌, length, MatchBool}
use mathlib.Core.List.{IsPrefix}
use Rattle.logbook.specs.Pages.{Cell, Step, View, Book, Named}
use Rattle.dam_book.specs.declared.command.Entry.{Entry}

-- the first word is the number of entries. A book of words has two, of which this one leaves the second at 0
pub record IsKept (cells : List Cell) (log : List Entry) : Type 0 where
  pub words : cells ≡ (length log, true) ∷ (0, true) ∷ []

abbrev pub count_of : Book → Named
count_of b = record { tracked = true; key = 0; book = b }

-- the entry came to a history of that length, which begins with all that had been known
pub record IsAdded (s : Step Entry) (known after : List Entry) : Type 0 where
  pub before : List Entry
  pub held : length before ≡ s.old
  pub begins : IsPrefix known before
  pub is : after ≡ before ++ s.ask ∷ []

-- if the length was the one expected, the entry was added
abbrev pub Adds : Step Entry → View Entry ℕ → ℕ → View Entry ℕ → Type 0
Adds s v found w = MatchBool (found == s.old) (IsAdded s v.0 w.0) (Unit {0})
