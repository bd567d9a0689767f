-- A day of given commands: participants enter theirs at the same time, and then the operator closes.
use Rattle.std.specs.Prelude.{◌≡◌, ℕ, ◌+◌, ◌<◌, ◌≤◌, Bool, if◌then◌else◌, List, [], ◌∷◌, ◌++◌, length, map, take, slice_get, Option}
use Rattle.std.specs.Prelude.{None, Some}
use Rattle.std.specs.List.{filter, list_any}
use Rattle.dam_book.specs.Limits.{most_entries}
use Rattle.dam_book.specs.Name.{same_text}
use Rattle.dam_book.specs.Book.{commands_of, IsLegalHistory}
use Rattle.dam_book.specs.declared.command.Command.{Command}
use Rattle.dam_book.specs.Command.{giver}
use Rattle.dam_book.specs.declared.command.Command.TheVariants.{Close}
use Rattle.dam_book.specs.declared.command.Entry.{Entry}
use Rattle.dam_gate.specs.Limits.{most_participants}
use Rattle.dam_gate.specs.Journal.{IsJournal}
use Rattle.dam_gate.specs.Pass.{holders, is_from, is_close}
use Rattle.dam_gate.specs.Headline.{IsWholeAccount}
use Rattle.dam_gate.specs.declared.day.DayFault.{DayFault}
use Rattle.dam_gate.specs.declared.day.DayFault.TheVariants.{TooManyCommands, CloseGiven, TooManyParticipants, NotSettled, Memory}
use Rattle.dam_gate.specs.declared.day.SettledDay.{SettledDay}

-- this participant's commands, in their order
abbrev pub commands_by : List ℕ → List Command → List Command
commands_by who cs = filter (is_from who) cs

-- a day run of given commands: a legal history whose last command is the only close, and in which each participant's
-- commands are its given ones in their order
pub record IsDayRun (periods : ℕ) (given : List Command) (es : List Entry) : Type 0 where
  pub legal : IsLegalHistory periods es
  pub before : List Command
  pub close_last : commands_of es ≡ before ++ Close ∷ []
  pub close_once : filter is_close before ≡ []
  pub own_order : (who : List ℕ) → commands_by who (commands_of es) ≡ commands_by who given

-- whether the participant is one of these
abbrev pub is_one_of : List (List ℕ) → List ℕ → Bool
is_one_of participants who = list_any (same_text who) participants

-- the participants, with this one
abbrev pub with_giver : List (List ℕ) → List ℕ → List (List ℕ)
with_giver participants who = if is_one_of participants who then participants else participants ++ who ∷ []

-- the participants, with the one who gives a command, if anybody does
abbrev pub with_any : List (List ℕ) → Option (List ℕ) → List (List ℕ)
with_any participants None = participants
with_any participants (Some who) = with_giver participants who

-- these participants and then those who give the commands and aren't among them, by first occurrence
abbrev pub givers_from : List (List ℕ) → List Command → List (List ℕ)
givers_from participants [] = participants
givers_from participants (c ∷ cs) = givers_from (with_any participants (giver c)) cs

-- the participants who give the commands, each once, by first occurrence
abbrev pub givers_of : List Command → List (List ℕ)
givers_of cs = givers_from [] cs

-- who holds the passes of a day of these commands, in the order of the passes: the participants, by first occurrence,
-- and then the operator
abbrev pub day_holders : List Command → List (Option (List ℕ))
day_holders cs = map (λ (who : List ℕ). Some who) (givers_of cs) ++ None ∷ []

-- a day takes the commands: there are fewer than a journal has entries, whose last is kept for the close; none of them
-- is a close; and no more participants give them than a day may have
pub record AreTaken (cs : List Command) : Type 0 where
  pub room : length cs < most_entries
  pub no_close : filter is_close cs ≡ []
  pub participants : length (givers_of cs) ≤ most_participants

-- a day of given commands that came out settled: its journal, and the accounts of its passes
pub record IsSettledDay (periods : ℕ) (given : List Command) (d : SettledDay) : Type 0 where
  pub taken : AreTaken given
  pub day_length : d.settled.book.periods ≡ periods
  pub journal : IsJournal d.settled
  pub run : IsDayRun periods given d.settled.entries
  pub account : IsWholeAccount d.settled d.accounts.items
  pub held_by : holders d.accounts.items ≡ day_holders given

-- the faults of a day of these commands: there are too many of them; if there aren't, the place, from 0, of a command
-- that it doesn't take while it takes those before, a close or one that brings a participant too many, or that memory ran
-- out. A day never comes out unsettled
abbrev pub IsDayFault : List Command → DayFault → Type 0
IsDayFault cs TooManyCommands = most_entries ≤ length cs
IsDayFault cs (CloseGiven place) =
    (length cs < most_entries) × AreTaken (take place cs) × (slice_get cs place ≡ Some Close)
IsDayFault cs (TooManyParticipants place) =
    (length cs < most_entries) × AreTaken (take place cs) × (place < length cs)
    × (most_participants < length (givers_of (take (place + 1) cs)))
IsDayFault cs (NotSettled why) = ⊥
IsDayFault cs Memory = length cs < most_entries
