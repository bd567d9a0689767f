-- How the participants enter a day's commands.
use Rattle.std.specs.Prelude.{◌≡◌, ◌≢◌, ℕ, ◌<◌, false, List, [], ◌∷◌, ◌++◌, length, filter_map, slice_get, slice_index_or, None, Some}
use mathlib.Core.List.{IsPrefix}
use Rattle.dam_book.specs.Book.{commands_of}
use Rattle.dam_book.specs.declared.command.Command.{Command}
use Rattle.dam_book.specs.declared.command.Command.TheVariants.{Close}
use Rattle.dam_gate.specs.Pass.{Knowledge, AccountState, IsAccount, with_receipt}
use Rattle.dam_gate.specs.Journal.{JournalState, IsJournal, journal_after, next_entry}
use Rattle.dam_gate.specs.Limits.{most_participants}
use Rattle.dam_gate.specs.Settled.{IsMismatch}
use Rattle.dam_book.specs.Command.{giver}
use Rattle.dam_gate.specs.Day.{commands_by, is_one_of, with_any, with_giver}
use Rattle.dam_gate.specs.declared.day.DayFault.{DayFault}
use Rattle.dam_gate.specs.declared.day.DayFault.TheVariants.{TooManyCommands, CloseGiven, TooManyParticipants, NotSettled, Memory}
use Rattle.dam_gate.specs.declared.settlement.Mismatch.TheVariants.{Memory as MismatchMemory}

-- no two are one participant
abbrev pub AreApart : List (List ℕ) → Type 0
AreApart [] = Unit {0}
AreApart (who ∷ participants) = (is_one_of participants who ≡ false) × AreApart participants

-- these are the participants who give the commands, each once
pub record AreGivers (participants : List (List ℕ)) (cs : List Command) : Type 0 where
  pub apart : AreApart participants
  pub all : (who : List ℕ) → is_one_of participants who ≡ false → commands_by who cs ≡ []

-- the giver of the command is taken among the participants
pub record TakesGiver (c : Command) (before after : List (List ℕ)) : Type 0 where
  pub who : List ℕ
  pub gives : giver c ≡ Some who
  pub after_is : after ≡ with_giver before who

-- memory ran out; or nobody gives the command at this place, or it brings a participant too many
abbrev pub IsFaultAt : ℕ → List (List ℕ) → Command → DayFault → Type 0
IsFaultAt place participants c Memory = Unit {0}
IsFaultAt place participants c (CloseGiven at) = (at ≡ place) × (giver c ≡ None)
IsFaultAt place participants c (TooManyParticipants at) =
    (at ≡ place) × (most_participants < length (with_any participants (giver c)))
IsFaultAt place participants c TooManyCommands = ⊥
IsFaultAt place participants c (NotSettled why) = ⊥

-- the commands at these places, in their order
abbrev pub commands_at : List Command → List ℕ → List Command
commands_at cs places = filter_map (λ (place : ℕ). slice_get cs place) places

-- each participant's places are those of its commands among the first of all, `front`
abbrev pub AreAllPlaces : List Command → List Command → List (List ℕ) → List (List ℕ) → Type 0
AreAllPlaces all front [] [] = Unit {0}
AreAllPlaces all front (who ∷ participants) (places ∷ all_places) =
    (commands_at all places ≡ commands_by who front) × AreAllPlaces all front participants all_places
AreAllPlaces all front [] (places ∷ all_places) = ⊥
AreAllPlaces all front (who ∷ participants) [] = ⊥

-- the places of the participant of this index; none if there is none
abbrev pub places_of : List (List ℕ) → ℕ → List ℕ
places_of all_places at = slice_index_or all_places at []

-- the pass has receipts of the earlier commands, and then of some of its own, the first ones
pub record HasEntered (earlier own : List Command) (p : AccountState) : Type 0 where
  pub entered : List Command
  pub left : List Command
  pub own_is : own ≡ entered ++ left
  pub receipts : commands_of p.receipts ≡ earlier ++ entered

-- the pass after has the holder and the receipts of the pass before, and then receipts of the first of its own commands
pub record Enters (own : List Command) (before after : AccountState) : Type 0 where
  pub holder : after.holder ≡ before.holder
  pub entered : HasEntered (commands_of before.receipts) own after

-- each participant's pass has receipts of just its own commands
abbrev pub AreServed : List Command → List (List ℕ) → List AccountState → Type 0
AreServed given [] [] = Unit {0}
AreServed given (who ∷ participants) (p ∷ ps) =
    (commands_of p.receipts ≡ commands_by who given) × IsAccount p × AreServed given participants ps
AreServed given [] (p ∷ ps) = ⊥
AreServed given (who ∷ participants) [] = ⊥

-- the pass has as many receipts as its participant has places
pub record HasAll (places : List ℕ) (p : AccountState) : Type 0 where
  pub pass : IsAccount p
  pub as_many : length p.receipts ≡ length places

-- the faults of a day if this journal and these passes aren't found settled: why they aren't, or that memory ran out
abbrev pub IsUnsettled : JournalState → List AccountState → DayFault → Type 0
IsUnsettled j passes TooManyCommands = ⊥
IsUnsettled j passes (CloseGiven place) = ⊥
IsUnsettled j passes (TooManyParticipants place) = ⊥
IsUnsettled j passes (NotSettled why) = (why ≢ MismatchMemory) × IsMismatch j passes why
IsUnsettled j passes Memory = Unit {0}

-- the operator, whose pass knew this before, closed: the journal went on, by the close, from one that begins with all that
-- the pass had learnt of, and the close's entry is the receipt
pub record IsClosedByOperator (before : Knowledge) (after : AccountState) (j : JournalState) : Type 0 where
  pub earlier : JournalState
  pub journal : IsJournal earlier
  pub learnt : IsPrefix before.learnt earlier.entries
  pub closed : j ≡ journal_after earlier Close
  pub receipt : after ≡ with_receipt before.account (next_entry earlier Close)
  pub pass : IsAccount after
