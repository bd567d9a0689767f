-- The slots of a gate's versions, and the version that waits at their writer.
use Rattle.std.specs.Prelude.{◌≡◌, ℕ, List, [], ◌∷◌, Option, None, Some, fold}
use Rattle.std.specs.declared.sync.Arc.{Arc}
use Rattle.std.specs.declared.alloc.Global.{Global}
use Rattle.std.specs.Arc.{arc_value}
use Rattle.once_cell.specs.Once.{cell_name}
use Rattle.once_cell.specs.declared.race.note.Note.{Note}
use Rattle.dam_gate.specs.Journal.{JournalState}
use Rattle.dam_gate.specs.declared.version.NextShown.{NextShown}

-- the name of a slot's cell, which no other cell has
abbrev pub slot_name : {A : Type 0} → Arc (Global × ℕ) A → ℕ
slot_name slot = cell_name (arc_value slot)

-- the note shows that the slot of this name has this version in it, for good
pub record IsNoteOf (slot : ℕ) (version : JournalState) (note : Note JournalState) : Type 0 where
  pub cell : note.cell ≡ slot
  pub known : note.known ≡ Some version

-- just the change that shows the slot of this name waits
abbrev pub IsNext : {J : Type 0} → ℕ → List (NextShown J) → Type 0
IsNext {J} slot changes = (change : NextShown J) × (changes ≡ change ∷ []) × (slot_name change.slot ≡ slot)

-- the name of the slot that is shown when these changes are made, if the slot of that name was shown before
abbrev pub name_after : {J : Type 0} → ℕ → List (NextShown J) → ℕ
name_after {J} slot changes =
    fold (λ (before : ℕ) (change : NextShown J). slot_name change.slot) slot changes

-- nothing waits; or, if a slot was left, just the change that shows it does
abbrev pub IsAtMostNext : {J A : Type 0} → Option (Arc (Global × ℕ) A) → List (NextShown J) → Type 0
IsAtMostNext None changes = changes ≡ []
IsAtMostNext (Some slot) changes = IsNext (slot_name slot) changes
