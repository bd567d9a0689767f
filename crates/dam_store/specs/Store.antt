-- A store, as its contracts see it.
use Rattle.std.specs.Prelude.{◌≡◌, Bool, false, List, ℕ, ◌∷◌, ◌++◌}
use Rattle.sqlite_disk.specs.declared.Disk.{Ghosts}
use Rattle.dam_store.specs.FileLines.{lines_in, bytes_on_disk, has_byte, StandsFor}
use Rattle.dam_store.specs.declared.found_store.FoundStore.{FoundStore}
use Rattle.dam_store.specs.declared.store.Store.{Store}

-- the disk that a store writes to
abbrev pub disk_of : {D : Type 0} {g : Ghosts D} → Store D g → D
disk_of store = store.disk

-- the disk on which a store was found
abbrev pub found_on : {D : Type 0} {g : Ghosts D} → FoundStore D g → D
found_on found = found.disk

-- a write or a sync has failed
abbrev pub is_broken : {D : Type 0} {g : Ghosts D} → Store D g → Bool
is_broken store = store.is_broken

-- the lines that a store holds
abbrev pub held_lines : {D : Type 0} {g : Ghosts D} → Store D g → List (List ℕ)
held_lines {D} {g} store = lines_in (g.seen store.disk)

-- the file stands for the lines that the store holds, and so does every file that a crash leaves now
pub record IsSafe {D : Type 0} {g : Ghosts D} (store : Store D g) : Type 0 where
  pub seen : StandsFor (held_lines store) (g.seen (disk_of store))
  pub crash : (file : List ℕ) → g.may_leave (disk_of store) file → StandsFor (held_lines store) file

-- The file has the lines that the store holds, each with its mark, and then only the mark `-` with a rest of one line.
pub record IsTidy {D : Type 0} {g : Ghosts D} (store : Store D g) : Type 0 where
  pub rest : List ℕ
  pub text : g.seen (disk_of store) ≡ bytes_on_disk (held_lines store) ++ 45 ∷ rest
  pub one_line : has_byte 10 rest ≡ false

-- Nothing of a file changed: it reads as before, and a crash leaves nothing that it didn't leave before.
pub record IsUntouched {D : Type 0} (g : Ghosts D) (old new : D) : Type 0 where
  pub seen : g.seen new ≡ g.seen old
  pub crash : (file : List ℕ) → g.may_leave new file → g.may_leave old file
