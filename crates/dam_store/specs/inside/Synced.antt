-- A disk between two writes.
use Rattle.std.specs.Prelude.{◌≡◌, ◌<◌, List, ℕ, Option, MatchOption, true, drop, IsTrue}
use Rattle.sqlite_disk.specs.Disk.{Only}
use Rattle.sqlite_disk.specs.declared.Disk.{Ghosts}
use Rattle.dam_store.specs.Limits.{most_file_bytes}
use Rattle.dam_store.specs.FileLines.{is_unmade, lines_in, StandsFor}
use Rattle.dam_store.specs.inside.Shape.{IsEndedAt, IsFileAtRest}

-- it may be used, and any crash leaves what a read returns
pub record IsSynced {D : Type 0} (g : Ghosts D) (disk : D) : Type 0 where
  pub usable : IsTrue (g.is_usable disk)
  pub durable : Only (g.seen disk) (g.may_leave disk)

-- the bytes are all that a read returns, and are on the disk
pub record IsReadWhole {D : Type 0} (g : Ghosts D) (disk : D) (bytes : List ℕ) : Type 0 where
  pub synced : IsSynced g disk
  pub same : IsTrue (g.is_clean disk) → g.seen disk ≡ bytes

-- the file was read, its lines end at `end`, and the bytes are those from there on
pub record IsReadFrom {D : Type 0} (g : Ghosts D) (disk : D) (end : ℕ) (rest : List ℕ) : Type 0 where
  pub synced : IsSynced g disk
  pub room : end < most_file_bytes
  pub ended : IsTrue (g.is_clean disk) → IsEndedAt (g.seen disk) end
  pub same : IsTrue (g.is_clean disk) → drop end (g.seen disk) ≡ rest

-- the bytes are all of a file that was never made whole, or those from the end of its lines on
abbrev pub IsRest : {D : Type 0} → Ghosts D → D → Option ℕ → List ℕ → Type 0
IsRest g disk end rest = MatchOption end (IsReadWhole g disk rest × (is_unmade rest ≡ true)) (λ at. IsReadFrom g disk at rest)

-- whatever a crash leaves has P, unless a wrong answer was taken as true
abbrev pub CrashLeaves : {D : Type 0} → Ghosts D → D → (List ℕ → Type 0) → Type 0
CrashLeaves g disk P = IsTrue (g.is_clean disk) → (file : List ℕ) → g.may_leave disk file → P file

-- a file that had these bytes is repaired: it is at rest at `end`, and holds the lines that they stand for
pub record IsRepaired {D : Type 0} (g : Ghosts D) (disk : D) (bytes : List ℕ) (end : ℕ) : Type 0 where
  pub closed : IsFileAtRest (g.seen disk) end
  pub stands : StandsFor (lines_in (g.seen disk)) bytes
