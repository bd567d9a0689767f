-- A store through any sequence of openings, appends, faults and crashes.
use Rattle.std.specs.Prelude.{◌≡◌, ◌⊎◌, List, ℕ, [], ◌∷◌, ◌++◌}
use Rattle.dam_store.specs.FileLines.{StandsForEither}

-- what is known of a file: it stands for the sure lines, or for those and all of the pending ones
pub record Known : Type 0 where
  pub sure : List (List ℕ)
  pub pending : List (List ℕ)

-- whatever a crash leaves is as known
abbrev pub IsKnown : (List ℕ → Type 0) → Known → Type 0
IsKnown outcomes known = (file : List ℕ) → outcomes file → StandsForEither known.sure known.pending file

-- the file may stand for these lines
abbrev pub IsPossible : Known → List (List ℕ) → Type 0
IsPossible known lines = (lines ≡ known.sure) ⊎ (lines ≡ known.sure ++ known.pending)

-- an event in the life of a store
pub data Event : Type 0 where
  -- the store was opened, and holds these lines
  Opened : (lines : List (List ℕ)) → Event
  -- it wasn't opened, or a crash came before the answer
  Unopened : Event
  -- these lines were acknowledged
  Appended : (batch : List (List ℕ)) → Event
  -- these lines were given, and a fault or a crash came before they were acknowledged
  Unfinished : (batch : List (List ℕ)) → Event

-- Each event is followed by the next. Lines are appended only to a store that is open and has met no fault.
abbrev pub IsStoreHistory : Known → List Event → Known → Type 0
IsStoreHistory known [] last = last ≡ known
IsStoreHistory known (Opened lines ∷ events) last = IsPossible known lines × IsStoreHistory (record { sure = lines; pending = [] }) events last
IsStoreHistory known (Unopened ∷ events) last = IsStoreHistory known events last
IsStoreHistory known (Appended batch ∷ events) last = (known.pending ≡ []) × IsStoreHistory (record { sure = known.sure ++ batch; pending = [] }) events last
IsStoreHistory known (Unfinished batch ∷ events) last = (known.pending ≡ []) × IsStoreHistory (record { sure = known.sure; pending = batch }) events last

-- the lines are those of the batches in their order, each whole: every acknowledged one, and any of the others
abbrev pub AreGiven : List Event → List (List ℕ) → Type 0
AreGiven [] lines = lines ≡ []
AreGiven (Opened found ∷ events) lines = AreGiven events lines
AreGiven (Unopened ∷ events) lines = AreGiven events lines
AreGiven (Appended batch ∷ events) lines = (more : List (List ℕ)) × (lines ≡ batch ++ more) × AreGiven events more
AreGiven (Unfinished batch ∷ events) lines = AreGiven events lines ⊎ ((more : List (List ℕ)) × (lines ≡ batch ++ more) × AreGiven events more)
