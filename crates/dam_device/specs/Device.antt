-- A reader and a writer, before and after their calls.
use Rattle.std.specs.Prelude.{◌≡◌, ◌≤◌, ◌+◌, ◌-◌, ◌^◌, ℕ, min, Bool, true, List, Option, length, take}
use Rattle.std.specs.Io.KnownBytes.{Appends}

-- a reader: the bytes that it hasn't given yet, if it shows them; how often it was asked for some; whether it failed, after which
-- it isn't asked again
pub record SourceState (R : Type 0) : Type 0 where
  pub inner : R
  pub unread : Option (List ℕ)
  pub asked : ℕ
  pub failed : Bool

-- a writer: the bytes that it took, if it shows them; how often it was asked to take some, and how often it was flushed; whether it
-- failed, after which it isn't asked again; and whether it was flushed after all that it took
pub record SinkState (W : Type 0) : Type 0 where
  pub inner : W
  pub taken : Option (List ℕ)
  pub asked : ℕ
  pub flushes : ℕ
  pub failed : Bool
  pub flushed : Bool

-- the greatest count of calls
abbrev pub most_counted : ℕ
most_counted = 2 ^ 64 - 1

-- a count of calls after one call more; it stays at the greatest
abbrev pub one_more : ℕ → ℕ
one_more count = min (count + 1) most_counted

-- a writer that was flushed once, after all that it took
abbrev pub IsFlushedOnce : {W : Type 0} → SinkState W → SinkState W → Type 0
IsFlushedOnce old new = (new.flushes ≡ one_more old.flushes) × (new.flushed ≡ true)

-- the writer took exactly this many first bytes of the text
abbrev pub TakesFront : Option (List ℕ) → Option (List ℕ) → ℕ → List ℕ → Type 0
TakesFront old new written text = (written ≤ length text) × Appends old new (take written text)
