-- A reader and a writer that count their calls.
use Rattle.std.specs.Prelude.{ℕ, List, Option}

-- a reader, the bytes that it hasn't given yet, if it shows them, and how often it was asked
pub record ReaderState (R : Type 0) : Type 0 where
  pub inner : R
  pub unread : Option (List ℕ)
  pub asked : ℕ

-- a writer, the bytes that it took, if it shows them, and how often it was asked and flushed
pub record WriterState (W : Type 0) : Type 0 where
  pub inner : W
  pub taken : Option (List ℕ)
  pub asked : ℕ
  pub flushes : ℕ
