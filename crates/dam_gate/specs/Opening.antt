-- The gate that a name stands for.
use Rattle.std.specs.Prelude.{ℕ}
use Rattle.logbook.specs.Pages.{Book}

-- the one history of a gate, how many periods its day has, how many passes it gives at most, and the ledger in which its
-- entries are counted
pub record OpeningState : Type 0 where
  pub history : Book
  pub periods : ℕ
  pub passes : ℕ
  pub ledger : ℕ
