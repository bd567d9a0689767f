-- A prefix of the blocks, decided, and the selections that agree with it.
use Rattle.std.specs.Prelude.{◌≡◌, Bool, List, ◌++◌, length}
use Rattle.dam_book.specs.Limits.{most_blocks}

-- A prefix is a list of decisions, one for each of the first blocks in book order: whether that
-- block is accepted.

-- a selection that agrees with the prefix; the other blocks may be accepted or not
pub record IsCompletion (prefix sel : List Bool) : Type 0 where
  pub as_long : length sel ≡ most_blocks
  pub rest : List Bool
  pub agrees : sel ≡ prefix ++ rest
