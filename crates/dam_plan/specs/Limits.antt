-- How many workers a search may have, how deep it may be cut, and how many nodes of a piece it may
-- visit.
use Rattle.std.specs.Prelude.{ℕ}

-- how many workers a search may have
abbrev pub most_workers : ℕ
most_workers = 8

-- how many of the first blocks a cutting may decide
abbrev pub most_cut : ℕ
most_cut = 8

-- the greatest limit on the nodes of a piece
abbrev pub most_nodes : ℕ
most_nodes = 67108864
