-- The order of two results, as the search over all selections compares them.
use Rattle.std.specs.Prelude.{pos}
use Rattle.dam_blocks.specs.declared.selection.Solution.{Solution}
use Rattle.dam_blocks.specs.Result.{RanksAtOrBelow}

-- the first ranks at or below the second
abbrev pub RanksNoHigher : Solution → Solution → Type 0
RanksNoHigher a b = RanksAtOrBelow (pos a.welfare) a.selection (pos b.welfare) b.selection
