-- Of the places so far, those that pass the test.
use Rattle.dam_search.specs.inside.Conflicts.{is_other_of_group}
use Rattle.dam_search.proofs.Sets.{IsSetSoFar}
use Rattle.dam_search.proofs.conflicts.others_of_group.Given as goal

abbrev pub invariant-loop-other : goal.invariant-loop-other
invariant-loop-other l = IsSetSoFar l.other (is_other_of_group l.blocks l.place) l.others
