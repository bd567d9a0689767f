-- A set that meets itself has a place.
use Rattle.dam_bound.proofs.Members.{all_read, none_met}
use Rattle.dam_bound.proofs.families.family_of.Goals as goal

pub returns-then-meets : goal.returns-then-meets
returns-then-meets c = all_read c.args.blocks.now c.args.place c.descendants_of-family.result c.descendants_of-family.ensures

pub returns-else-meets : goal.returns-else-meets
returns-else-meets c =
    none_met c.args.blocks.now c.args.place c.descendants_of-family.result c.meets.result c.descendants_of-family.ensures c.if-meets.false
    c.meets.ensures.1
