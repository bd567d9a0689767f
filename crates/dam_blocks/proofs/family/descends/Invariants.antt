-- The rest of the chain leads to the ancestor if all of it does.
use Rattle.dam_blocks.proofs.Common.{◌≡◌, ◌-◌, length, leads_to, descends}
use Rattle.dam_blocks.proofs.family.descends.Given as goal

abbrev pub invariant-loop : goal.invariant-loop
invariant-loop l = leads_to (length l.blocks - l.counter) l.blocks l.ancestor l.parent ≡ descends l.blocks l.ancestor l.place
