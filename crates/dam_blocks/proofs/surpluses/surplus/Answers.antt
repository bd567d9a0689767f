-- A period more.
use Rattle.dam_blocks.proofs.Common.{arith, ints}
use Rattle.dam_blocks.proofs.RunningSums.{surplus_more}
use Rattle.dam_blocks.proofs.surpluses.surplus.Goals as goal

pub loop-place-preserved : goal.loop-place-preserved
loop-place-preserved c =
    surplus_more _ _ _ _ _ _ c.surplus_in-total.result _ c.loop-place-test.true c.index-prices-place.is c.at.ensures
    c.surplus_in-total.ensures.value
    (omega (arith, ints)) (omega (arith, ints)) (omega (arith, ints)) c.loop-place.invariant
