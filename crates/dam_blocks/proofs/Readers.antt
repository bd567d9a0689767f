-- The values that the readers of a problem find are within the limits.
use Rattle.dam_blocks.proofs.Common.{◌≡◌, ℕ, zero, suc, ◌≤◌, Some, List, [], ◌∷◌, subst, arith, most_hourly, Step, Block, hourly_orders, AreHoursInRange}
use Rattle.dam_blocks.proofs.Common.{AreBlocks}
use Rattle.std.specs.List.{slice_get}
use Rattle.dam_hour.specs.Execution.{IsHour}
use Rattle.dam_blocks.specs.Problem.{IsBlock}
use Rattle.dam_blocks.proofs.PeriodByPeriod.{hour_at}

pub hour_is : (hours : List (List Step)) (i : ℕ) (hour : List Step) → slice_get hours i ≡ Some hour → AreHoursInRange hours
    → hourly_orders hours ≤ most_hourly → IsHour hour
hour_is hours i hour e are few =
    let at = hour_at hours i most_hourly hour are few e in
    let long = at.1 in
    record { few = omega (arith, long); in_range = at.0 }

pub block_is : (periods : ℕ) (blocks : List Block) (i : ℕ) (b : Block) → slice_get blocks i ≡ Some b → AreBlocks periods blocks
    → IsBlock periods b
block_is periods [] i b e are = absurd (cc)
block_is periods (c ∷ blocks) zero b e are = let same : c ≡ b = cc in subst (IsBlock periods) same are.0
block_is periods (c ∷ blocks) (suc i) b e are = block_is periods blocks i b e are.1
