-- The blocks as steps are in range, and no more than the blocks; and how large a relaxed welfare is.
use Rattle.dam_bound.proofs.Common.{◌≡◌, ℕ, suc, ◌+◌, ◌*◌, ◌≤◌, ◌==◌, cond, ℤ, Bool, true, false, Some, List, [], ◌∷◌, ◌++◌, length, drop, ap, ◌∙◌, refl, arith}
use Rattle.dam_bound.proofs.Common.{ints, nat_tests, Step, AreInRange, last_period, greatest_volume, most_blocks, greatest_value, welfare_of, greatest_welfare}
use Rattle.dam_bound.proofs.Common.{Block, ProblemState, AreBlocks, volume_in, net_volume, accepted_value, period_welfare, welfare_from, IsWithin, step_of}
use Rattle.dam_bound.proofs.Common.{as_steps, relaxed_hours}
use Rattle.std.proofs.Common.{pos, length-append}
use Rattle.dam_book.specs.Book.{is_day}
use Rattle.dam_book.specs.Volumes.{Pair, ArePairs}
use Rattle.dam_blocks.specs.Problem.{hourly_orders, AreHoursInRange, IsProblem}
use Rattle.dam_blocks.specs.Magnitude.{greatest_selection_welfare}
use Rattle.dam_bound.specs.Relaxed.{relaxed_welfare}
use Rattle.dam_bound.proofs.Standing.{stand}
use Rattle.dam_bound.proofs.Covering.{Laws, added_some, raised_some}

-- ---- the steps
volume_small : (ps : List Pair) (t : ℕ) → ArePairs ps → volume_in ps t ≤ greatest_volume
volume_small [] t are = omega arith
volume_small (p ∷ ps) t are =
    elim (p.0 == t) as (λ b. cond b p.1 (volume_in ps t) ≤ greatest_volume) [ true ↦ are.1.at_most | false ↦ volume_small ps t are.2 ]

pub steps_in_range : (periods t : ℕ) (bs : List Block) → AreBlocks periods bs → AreInRange (as_steps t bs)
steps_in_range periods t [] are = tt
steps_in_range periods t (b ∷ bs) are =
    let rest = steps_in_range periods t bs are.1 in
    elim (volume_in b.order.volumes t == 0) as (λ c. (volume_in b.order.volumes t == 0) ≡ c
    → AreInRange (cond c (as_steps t bs) (step_of t b.order ∷ as_steps t bs))) [
      | true ↦ λ e. rest
      | false ↦ λ e.
          (let some : 1 ≤ volume_in b.order.volumes t = grind (arith, nat_tests) in
          (are.0.order.price, record { at_least = some; at_most = volume_small b.order.volumes t are.0.order.volumes.ranges }, rest))
    ] refl

pub few_steps : (t : ℕ) (bs : List Block) → length (as_steps t bs) ≤ length bs
few_steps t [] = omega arith
few_steps t (b ∷ bs) =
    let rest = few_steps t bs in
    elim (volume_in b.order.volumes t == 0) as (λ c.
    length (cond c (as_steps t bs) (step_of t b.order ∷ as_steps t bs)) ≤ suc (length bs)) [
      | true ↦ omega (arith, rest)
      | false ↦ omega (arith, rest)
    ]

both_in_range : (ss ts : List Step) → AreInRange ss → AreInRange ts → AreInRange (ss ++ ts)
both_in_range [] ts r s = s
both_in_range (x ∷ ss) ts r s = (r.0, r.1, both_in_range ss ts r.2 s)

-- ---- the welfare
-- the decided blocks stand as steps too, so that there is one step for each hourly order and each block
pub period_size : Laws → (periods t : ℕ) (bs : List Block) (prefix : List Bool) (ss : List Step) (u : ℤ) → AreBlocks periods bs → AreInRange ss
    → period_welfare bs prefix t (ss ++ as_steps t (drop (length prefix) bs)) ≡ Some u
    → IsWithin ((length ss + length bs) * greatest_value) u
period_size laws periods t bs prefix ss u are range e =
    let left = as_steps t (drop (length prefix) bs) in
    let parts = raised_some (greatest_welfare (ss ++ left) (net_volume bs prefix t)) (accepted_value bs prefix t) u e in
    let best = laws.reached (ss ++ left) (net_volume bs prefix t) parts.0 parts.1 in
    let apart = laws.parted ss left best.0 best.1 in
    let worth = ap (welfare_of (ss ++ left)) apart.2 ∙ laws.welfare ss left apart.0 apart.1 apart.3 in
    let s = stand t bs prefix apart.1 apart.4 in
    let ts = as_steps t bs in
    let within = laws.small (ss ++ ts) (apart.0 ++ s.volumes) (both_in_range ss ts range (steps_in_range periods t bs are))
    (laws.joined ss ts apart.0 s.volumes apart.3 s.execution) in
    let all = laws.welfare ss ts apart.0 s.volumes apart.3 in
    let l = within.welfare_at_least in let h = within.welfare_at_most in
    let long = length-append ss ts in let few = few_steps t bs in
    let own = s.welfare in let is = best.3 in let sum = parts.2 in
    record {
      at_least = omega (arith, ints, l, all, worth, own, is, sum, long, few);
      at_most =
          omega (arith, ints, h, all, worth, own, is, sum, long, few);
    }

periods_size : Laws → (periods t : ℕ) (bs : List Block) (prefix : List Bool) (hours : List (List Step)) (w : ℤ) → AreBlocks periods bs
    → length bs ≤ most_blocks → AreHoursInRange hours
    → welfare_from bs prefix t (relaxed_hours (drop (length prefix) bs) t hours) ≡ Some w
    → IsWithin (hourly_orders hours * greatest_value + length hours * (most_blocks * greatest_value)) w
periods_size laws periods t bs prefix [] w are few ranges e =
    let zero : pos 0 ≡ w = cc in record { at_least = omega (arith, ints, zero); at_most = omega (arith, ints, zero) }
periods_size laws periods t bs prefix (ss ∷ hours) w are few ranges e =
    let left = drop (length prefix) bs in
    let parts = added_some (period_welfare bs prefix t (ss ++ as_steps t left))
    (welfare_from bs prefix (suc t) (relaxed_hours left (suc t) hours)) w e in
    let here = period_size laws periods t bs prefix ss parts.0 are ranges.0 parts.2 in
    let rest = periods_size laws periods (suc t) bs prefix hours parts.1 are few ranges.1 parts.3 in
    let a = here.at_least in let b = rest.at_least in let c = here.at_most in let d = rest.at_most in let sum = parts.4 in
    record { at_least = omega (arith, ints, a, b, sum, few); at_most = omega (arith, ints, c, d, sum, few) }

pub day_small : (n : ℕ) → is_day n ≡ true → n ≤ last_period
day_small n e = grind (arith, nat_tests)

pub relaxed_size : Laws → (problem : ProblemState) (prefix : List Bool) (w : ℤ) → IsProblem problem
    → relaxed_welfare problem prefix ≡ Some w → IsWithin greatest_selection_welfare w
relaxed_size laws problem prefix w is e =
    let size = periods_size laws (length problem.hours) 1 problem.blocks prefix problem.hours w is.blocks is.few_blocks is.hours e in
    let l = size.at_least in let h = size.at_most in let hourly = is.few_hourly in let day = day_small (length problem.hours) is.day in
    record { at_least = omega (arith, ints, l, hourly, day); at_most = omega (arith, ints, h, hourly, day) }
