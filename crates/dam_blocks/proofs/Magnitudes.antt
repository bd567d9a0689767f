-- How large values and welfares are.
use Rattle.dam_blocks.proofs.Common.{◌≡◌, ℕ, suc, ◌+◌, ◌*◌, ◌≤◌, ◌==◌, cond, ℤ, pos, negsuc, neg_ℤ, nat_abs, ◌*ℤ◌, ◌≤ℤ◌, Bool, true, false, Some, List, [], ◌∷◌}
use Rattle.dam_blocks.proofs.Common.{length, arith, ints, greatest_volume, most_blocks, is_day, BlockTerms, Side, Buy, Sell, greatest_value, Step, AreInRange}
use Rattle.dam_blocks.proofs.Common.{IsExecution, Balances, signed, welfare_of, greatest_welfare, Block, ProblemState, hourly_orders, AreHoursInRange}
use Rattle.dam_blocks.proofs.Common.{AreBlocks, IsProblem, volume_in, value_in, net_volume, accepted_value, period_welfare, welfare_from, selection_welfare}
use Rattle.dam_blocks.proofs.Common.{IsWithin}
use Rattle.std.proofs.Math.Nat.{mul-le-mul}
use Rattle.dam_book.specs.Limits.{lowest_price, last_period}
use Rattle.dam_book.specs.Price.{IsPrice}
use Rattle.dam_book.specs.Volumes.{Pair, ArePairs}
use Rattle.dam_book.specs.Terms.{IsBlockOrder}
use Rattle.dam_hour.specs.Limits.{greatest_price}
use Rattle.dam_blocks.specs.Magnitude.{greatest_block_value_in_period, greatest_selection_welfare}
use Rattle.dam_blocks.proofs.WelfareAtLeastZero.{added_some, raised_some}

-- ---- the hourly orders
price_times : (p : ℤ) (x : ℕ) → IsPrice p → x ≤ greatest_volume
    → (neg_ℤ (pos greatest_value) ≤ℤ (p *ℤ pos x)) × ((p *ℤ pos x) ≤ℤ pos greatest_value)
price_times (pos n) x is h =
    let limit = is.at_most in
    let m : n * x ≤ greatest_price * greatest_volume =
    mul-le-mul {n₁ = n} {m₁ = x} {n₂ = greatest_price} {m₂ = greatest_volume} (omega (arith, ints, limit)) h in
    (omega (arith, ints, m), omega (arith, ints, m))
price_times (negsuc n) x is h =
    let limit = is.at_least in
    let m : suc n * x ≤ nat_abs lowest_price * greatest_volume =
    mul-le-mul {n₁ = suc n} {m₁ = x} {n₂ = nat_abs lowest_price} {m₂ = greatest_volume} (omega (arith, ints, limit)) h in
    (omega (arith, ints, m), omega (arith, ints, m))

pub signed_within : (side : Side) (z : ℤ) (n : ℕ) → neg_ℤ (pos n) ≤ℤ z → z ≤ℤ pos n
    → (neg_ℤ (pos n) ≤ℤ signed side z) × (signed side z ≤ℤ pos n)
signed_within Buy z n l h = (l, h)
signed_within Sell z n l h = (omega (arith, ints, l, h), omega (arith, ints, l, h))

pub welfare_within : (ss : List Step) (xs : List ℕ) → AreInRange ss → IsExecution ss xs
    → (neg_ℤ (pos (length ss * greatest_value)) ≤ℤ welfare_of ss xs) × (welfare_of ss xs ≤ℤ pos (length ss * greatest_value))
welfare_within [] [] r e = (omega (arith, ints), omega (arith, ints))
welfare_within [] (x ∷ xs) r e = absurd e
welfare_within (s ∷ ss) [] r e = absurd e
welfare_within (s ∷ ss) (x ∷ xs) r e =
    let q = r.1.at_most in let fit = e.0 in
    let own = price_times s.price x r.0 (omega (arith, q, fit)) in
    let here = signed_within s.side (s.price *ℤ pos x) greatest_value own.0 own.1 in
    let rest = welfare_within ss xs r.2 e.1 in
    (omega (arith, ints, here.0, rest.0), omega (arith, ints, here.1, rest.1))

-- ---- the blocks
volume_small : (ps : List Pair) (t : ℕ) → ArePairs ps → volume_in ps t ≤ greatest_volume
volume_small [] t are = omega arith
volume_small (p ∷ ps) t are =
    elim (p.0 == t) as (λ b. cond b p.1 (volume_in ps t) ≤ greatest_volume) [ true ↦ are.1.at_most | false ↦ volume_small ps t are.2 ]

pub value_within : (t : ℕ) (o : BlockTerms) → IsBlockOrder o → IsWithin greatest_value (value_in t o)
value_within t o is =
    let own = price_times o.price (volume_in o.volumes t) is.price (volume_small o.volumes t is.volumes.ranges) in
    let w = signed_within o.side (o.price *ℤ pos (volume_in o.volumes t)) greatest_value own.0 own.1 in
    record { at_least = w.0; at_most = w.1 }

block_value_within : (periods t : ℕ) (bs : List Block) (sel : List Bool) → AreBlocks periods bs
    → IsWithin (length bs * greatest_value) (accepted_value bs sel t)
block_value_within periods t [] sel are = record { at_least = omega (arith, ints); at_most = omega (arith, ints) }
block_value_within periods t (b ∷ bs) [] are = record { at_least = omega (arith, ints); at_most = omega (arith, ints) }
block_value_within periods t (b ∷ bs) (true ∷ sel) are =
    let own = value_within t b.order are.0.order in let low = own.at_least in let high = own.at_most in
    let rest = block_value_within periods t bs sel are.1 in let l = rest.at_least in let h = rest.at_most in
    record { at_least = omega (arith, ints, low, l); at_most = omega (arith, ints, high, h) }
block_value_within periods t (b ∷ bs) (false ∷ sel) are =
    let rest = block_value_within periods t bs sel are.1 in let l = rest.at_least in let h = rest.at_most in
    record { at_least = omega (arith, ints, l); at_most = omega (arith, ints, h) }

-- ---- a selection
-- the laws of one period on a welfare, and the laws of the book of a day
pub record Reached : Type 0 where
  pub short : (periods : ℕ) → is_day periods ≡ true → periods ≤ last_period
  pub reached : (ss : List Step) (net w : ℤ) → greatest_welfare ss net ≡ Some w
      → (xs : List ℕ) × IsExecution ss xs × Balances ss net xs × (welfare_of ss xs ≡ w)

period_size : Reached → (periods t : ℕ) (blocks : List Block) (sel : List Bool) (ss : List Step) (u : ℤ) → AreBlocks periods blocks
    → length blocks ≤ most_blocks → AreInRange ss
    → period_welfare blocks sel t ss ≡ Some u → IsWithin (length ss * greatest_value + greatest_block_value_in_period) u
period_size laws periods t blocks sel ss u are few range e =
    let parts = raised_some (greatest_welfare ss (net_volume blocks sel t)) (accepted_value blocks sel t) u e in
    let best = laws.reached ss (net_volume blocks sel t) parts.0 parts.1 in
    let hourly = welfare_within ss best.0 range best.1 in
    let value = block_value_within periods t blocks sel are in
    let l = value.at_least in let h = value.at_most in let is = best.3 in let sum = parts.2 in
    record { at_least = omega (arith, ints, hourly.0, l, is, sum, few); at_most = omega (arith, ints, hourly.1, h, is, sum, few) }

periods_size : Reached → (periods t : ℕ) (blocks : List Block) (sel : List Bool) (hours : List (List Step)) (w : ℤ)
    → AreBlocks periods blocks → length blocks ≤ most_blocks → AreHoursInRange hours
    → welfare_from blocks sel t hours ≡ Some w
    → IsWithin (hourly_orders hours * greatest_value + length hours * greatest_block_value_in_period) w
periods_size laws periods t blocks sel [] w are few ranges e =
    let zero : pos 0 ≡ w = cc in record { at_least = omega (arith, ints, zero); at_most = omega (arith, ints, zero) }
periods_size laws periods t blocks sel (ss ∷ hours) w are few ranges e =
    let parts = added_some (period_welfare blocks sel t ss) (welfare_from blocks sel (suc t) hours) w e in
    let here = period_size laws periods t blocks sel ss parts.0 are few ranges.0 parts.2 in
    let rest = periods_size laws periods (suc t) blocks sel hours parts.1 are few ranges.1 parts.3 in
    let a = here.at_least in let b = rest.at_least in let c = here.at_most in let d = rest.at_most in let sum = parts.4 in
    record { at_least = omega (arith, ints, a, b, sum); at_most = omega (arith, ints, c, d, sum) }

pub welfare_size : Reached → (problem : ProblemState) (sel : List Bool) (w : ℤ) → IsProblem problem → selection_welfare problem sel ≡ Some w
    → IsWithin greatest_selection_welfare w
welfare_size laws problem sel w is e =
    let size = periods_size laws (length problem.hours) 1 problem.blocks sel problem.hours w is.blocks is.few_blocks is.hours e in
    let l = size.at_least in let h = size.at_most in let hourly = is.few_hourly in let day = laws.short (length problem.hours) is.day in
    record { at_least = omega (arith, ints, l, hourly, day); at_most = omega (arith, ints, h, hourly, day) }
