-- The greatest welfare of a period is read off the part taken of its supply.
use Rattle.std.proofs.Common.{◌≡◌, ℕ, ◌+◌, ◌-◌, ◌*◌, ◌≤◌, ℤ, pos, ◌+ℤ◌, ◌-ℤ◌, ◌*ℤ◌, ◌≤ℤ◌, Some, List, [], ◌∷◌, ap, ◌∙◌, sym, subst}
use Rattle.std.proofs.Common.{arith}
use Rattle.std.proofs.lemmas.Int.{ints}
use Rattle.dam_book.specs.Limits.{lowest_price, highest_price}
use Rattle.dam_book.specs.Price.{IsPrice}
use Rattle.dam_book.specs.declared.order.Side.TheVariants.{Buy, Sell}
use Rattle.dam_hour.specs.declared.step.Step.{Step}
use Rattle.dam_hour.specs.Limits.{price_span}
use Rattle.dam_hour.specs.Execution.{AreInRange, IsExecution, executed_volume, offered_volume, Balances, IsBalanced}
use Rattle.dam_hour.specs.Best.{welfare_of, execution_surplus, greatest_welfare}
use Rattle.dam_hour.specs.Price.{Supports, IsSupporting, AreEnds, price_between}
use Rattle.dam_curve.specs.Supply.{height_of}
use Rattle.dam_curve.specs.inside.Supply.{worth_of}
use Rattle.dam_curve.proofs.Units.{all_units, units_under, units_up_to, gain_under, AreUnitsAt, Reaches, IsCostOf}
use Rattle.dam_curve.proofs.Parts.{up_to_full, part_most, times_net}
use Rattle.dam_curve.proofs.Supplying.{taken, spent, height_is, taken_total, supported_spent, supported_reaches, reached_execution, welfare_spent}

-- ---- all of the supply
pub under_all : (h : ℕ) (ss : List Step) → units_under h ss ≤ all_units ss
under_all h [] = omega arith
under_all h (s ∷ ss) =
    let here = part_most (h - height_of s.price) s.qty in let rest = under_all h ss in omega (arith, here, rest)

pub height_most : (p : ℤ) → IsPrice p → height_of p ≤ price_span
height_most p r = let a = r.at_least in let b = r.at_most in omega (arith, ints, a, b)

pub all_up_to : (ss : List Step) → AreInRange ss → all_units ss ≤ units_up_to price_span ss
all_up_to [] a = omega arith
all_up_to (s ∷ ss) a =
    let here = up_to_full (height_of s.price) price_span s.qty (height_most s.price a.0) in
    let rest = all_up_to ss a.2 in
    omega (arith, here, rest)

pub lowest_in_range : IsPrice lowest_price
lowest_in_range = record { at_least = omega (arith, ints); at_most = omega (arith, ints) }

pub highest_in_range : IsPrice highest_price
highest_in_range = record { at_least = omega (arith, ints); at_most = omega (arith, ints) }

-- ---- the net volume
-- an execution takes this number of units exactly if it balances
taken_units : (net : ℤ) (x t o b s : ℕ) → pos x +ℤ net ≡ pos o → t + b ≡ o + s → pos s +ℤ net ≡ pos b → t ≡ x
taken_units net x t o b s u e f = omega (arith, ints, u, e, f)

units_balance : (net : ℤ) (x t o b s : ℕ) → pos x +ℤ net ≡ pos o → t + b ≡ o + s → t ≡ x → pos s +ℤ net ≡ pos b
units_balance net x t o b s u e f = omega (arith, ints, u, e, f)

pub reaches_supporting : (ss : List Step) (net p : ℤ) (x : ℕ) → AreInRange ss → AreUnitsAt ss net x → IsPrice p → Reaches ss x (height_of p)
    → IsSupporting ss net p
reaches_supporting ss net p x a u r h =
    let found = reached_execution p ss x r a h in
    record {
      in_range = r;
      volumes = found.0;
      execution = found.1;
      balance = units_balance net x (taken ss found.0) (offered_volume Buy ss) (executed_volume Buy ss found.0)
          (executed_volume Sell ss found.0) u.balance (taken_total ss found.0 found.1) found.3;
      support = found.2;
    }

supporting_reaches : (ss : List Step) (net p : ℤ) (x : ℕ) → AreInRange ss → AreUnitsAt ss net x → IsSupporting ss net p
    → Reaches ss x (height_of p)
supporting_reaches ss net p x a u s =
    let same = taken_units net x (taken ss s.volumes) (offered_volume Buy ss) (executed_volume Buy ss s.volumes)
    (executed_volume Sell ss s.volumes) u.balance (taken_total ss s.volumes s.execution) s.balance in
    subst (λ n. Reaches ss n (height_of p)) same (supported_reaches p ss s.volumes s.in_range a s.execution s.support)

-- ---- the ends of the supporting prices
-- the heights up to which this number of units reaches are those from the low one to the high one
pub record IsGap (ss : List Step) (x low high : ℕ) : Type 0 where
  pub low_reaches : Reaches ss x low
  pub high_reaches : Reaches ss x high
  pub least : (h : ℕ) → Reaches ss x h → low ≤ h
  pub greatest : (h : ℕ) → h ≤ price_span → Reaches ss x h → h ≤ high

pub ends_are : (ss : List Step) (net low high : ℤ) (x : ℕ) → AreInRange ss → AreUnitsAt ss net x → IsPrice low → IsPrice high
    → IsGap ss x (height_of low) (height_of high) → AreEnds ss net low high
ends_are ss net low high x a u rl rh gap = record {
  low_supports = reaches_supporting ss net low x a u rl gap.low_reaches;
  high_supports = reaches_supporting ss net high x a u rh gap.high_reaches;
  least = λ p s.
      (let l = gap.least (height_of p) (supporting_reaches ss net p x a u s) in
      let e = height_is low rl in let k = height_is p s.in_range in omega (arith, ints, l, e, k));
  greatest = λ p s.
      (let l = gap.greatest (height_of p) (height_most p s.in_range) (supporting_reaches ss net p x a u s) in
      let e = height_is high rh in let k = height_is p s.in_range in omega (arith, ints, l, e, k));
}

-- ---- the welfare
-- the laws of the welfare and of the price
pub record Laws : Type 0 where
  pub reached : (ss : List Step) (net w : ℤ) → greatest_welfare ss net ≡ Some w
      → (xs : List ℕ) × IsExecution ss xs × Balances ss net xs × (welfare_of ss xs ≡ w)
  pub bound : (ss : List Step) (net w : ℤ) → greatest_welfare ss net ≡ Some w → (xs : List ℕ) → IsExecution ss xs → Balances ss net xs
      → welfare_of ss xs ≤ℤ w
  pub some : (ss : List Step) (net : ℤ) → IsBalanced ss net → (w : ℤ) × (greatest_welfare ss net ≡ Some w)
  pub welfare : (p net : ℤ) (ss : List Step) (xs : List ℕ) → Balances ss net xs → welfare_of ss xs ≡ execution_surplus p ss xs +ℤ p *ℤ net
  pub greatest : (p : ℤ) (ss : List Step) (xs ys : List ℕ) → IsExecution ss xs → Supports p ss xs → IsExecution ss ys
      → execution_surplus p ss ys ≤ℤ execution_surplus p ss xs
  pub between : (low high : ℤ) → low ≤ℤ high → (low ≤ℤ price_between low high) × (price_between low high ≤ℤ high)

-- an execution that a price supports has the greatest welfare
supporting_welfare : Laws → (ss : List Step) (net p : ℤ) (s : IsSupporting ss net p)
    → greatest_welfare ss net ≡ Some (welfare_of ss s.volumes)
supporting_welfare laws ss net p s =
    let found = laws.some ss net (s.volumes, s.execution, s.balance) in
    let best = laws.reached ss net found.0 found.1 in
    let above = laws.bound ss net found.0 found.1 s.volumes s.execution s.balance in
    let own = laws.welfare p net ss s.volumes s.balance in
    let other = laws.welfare p net ss best.0 best.2 in
    let below = laws.greatest p ss s.volumes best.0 s.execution s.support best.1 in
    let is = best.3 in
    let same : found.0 ≡ welfare_of ss s.volumes = omega (arith, ints, above, own, other, below, is) in
    found.1 ∙ ap (λ (z : ℤ). Some z) same

-- the line of a supporting price lies over the greatest welfare
pub line_above : Laws → (ss : List Step) (net p surplus : ℤ) → IsSupporting ss net p → greatest_welfare ss net ≡ Some (surplus +ℤ p *ℤ net)
    → (at w : ℤ) → greatest_welfare ss at ≡ Some w → w ≤ℤ (surplus +ℤ p *ℤ at)
line_above laws ss net p surplus s e at w f =
    let own = laws.welfare p net ss s.volumes s.balance in
    let both : Some (welfare_of ss s.volumes) ≡ Some (surplus +ℤ p *ℤ net) = sym (supporting_welfare laws ss net p s) ∙ e in
    let same : welfare_of ss s.volumes ≡ surplus +ℤ p *ℤ net = cc in
    let best = laws.reached ss at w f in
    let other = laws.welfare p at ss best.0 best.2 in
    let below = laws.greatest p ss s.volumes best.0 s.execution s.support best.1 in
    let is = best.3 in
    omega (arith, ints, own, same, other, below, is)

spent_is : (s g h t x cost : ℕ) → s + g ≡ h * t → t ≡ x → cost + g ≡ h * x → s ≡ cost
spent_is s g h t x cost e f k = let m = ap (λ n. h * n) f in omega (arith, e, k, m)

welfare_sum : (net w : ℤ) (s b k worth cost : ℕ) → (w +ℤ pos k) +ℤ lowest_price *ℤ pos s ≡ pos worth +ℤ lowest_price *ℤ pos b
    → pos s +ℤ net ≡ pos b → k ≡ cost
    → w ≡ (pos worth -ℤ pos cost) +ℤ lowest_price *ℤ net
welfare_sum net w s b k worth cost e f same =
    let t = times_net lowest_price net b s f in
    omega (arith, ints, e, t, same)

pub welfare_is : Laws → (ss : List Step) (net : ℤ) (x cost : ℕ) → AreInRange ss → AreUnitsAt ss net x → IsCostOf ss x cost
    → greatest_welfare ss net ≡ Some ((pos (worth_of ss) -ℤ pos cost) +ℤ lowest_price *ℤ net)
welfare_is laws ss net x cost a u c =
    let s = reaches_supporting ss net c.price x a u c.in_range c.reaches in
    let same = taken_units net x (taken ss s.volumes) (offered_volume Buy ss) (executed_volume Buy ss s.volumes)
    (executed_volume Sell ss s.volumes) u.balance (taken_total ss s.volumes s.execution) s.balance in
    let k = spent_is (spent ss s.volumes) (gain_under (height_of c.price) ss) (height_of c.price) (taken ss s.volumes) x cost
    (supported_spent c.price ss s.volumes c.in_range a s.execution s.support) same c.cost_is in
    let sum = welfare_sum net (welfare_of ss s.volumes) (executed_volume Sell ss s.volumes) (executed_volume Buy ss s.volumes)
    (spent ss s.volumes) (worth_of ss) cost
    (welfare_spent ss s.volumes a s.execution) s.balance k in
    supporting_welfare laws ss net c.price s ∙ ap (λ (z : ℤ). Some z) sum
