-- The prices fall as the net volume rises.
use Rattle.dam_hour.proofs.Common.{◌≡◌, ℕ, suc, ◌+◌, ◌*◌, ◌≤◌, ◌<◌, ℤ, pos, ◌+ℤ◌, ◌-ℤ◌, ◌*ℤ◌, ◌≤ℤ◌, ◌<ℤ◌, List, ap, ap₂, subst, arith, ints, by_lt_z, up, down}
use Rattle.dam_hour.proofs.Common.{Step, IsSupporting, AreEnds, price_between}
use Rattle.std.proofs.Common.{nat_abs}
use Rattle.std.proofs.Math.Nat.{mul-le-mul_left}
use Rattle.dam_hour.proofs.Duality.{welfare_balanced, surplus_greatest}
use Rattle.dam_hour.proofs.Existence.{ends_unique}
use Rattle.dam_hour.proofs.Midpoint.{price_lies_between}

times_more : (p net other : ℤ) (d : ℕ) → other ≡ net +ℤ pos d → p *ℤ other ≡ p *ℤ net +ℤ p *ℤ pos d
times_more p net other d e =
    let k : up other + down net ≡ up net + d + down other = omega (arith, ints) in
    let m = ap (λ (n : ℕ). up p * n) k in
    let n = ap (λ (n : ℕ). down p * n) k in
    omega (arith, ints, m, n)

-- a factor above 0 cancels
no_more : (p q : ℤ) (k : ℕ) → (q *ℤ pos (suc k)) ≤ℤ (p *ℤ pos (suc k)) → q ≤ℤ p
no_more p q k h =
    by_lt_z p q
    (λ less.
    (let l : up p + down q + 1 ≤ up q + down p = omega (arith, ints, less) in
    let m = mul-le-mul_left (suc k) l in
    let no : 0 < 0 = omega (arith, ints, m, h) in
    absurd (omega (arith, no))))
    (λ most. most)

-- the executions of two net volumes, each at its own supporting price, gain at least as much as the other there
supporting_falls : (ss : List Step) (net other p q : ℤ) (k : ℕ) → other ≡ net +ℤ pos (suc k) → IsSupporting ss net p → IsSupporting ss other q
    → q ≤ℤ p
supporting_falls ss net other p q k e s t =
    let xp = welfare_balanced p net ss s.volumes s.balance in let xq = welfare_balanced q net ss s.volumes s.balance in
    let yp = welfare_balanced p other ss t.volumes t.balance in let yq = welfare_balanced q other ss t.volumes t.balance in
    let x = surplus_greatest p ss s.volumes t.volumes s.execution s.support t.execution in
    let y = surplus_greatest q ss t.volumes s.volumes t.execution t.support s.execution in
    let m = times_more p net other (suc k) e in let n = times_more q net other (suc k) e in
    no_more p q k (omega (arith, ints, xp, xq, yp, yq, x, y, m, n))

distance : (net other : ℤ) → net <ℤ other → (k : ℕ) × (other ≡ net +ℤ pos (suc k))
distance net other l = (nat_abs (other -ℤ net -ℤ pos 1), omega (arith, ints, l))

pub prices_fall : (ss : List Step) (net other p q : ℤ) → IsSupporting ss net p → IsSupporting ss other q → net <ℤ other → q ≤ℤ p
prices_fall ss net other p q s t l = let d = distance net other l in supporting_falls ss net other p q d.0 d.1 s t

-- the clearing prices lie between the ends; at the same net volume these are the same
pub price_falls : (ss : List Step) (net other low high other_low other_high : ℤ) → AreEnds ss net low high
    → AreEnds ss other other_low other_high → net ≤ℤ other → price_between other_low other_high ≤ℤ price_between low high
price_falls ss net other low high other_low other_high e f l =
    by_lt_z net other
    (λ less.
    (let a = price_lies_between low high (e.least high e.high_supports) in
    let b = price_lies_between other_low other_high (f.least other_high f.high_supports) in
    let c = prices_fall ss net other low other_high e.low_supports f.high_supports less in
    omega (arith, ints, a.0, b.1, c)))
    (λ most.
    (let at : other ≡ net = omega (arith, ints, l, most) in
    let same = ends_unique ss net low high other_low other_high e (subst (λ (n : ℤ). AreEnds ss n other_low other_high) at f) in
    let is = ap₂ price_between same.0 same.1 in
    omega (arith, ints, is)))
