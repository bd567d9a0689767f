-- If the net volume is within the offers, there are a balanced execution, the ends and a best execution; there is only
-- one pair of ends, and only one best execution.
use Rattle.dam_hour.proofs.Common.{◌≡◌, ℕ, zero, suc, min, ◌-◌, ◌≤◌, ℤ, pos, negsuc, neg_ℤ, ◌+ℤ◌, ◌-ℤ◌, ◌≤ℤ◌, List, [], ◌∷◌, inl, inr, ap, ap₂, ◌∙◌, sym, refl}
use Rattle.dam_hour.proofs.Common.{arith, ints, by_lt_z, lowest_price, highest_price, Side, Buy, Sell, price_span, Step, AreInRange, IsExecution}
use Rattle.dam_hour.proofs.Common.{IsWithinOffers, executed_volume, offered_volume, volume_on, AreEnds, AtMostInOrder, IsBest, welfare_of, total_on}
use Rattle.dam_hour.proofs.Common.{IsHighEnough, IsLowEnough, IsLeastHighEnough, IsGreatestLowEnough}
use Rattle.dam_hour.specs.Execution.{IsBalanced}
use Rattle.dam_hour.proofs.FilledExecution.{fill_total_step}
use Rattle.dam_hour.proofs.Totals.{totals_at, best_at, best_is_best}
use Rattle.dam_hour.proofs.Supporting.{higher, lower, high_or_next_low, low_or_previous_high, highest_enough, lowest_enough, ends_from}
use Rattle.dam_hour.proofs.Supporting.{least_is_low}

-- ---- the least price that is high enough, by its distance from the lowest
pub least_found : (ss : List Step) (net : ℤ) (n : ℕ) (p : ℤ) → p ≡ lowest_price +ℤ pos n → p ≤ℤ highest_price → IsHighEnough ss net p
    → (q : ℤ) × IsLeastHighEnough ss net q
least_found ss net zero p e m h = (
  p,
  record {
    in_range = record { at_least = omega (arith, ints); at_most = m };
    enough = h;
    least = λ q r _. (let a = r.at_least in omega (arith, ints));
  },
)
least_found ss net (suc n) p e m h =
    elim (high_or_next_low ss net (p -ℤ pos 1) p (omega (arith, ints))) [
      | inl high ↦ least_found ss net n (p -ℤ pos 1) (omega (arith, ints)) (omega (arith, ints)) high
      | inr other ↦ (
        p,
        record {
          in_range = record { at_least = omega (arith, ints); at_most = m };
          enough = h;
          least = λ q r enough. by_lt_z q p
              (λ less. absurd (other.0 (higher ss net q (p -ℤ pos 1) (omega (arith, ints)) enough)))
              (λ more. more);
        },
      )
    ]

pub greatest_found : (ss : List Step) (net : ℤ) (n : ℕ) (p : ℤ) → highest_price ≡ p +ℤ pos n → lowest_price ≤ℤ p → IsLowEnough ss net p
    → (q : ℤ) × IsGreatestLowEnough ss net q
greatest_found ss net zero p e m h = (
  p,
  record {
    in_range = record { at_least = m; at_most = omega (arith, ints) };
    enough = h;
    greatest = λ q r _. (let a = r.at_most in omega (arith, ints));
  },
)
greatest_found ss net (suc n) p e m h =
    elim (low_or_previous_high ss net p (p +ℤ pos 1) refl) [
      | inl low ↦ greatest_found ss net n (p +ℤ pos 1) (omega (arith, ints)) (omega (arith, ints)) low
      | inr other ↦ (
        p,
        record {
          in_range = record { at_least = m; at_most = omega (arith, ints) };
          enough = h;
          greatest = λ q r enough. by_lt_z p q
              (λ less. absurd (other.0 (lower ss net (p +ℤ pos 1) q (omega (arith, ints)) enough)))
              (λ more. more);
        },
      )
    ]

-- the number of cents from the lowest price to the highest
abbrev cents : ℕ
cents = price_span

pub least_exists : (ss : List Step) (net : ℤ) → AreInRange ss → IsWithinOffers ss net → (q : ℤ) × IsLeastHighEnough ss net q
least_exists ss net r w = least_found ss net cents highest_price refl (omega (arith, ints)) (highest_enough ss net r w)

pub greatest_exists : (ss : List Step) (net : ℤ) → AreInRange ss → IsWithinOffers ss net → (q : ℤ) × IsGreatestLowEnough ss net q
greatest_exists ss net r w = greatest_found ss net cents lowest_price refl (omega (arith, ints)) (lowest_enough ss net r w)

pub ends_exist : (ss : List Step) (net : ℤ) → AreInRange ss → IsWithinOffers ss net → (low : ℤ) × (high : ℤ) × AreEnds ss net low high
ends_exist ss net r w =
    let l = least_exists ss net r w in let h = greatest_exists ss net r w in
    (l.0, h.0, ends_from ss net l.0 h.0 r w l.1 h.1)

pub best_exists : (ss : List Step) (net : ℤ) → AreInRange ss → IsWithinOffers ss net → (xs : List ℕ) × IsBest ss net xs
best_exists ss net r w =
    let l = least_exists ss net r w in
    let t = totals_at ss net l.0 l.1.enough (least_is_low ss net l.0 r w l.1) in
    (best_at l.0 ss t.0 t.1, best_is_best ss net l.0 t.0 t.1 t.2)

-- ---- an execution with given totals, for any limits
spread : List Step → (Side → ℕ) → List ℕ
spread [] left = []
spread (s ∷ ss) left = min s.qty (left s.side) ∷ spread ss (λ side. left side - volume_on side s.side s.qty)

spread_fits : (ss : List Step) (left : Side → ℕ) → IsExecution ss (spread ss left)
unfolding spread
spread_fits [] left = tt
spread_fits (s ∷ ss) left = (omega arith, spread_fits ss _)

spread_total : (side : Side) (ss : List Step) (left : Side → ℕ)
    → executed_volume side ss (spread ss left) ≡ min (offered_volume side ss) (left side)
unfolding spread
spread_total side [] left = omega arith
spread_total side (s ∷ ss) left =
    let next : Side → ℕ = λ side. left side - volume_on side s.side s.qty in
    let rest = spread_total side ss next in
    let step = fill_total_step side s.side (pos 0) s.qty (offered_volume side ss) 0 (executed_volume side ss (spread ss next)) left
    (omega (arith, rest)) in
    omega (arith, step, none_on side s.side)
  where
    none_on : (side own : Side) → volume_on side own 0 ≡ 0
    none_on Buy Buy = refl
    none_on Buy Sell = refl
    none_on Sell Buy = refl
    none_on Sell Sell = refl

totals_within : (net : ℤ) (b s : ℕ) → neg_ℤ (pos s) ≤ℤ net → net ≤ℤ pos b → (x : ℕ) × (y : ℕ) × (x ≤ b) × (y ≤ s) × (pos y +ℤ net ≡ pos x)
totals_within (pos n) b s l h = (n, 0, omega (arith, ints), omega arith, omega (arith, ints))
totals_within (negsuc n) b s l h = (0, suc n, omega arith, omega (arith, ints), omega (arith, ints))

pub balance_exists : (ss : List Step) (net : ℤ) → IsWithinOffers ss net → IsBalanced ss net
balance_exists ss net w =
    let t = totals_within net (offered_volume Buy ss) (offered_volume Sell ss) w.at_least w.at_most in
    let left = total_on' t.0 t.1 in
    let b : executed_volume Buy ss (spread ss left) ≡ t.0 = (let e = spread_total Buy ss left in let m = t.2 in omega (arith, e, m)) in
    let s : executed_volume Sell ss (spread ss left) ≡ t.1 = (let e = spread_total Sell ss left in let m = t.3 in omega (arith, e, m)) in
    (spread ss left, spread_fits ss left, ap (λ (n : ℕ). pos n +ℤ net) s ∙ t.4 ∙ sym (ap pos b))
  where
    total_on' : ℕ → ℕ → Side → ℕ
    total_on' b s side = total_on side b s

-- ---- each is the only one
same_in_order : (ss : List Step) (xs ys : List ℕ) → IsExecution ss xs → IsExecution ss ys → AtMostInOrder xs ys → AtMostInOrder ys xs
    → xs ≡ ys
same_in_order [] [] [] ex ey h g = refl
same_in_order [] (x ∷ xs) ys ex ey h g = absurd ex
same_in_order [] [] (y ∷ ys) ex ey h g = absurd ey
same_in_order (s ∷ ss) [] ys ex ey h g = absurd ex
same_in_order (s ∷ ss) (x ∷ xs) [] ex ey h g = absurd ey
same_in_order (s ∷ ss) (x ∷ xs) (y ∷ ys) ex ey h g =
    let same : x ≡ y = omega (arith, h.0, g.0) in
    ap₂ (λ (z : ℕ) (zs : List ℕ). z ∷ zs) same (same_in_order ss xs ys ex.1 ey.1 (h.1 same) (g.1 (sym same)))

pub best_unique : (ss : List Step) (net : ℤ) (xs ys : List ℕ) → IsBest ss net xs → IsBest ss net ys → xs ≡ ys
best_unique ss net xs ys x y =
    let below = y.greatest xs x.execution x.balance in
    let above = x.greatest ys y.execution y.balance in
    let w : welfare_of ss xs ≡ welfare_of ss ys = omega (arith, ints, below.by_welfare, above.by_welfare) in
    let b : executed_volume Buy ss xs ≡ executed_volume Buy ss ys = omega (arith, below.by_bought w, above.by_bought (sym w)) in
    same_in_order ss xs ys x.execution y.execution (below.by_order w b) (above.by_order (sym w) (sym b))

pub ends_unique : (ss : List Step) (net low high low' high' : ℤ) → AreEnds ss net low high → AreEnds ss net low' high'
    → (low ≡ low') × (high ≡ high')
ends_unique ss net low high low' high' e f =
    let l = e.least low' f.low_supports in let l' = f.least low e.low_supports in
    let h = e.greatest high' f.high_supports in let h' = f.greatest high e.high_supports in
    (omega (arith, ints), omega (arith, ints))
