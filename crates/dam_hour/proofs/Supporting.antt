-- The ends of the supporting prices: the least price that is high enough and the greatest that is low enough.
use Rattle.dam_hour.proofs.Common.{◌≡◌, ℕ, zero, suc, ◌+◌, ◌<◌, ◌≤◌, ℤ, pos, negsuc, ◌+ℤ◌, ◌-ℤ◌, ◌≤ℤ◌, List, [], ◌∷◌, ◌⊎◌, inl, inr, ◌∙◌, sym, refl, arith}
use Rattle.dam_hour.proofs.Common.{ints, by_lt_z, IsPrice, lowest_price, highest_price, Side, Buy, Sell, Step, AreInRange, IsExecution, IsWithinOffers}
use Rattle.dam_hour.proofs.Common.{offered_volume, volume_on, Balances, Supports, IsSupporting, AreEnds, IsBest, margin_of, if_better, if_at, better_volume}
use Rattle.dam_hour.proofs.Common.{at_volume, IsHighEnough, IsLowEnough, IsLeastHighEnough, IsGreatestLowEnough}
use Rattle.dam_hour.proofs.Duality.{equals_supported, supported_between}
use Rattle.dam_hour.proofs.FilledExecution.{volume_on_sum, executed_at_most}
use Rattle.dam_hour.proofs.Totals.{totals_at, best_supported, supporting_tests}

-- ---- a step's volume, by its margin
better_rises : (m k : ℤ) (q : ℕ) → m ≤ℤ k → if_better m q ≤ if_better k q
better_rises (negsuc m) k q h = omega arith
better_rises (pos zero) k q h = omega arith
better_rises (pos (suc m)) (pos (suc k)) q h = omega arith
better_rises (pos (suc m)) (pos zero) q h = let no : 0 < 0 = omega (arith, ints) in omega (arith, no)
better_rises (pos (suc m)) (negsuc k) q h = let no : 0 < 0 = omega (arith, ints) in omega (arith, no)

not_worse_rises : (m k : ℤ) (q : ℕ) → m ≤ℤ k → if_better m q + if_at m q ≤ if_better k q + if_at k q
not_worse_rises (negsuc m) k q h = omega arith
not_worse_rises (pos zero) (pos zero) q h = omega arith
not_worse_rises (pos zero) (pos (suc k)) q h = omega arith
not_worse_rises (pos zero) (negsuc k) q h = let no : 0 < 0 = omega (arith, ints) in omega (arith, no)
not_worse_rises (pos (suc m)) (pos zero) q h = omega arith
not_worse_rises (pos (suc m)) (pos (suc k)) q h = omega arith
not_worse_rises (pos (suc m)) (negsuc k) q h = let no : 0 < 0 = omega (arith, ints) in omega (arith, no)

-- a step that is better by a cent more is not worse
better_before : (m k : ℤ) (q : ℕ) → m ≤ℤ (k +ℤ pos 1) → if_better m q ≤ if_better k q + if_at k q
better_before (negsuc m) k q h = omega arith
better_before (pos zero) k q h = omega arith
better_before (pos (suc m)) (pos zero) q h = omega arith
better_before (pos (suc m)) (pos (suc k)) q h = omega arith
better_before (pos (suc m)) (negsuc k) q h = let no : 0 < 0 = omega (arith, ints) in omega (arith, no)

none_better : (m : ℤ) (q : ℕ) → m ≤ℤ pos 0 → if_better m q ≡ 0
none_better (pos zero) q h = refl
none_better (pos (suc n)) q h = let no : 0 < 0 = omega (arith, ints) in omega (arith, no)
none_better (negsuc n) q h = refl

none_worse : (m : ℤ) (q : ℕ) → pos 0 ≤ℤ m → q ≡ if_better m q + if_at m q
none_worse (pos zero) q h = omega arith
none_worse (pos (suc n)) q h = omega arith
none_worse (negsuc n) q h = let no : 0 < 0 = omega (arith, ints) in omega (arith, no)

-- ---- at a price and at a higher one
-- the margin is monotone: a buy's falls with the price and a sell's rises
abbrev Above : Side → ℤ → ℤ → Type 0
Above Buy p q = q ≤ℤ p
Above Sell p q = p ≤ℤ q

margin_above : (side : Side) (l p q : ℤ) → Above side p q → margin_of side l p ≤ℤ margin_of side l q
margin_above Buy l p q h = omega (arith, ints)
margin_above Sell l p q h = omega (arith, ints)

above_own : (side own : Side) (l p q : ℤ) (m k : ℕ) → Above side p q → (Above own p q → m ≤ k) → volume_on side own m ≤ volume_on side own k
above_own Buy Buy l p q m k h f = f h
above_own Sell Sell l p q m k h f = f h
above_own Buy Sell l p q m k h f = omega arith
above_own Sell Buy l p q m k h f = omega arith

pub better_volume_above : (side : Side) (p q : ℤ) (ss : List Step) → Above side p q → better_volume side p ss ≤ better_volume side q ss
better_volume_above side p q [] h = omega arith
better_volume_above side p q (s ∷ ss) h =
    let here = above_own side s.side s.price p q (if_better (margin_of s.side s.price p) s.qty)
    (if_better (margin_of s.side s.price q) s.qty) h
    (λ own. better_rises (margin_of s.side s.price p) (margin_of s.side s.price q) s.qty (margin_above s.side s.price p q own)) in
    let rest = better_volume_above side p q ss h in
    omega (arith, here, rest)

-- the part of one step that is not worse
not_worse_sum : (side own : Side) (m : ℤ) (q : ℕ)
    → volume_on side own (if_better m q + if_at m q) ≡ volume_on side own (if_better m q) + volume_on side own (if_at m q)
not_worse_sum side own m q = volume_on_sum side own (if_better m q + if_at m q) (if_better m q) (if_at m q) refl

pub not_worse_above : (side : Side) (p q : ℤ) (ss : List Step) → Above side p q
    → better_volume side p ss + at_volume side p ss ≤ better_volume side q ss + at_volume side q ss
not_worse_above side p q [] h = omega arith
not_worse_above side p q (s ∷ ss) h =
    let m = margin_of s.side s.price p in let k = margin_of s.side s.price q in
    let here = above_own side s.side s.price p q (if_better m s.qty + if_at m s.qty) (if_better k s.qty + if_at k s.qty) h
    (λ own. not_worse_rises m k s.qty (margin_above s.side s.price p q own)) in
    let left = not_worse_sum side s.side m s.qty in
    let right = not_worse_sum side s.side k s.qty in
    let rest = not_worse_above side p q ss h in
    omega (arith, here, left, right, rest)

-- one cent further
abbrev Next : Side → ℤ → ℤ → Type 0
Next Buy p q = q ≡ p +ℤ pos 1
Next Sell p q = p ≡ q +ℤ pos 1

margin_next : (side : Side) (l p q : ℤ) → Next side p q → margin_of side l p ≤ℤ (margin_of side l q +ℤ pos 1)
margin_next Buy l p q h = omega (arith, ints)
margin_next Sell l p q h = omega (arith, ints)

next_own : (side own : Side) (p q : ℤ) (m k : ℕ) → Next side p q → (Next own p q → m ≤ k) → volume_on side own m ≤ volume_on side own k
next_own Buy Buy p q m k h f = f h
next_own Sell Sell p q m k h f = f h
next_own Buy Sell p q m k h f = omega arith
next_own Sell Buy p q m k h f = omega arith

better_volume_next : (side : Side) (p q : ℤ) (ss : List Step) → Next side p q
    → better_volume side p ss ≤ better_volume side q ss + at_volume side q ss
better_volume_next side p q [] h = omega arith
better_volume_next side p q (s ∷ ss) h =
    let m = margin_of s.side s.price p in let k = margin_of s.side s.price q in
    let here = next_own side s.side p q (if_better m s.qty) (if_better k s.qty + if_at k s.qty) h
    (λ own. better_before m k s.qty (margin_next s.side s.price p q own)) in
    let right = not_worse_sum side s.side k s.qty in
    let rest = better_volume_next side p q ss h in
    omega (arith, here, right, rest)

-- ---- the two tests
pub higher : (ss : List Step) (net p q : ℤ) → p ≤ℤ q → IsHighEnough ss net p → IsHighEnough ss net q
higher ss net p q l h =
    let b = better_volume_above Buy q p ss l in
    let s = not_worse_above Sell p q ss l in
    let e = h.enough in
    record { enough = omega (arith, ints, b, s, e) }

pub lower : (ss : List Step) (net p q : ℤ) → p ≤ℤ q → IsLowEnough ss net q → IsLowEnough ss net p
lower ss net p q l h =
    let s = better_volume_above Sell p q ss l in
    let b = not_worse_above Buy q p ss l in
    let e = h.enough in
    record { enough = omega (arith, ints, b, s, e) }

-- each test holds or the other does a cent further
pub high_or_next_low : (ss : List Step) (net p q : ℤ) → q ≡ p +ℤ pos 1
    → IsHighEnough ss net p ⊎ ((¬ (IsHighEnough ss net p)) × IsLowEnough ss net q)
high_or_next_low ss net p q n =
    let b = better_volume_next Buy p q ss n in
    let s = better_volume_next Sell q p ss n in
    by_lt_z (pos (better_volume Sell p ss + at_volume Sell p ss) +ℤ net) (pos (better_volume Buy p ss))
    (λ less. inr (
      (λ h. (let e = h.enough in absurd (let no : 0 < 0 = omega (arith, ints, less, e) in omega (arith, no)))),
      record { enough = omega (arith, ints, b, s, less) },
    ))
    (λ enough. inl (record { enough = enough }))

pub low_or_previous_high : (ss : List Step) (net p q : ℤ) → q ≡ p +ℤ pos 1
    → IsLowEnough ss net q ⊎ ((¬ (IsLowEnough ss net q)) × IsHighEnough ss net p)
low_or_previous_high ss net p q n =
    let b = better_volume_next Buy p q ss n in
    let s = better_volume_next Sell q p ss n in
    by_lt_z (pos (better_volume Buy q ss + at_volume Buy q ss)) (pos (better_volume Sell q ss) +ℤ net)
    (λ less. inr (
      (λ h. (let e = h.enough in absurd (let no : 0 < 0 = omega (arith, ints, less, e) in omega (arith, no)))),
      record { enough = omega (arith, ints, b, s, less) },
    ))
    (λ enough. inl (record { enough = enough }))

-- ---- the ends of the range
-- no buy is better than the highest price and no sell than the lowest
abbrev end_of : Side → ℤ
end_of Buy = highest_price
end_of Sell = lowest_price

margin_end : (side own : Side) (l : ℤ) → IsPrice l → (m : ℕ) → (q : ℕ) → m ≡ if_better (margin_of own l (end_of side)) q
    → volume_on side own m ≡ 0
margin_end Buy Buy l r m q e = let a = r.at_most in let z = none_better (margin_of Buy l highest_price) q (omega (arith, ints, a)) in e ∙ z
margin_end Sell Sell l r m q e = let a = r.at_least in let z = none_better (margin_of Sell l lowest_price) q (omega (arith, ints, a)) in
    e ∙ z
margin_end Buy Sell l r m q e = refl
margin_end Sell Buy l r m q e = refl

end_better : (side : Side) (ss : List Step) → AreInRange ss → better_volume side (end_of side) ss ≡ 0
end_better side [] r = refl
end_better side (s ∷ ss) r =
    let here = margin_end side s.side s.price r.0 (if_better (margin_of s.side s.price (end_of side)) s.qty) s.qty refl in
    let rest = end_better side ss r.2 in
    omega (arith, here, rest)

-- at the other end none is worse
abbrev other_end_of : Side → ℤ
other_end_of Buy = lowest_price
other_end_of Sell = highest_price

margin_other_end : (side own : Side) (l : ℤ) → IsPrice l → (q m : ℕ)
    → m ≡ if_better (margin_of own l (other_end_of side)) q + if_at (margin_of own l (other_end_of side)) q
    → volume_on side own q ≡ volume_on side own m
margin_other_end Buy Buy l r q m e = let a = r.at_least in none_worse (margin_of Buy l lowest_price) q (omega (arith, ints, a)) ∙ sym e
margin_other_end Sell Sell l r q m e = let a = r.at_most in none_worse (margin_of Sell l highest_price) q (omega (arith, ints, a)) ∙ sym e
margin_other_end Buy Sell l r q m e = refl
margin_other_end Sell Buy l r q m e = refl

pub end_not_worse : (side : Side) (ss : List Step) → AreInRange ss
    → offered_volume side ss ≡ better_volume side (other_end_of side) ss + at_volume side (other_end_of side) ss
end_not_worse side [] r = refl
end_not_worse side (s ∷ ss) r =
    let m = margin_of s.side s.price (other_end_of side) in
    let here = margin_other_end side s.side s.price r.0 s.qty (if_better m s.qty + if_at m s.qty) refl in
    let sum = not_worse_sum side s.side m s.qty in
    let rest = end_not_worse side ss r.2 in
    omega (arith, here, sum, rest)

pub highest_enough : (ss : List Step) (net : ℤ) → AreInRange ss → IsWithinOffers ss net → IsHighEnough ss net highest_price
highest_enough ss net r w =
    let b = end_better Buy ss r in let s = end_not_worse Sell ss r in let a = w.at_least in
    record { enough = omega (arith, ints, b, s, a) }

pub lowest_enough : (ss : List Step) (net : ℤ) → AreInRange ss → IsWithinOffers ss net → IsLowEnough ss net lowest_price
lowest_enough ss net r w =
    let s = end_better Sell ss r in let b = end_not_worse Buy ss r in let a = w.at_most in
    record { enough = omega (arith, ints, b, s, a) }

-- ---- the ends of the supporting prices
pub tests_supporting : (ss : List Step) (net p : ℤ) → IsPrice p → IsHighEnough ss net p → IsLowEnough ss net p → IsSupporting ss net p
tests_supporting ss net p r h l =
    let t = totals_at ss net p h l in best_supported ss net p t.0 t.1 t.2 r

pub least_is_low : (ss : List Step) (net p : ℤ) → AreInRange ss → IsWithinOffers ss net → IsLeastHighEnough ss net p → IsLowEnough ss net p
least_is_low ss net p r w t =
    let a = t.in_range.at_least in let b = t.in_range.at_most in
    by_lt_z lowest_price p
    (λ less. elim (high_or_next_low ss net (p -ℤ pos 1) p (omega (arith, ints))) [
      | inl high ↦
          (let before : IsPrice (p -ℤ pos 1) = record { at_least = omega (arith, ints); at_most = omega (arith, ints) } in
          let no = t.least (p -ℤ pos 1) before high in
          absurd (let false : 0 < 0 = omega (arith, ints, no) in omega (arith, false)))
      | inr other ↦ other.1
    ])
    (λ most. lower ss net p lowest_price most (lowest_enough ss net r w))

pub greatest_is_high : (ss : List Step) (net p : ℤ) → AreInRange ss → IsWithinOffers ss net → IsGreatestLowEnough ss net p
    → IsHighEnough ss net p
greatest_is_high ss net p r w t =
    let a = t.in_range.at_least in let b = t.in_range.at_most in
    by_lt_z p highest_price
    (λ less. elim (low_or_previous_high ss net p (p +ℤ pos 1) refl) [
      | inl low ↦
          (let after : IsPrice (p +ℤ pos 1) = record { at_least = omega (arith, ints); at_most = omega (arith, ints) } in
          let no = t.greatest (p +ℤ pos 1) after low in
          absurd (let false : 0 < 0 = omega (arith, ints, no) in omega (arith, false)))
      | inr other ↦ other.1
    ])
    (λ most. higher ss net highest_price p most (highest_enough ss net r w))

pub ends_from : (ss : List Step) (net low high : ℤ) → AreInRange ss → IsWithinOffers ss net → IsLeastHighEnough ss net low
    → IsGreatestLowEnough ss net high → AreEnds ss net low high
ends_from ss net low high r w l h = record {
  low_supports = tests_supporting ss net low l.in_range l.enough (least_is_low ss net low r w l);
  high_supports = tests_supporting ss net high h.in_range (greatest_is_high ss net high r w h) h.enough;
  least = λ p s. l.least p s.in_range (supporting_tests ss net p s).0;
  greatest = λ p s. h.greatest p s.in_range (supporting_tests ss net p s).1;
}

-- ---- if nothing balances
pub balance_within : (ss : List Step) (net : ℤ) (xs : List ℕ) → IsExecution ss xs → Balances ss net xs → IsWithinOffers ss net
balance_within ss net xs e b =
    let buys = executed_at_most Buy ss xs e in
    let sells = executed_at_most Sell ss xs e in
    record { at_least = omega (arith, ints, buys, sells, b); at_most = omega (arith, ints, buys, sells, b) }

-- ---- the exchange law
-- a price that supports any balanced execution supports the best one, which has its welfare
pub best_supported_at : (ss : List Step) (net p : ℤ) (xs : List ℕ) → IsSupporting ss net p → IsBest ss net xs → Supports p ss xs
best_supported_at ss net p xs s best =
    equals_supported p net ss s.volumes xs s.execution s.balance s.support best.execution best.balance
    (best.greatest s.volumes s.execution s.balance).by_welfare

pub ends_support_best : (ss : List Step) (net low high p : ℤ) (xs : List ℕ) → AreEnds ss net low high → IsBest ss net xs → low ≤ℤ p
    → p ≤ℤ high → Supports p ss xs
ends_support_best ss net low high p xs e best l h =
    supported_between low p high ss xs l h (best_supported_at ss net low xs e.low_supports best)
    (best_supported_at ss net high xs e.high_supports best)

-- a price between two supporting ones passes both tests
pub between_supports : (ss : List Step) (net low high p : ℤ) → IsSupporting ss net low → IsSupporting ss net high → low ≤ℤ p → p ≤ℤ high
    → IsSupporting ss net p
between_supports ss net low high p sl sh l h =
    let a = sl.in_range.at_least in let b = sh.in_range.at_most in
    tests_supporting ss net p (record { at_least = omega (arith, ints); at_most = omega (arith, ints) })
    (higher ss net low p l (supporting_tests ss net low sl).0) (lower ss net p high h (supporting_tests ss net high sh).1)
