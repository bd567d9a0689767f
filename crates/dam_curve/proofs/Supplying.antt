-- The supply of a period's steps: the part that an execution takes of it, and the prices that
-- support one.
use Rattle.std.proofs.Common.{◌≡◌, ℕ, suc, ◌+◌, ◌-◌, ◌*◌, ◌<◌, ◌≤◌, ℤ, pos, ◌+ℤ◌, ◌*ℤ◌, List, [], ◌∷◌, inl, inr, refl, arith}
use Rattle.std.proofs.lemmas.Int.{ints}
use Rattle.std.proofs.lemmas.Bool.{cases_lt}
use Rattle.dam_book.specs.Limits.{lowest_price}
use Rattle.dam_book.specs.Price.{IsPrice}
use Rattle.dam_book.specs.declared.order.Side.{Side}
use Rattle.dam_book.specs.declared.order.Side.TheVariants.{Buy, Sell}
use Rattle.dam_hour.specs.declared.step.Step.{Step}
use Rattle.dam_hour.specs.Execution.{AreInRange, IsExecution, executed_volume, offered_volume, volume_on}
use Rattle.dam_hour.specs.Best.{welfare_of}
use Rattle.dam_hour.specs.Price.{Supports}
use Rattle.dam_curve.specs.Supply.{height_of}
use Rattle.dam_curve.specs.inside.Supply.{worth_of}
use Rattle.dam_curve.proofs.Units.{if_any, all_units, units_under, units_up_to, gain_under, Reaches}
use Rattle.dam_curve.proofs.Parts.{under_up_to, under_full, up_to_none, part_most, part_reached, taken_of, taken_back, taken_fits, taken_full, taken_none}
use Rattle.dam_curve.proofs.Parts.{better_full, worse_none, part_cost, part_welfare}

-- the units that an execution takes of the supply: the volume that it sells, and the volume of the
-- buys that isn't served
abbrev pub taken : List Step → List ℕ → ℕ
taken (s ∷ ss) (x ∷ xs) = taken_of s.side s.qty x + taken ss xs
taken _ _ = 0

-- their heights, added up
abbrev pub spent : List Step → List ℕ → ℕ
spent (s ∷ ss) (x ∷ xs) = height_of s.price * taken_of s.side s.qty x + spent ss xs
spent _ _ = 0

-- a price is the least one and its height
pub height_is : (p : ℤ) → IsPrice p → p ≡ lowest_price +ℤ pos (height_of p)
height_is p r = let a = r.at_least in omega (arith, ints, a)

-- ---- the units that are taken, all in all
taken_step : (side : Side) (q x t b o s : ℕ) → x ≤ q → t + b ≡ o + s
    → (taken_of side q x + t) + (volume_on Buy side x + b) ≡ (volume_on Buy side q + o) + (volume_on Sell side x + s)
taken_step Buy q x t b o s l e = omega arith
taken_step Sell q x t b o s l e = omega arith

pub taken_total : (ss : List Step) (xs : List ℕ) → IsExecution ss xs
    → taken ss xs + executed_volume Buy ss xs ≡ offered_volume Buy ss + executed_volume Sell ss xs
taken_total [] [] e = refl
taken_total [] (x ∷ xs) e = absurd e
taken_total (s ∷ ss) [] e = absurd e
taken_total (s ∷ ss) (x ∷ xs) e =
    taken_step s.side s.qty x (taken ss xs) (executed_volume Buy ss xs) (offered_volume Buy ss) (executed_volume Sell ss xs) e.0
    (taken_total ss xs e.1)

-- the supply is all buys and all sells
offered_step : (side : Side) (q b s : ℕ) → q + (b + s) ≡ (volume_on Buy side q + b) + (volume_on Sell side q + s)
offered_step Buy q b s = omega arith
offered_step Sell q b s = omega arith

pub all_offered : (ss : List Step) → all_units ss ≡ offered_volume Buy ss + offered_volume Sell ss
all_offered [] = refl
all_offered (s ∷ ss) =
    let rest = all_offered ss in
    let here = offered_step s.side s.qty (offered_volume Buy ss) (offered_volume Sell ss) in
    omega (arith, rest, here)

-- ---- the heights of the units taken by an execution that a price supports
pub supported_spent : (p : ℤ) (ss : List Step) (xs : List ℕ) → IsPrice p → AreInRange ss → IsExecution ss xs → Supports p ss xs
    → spent ss xs + gain_under (height_of p) ss ≡ height_of p * taken ss xs
supported_spent p [] [] r a e h = omega arith
supported_spent p [] (x ∷ xs) r a e h = absurd e
supported_spent p (s ∷ ss) [] r a e h = absurd e
supported_spent p (s ∷ ss) (x ∷ xs) r a e h =
    let el = height_is s.price a.0 in let ep = height_is p r in
    let here = part_cost (height_of s.price) (height_of p) s.qty (taken_of s.side s.qty x)
    (taken_full s.side s.price p lowest_price (height_of s.price) (height_of p) s.qty x el ep e.0 h.0 h.1)
    (taken_none s.side s.price p lowest_price (height_of s.price) (height_of p) s.qty x el ep e.0 h.0 h.1) in
    let rest = supported_spent p ss xs r a.2 e.1 h.2 in
    spent_sum (height_of p) (height_of s.price * taken_of s.side s.qty x) ((height_of p - height_of s.price) * s.qty)
    (taken_of s.side s.qty x)
    (spent ss xs) (gain_under (height_of p) ss) (taken ss xs) here rest
  where
    spent_sum : (h c g y d k t : ℕ) → c + g ≡ h * y → d + k ≡ h * t → (c + d) + (g + k) ≡ h * (y + t)
    spent_sum h c g y d k t e f = omega (arith, e, f)

-- the units that such an execution takes reach up to the price
pub supported_reaches : (p : ℤ) (ss : List Step) (xs : List ℕ) → IsPrice p → AreInRange ss → IsExecution ss xs → Supports p ss xs
    → Reaches ss (taken ss xs) (height_of p)
supported_reaches p [] [] r a e h = record { under = omega arith; up_to = omega arith }
supported_reaches p [] (x ∷ xs) r a e h = absurd e
supported_reaches p (s ∷ ss) [] r a e h = absurd e
supported_reaches p (s ∷ ss) (x ∷ xs) r a e h =
    let el = height_is s.price a.0 in let ep = height_is p r in
    let here = part_reached (height_of s.price) (height_of p) s.qty (taken_of s.side s.qty x) (taken_fits s.side s.qty x e.0)
    (taken_full s.side s.price p lowest_price (height_of s.price) (height_of p) s.qty x el ep e.0 h.0 h.1)
    (taken_none s.side s.price p lowest_price (height_of s.price) (height_of p) s.qty x el ep e.0 h.0 h.1) in
    let rest = supported_reaches p ss xs r a.2 e.1 h.2 in
    let under = rest.under in let up_to = rest.up_to in
    record { under = omega (arith, here, under); up_to = omega (arith, here, up_to) }

-- ---- a number of units of the supply, as an execution that the price supports
under_most : (h : ℕ) (ss : List Step) → units_under h ss ≤ units_up_to h ss
under_most h [] = omega arith
under_most h (s ∷ ss) =
    let here = under_up_to (height_of s.price) h s.qty in let rest = under_most h ss in omega (arith, here, rest)

-- the part of a step in a number of units
record Part (u v under up_to x : ℕ) : Type 0 where
  y : ℕ
  at_least : u ≤ y
  at_most : y ≤ v
  rest : ℕ
  sum : y + rest ≡ x
  under_rest : under ≤ rest
  up_to_rest : rest ≤ up_to

part_of : (u v under up_to x : ℕ) → u ≤ v → under ≤ up_to → u + under ≤ x → x ≤ v + up_to → Part u v under up_to x
part_of u v under up_to x l m a b = elim (cases_lt v (x - under)) [
  | inl less ↦ record {
    y = v;
    at_least = l;
    at_most = omega arith;
    rest = x - v;
    sum = omega arith;
    under_rest = omega arith;
    up_to_rest =
        omega arith;
  }
  | inr more ↦ record {
    y = x - under;
    at_least = omega arith;
    at_most = more;
    rest = under;
    sum = omega arith;
    under_rest =
        omega arith;
    up_to_rest = m;
  }
]

pub reached_execution : (p : ℤ) (ss : List Step) (x : ℕ) → IsPrice p → AreInRange ss → Reaches ss x (height_of p)
    → (xs : List ℕ) × IsExecution ss xs × Supports p ss xs × (taken ss xs ≡ x)
reached_execution p [] x r a h = let le = h.up_to in ([], tt, tt, omega (arith, le))
reached_execution p (s ∷ ss) x r a h =
    let b = height_of s.price in let k = height_of p in
    let el = height_is s.price a.0 in let ep = height_is p r in
    let part = part_of (if_any (k - b) s.qty) (if_any (suc k - b) s.qty) (units_under k ss) (units_up_to k ss) x
    (under_up_to b k s.qty) (under_most k ss) h.under h.up_to in
    let y = part.y in
    let most = part_most (suc k - b) s.qty in
    let least = part.at_least in let at_most = part.at_most in
    let fits : y ≤ s.qty = omega (arith, most, at_most) in
    let full = λ (l : b < k). (let f = under_full b k s.qty l in let e : y ≡ s.qty = omega (arith, f, least, fits) in e) in
    let none = λ (l : k < b). (let f = up_to_none b k s.qty l in let e : y ≡ 0 = omega (arith, f, at_most) in e) in
    let rest = reached_execution p ss part.rest r a.2 (record { under = part.under_rest; up_to = part.up_to_rest }) in
    let back = taken_back s.side s.qty y fits in
    let same = rest.3 in let sum = part.sum in (
      taken_of s.side s.qty y ∷ rest.0,
      (taken_fits s.side s.qty y fits, rest.1),
      (
        better_full s.side s.price p lowest_price b k s.qty y el ep fits full none,
        worse_none s.side s.price p lowest_price b k s.qty y el ep fits full none,
        rest.2,
      ),
      omega (arith, back, same, sum),
    )

-- ---- the welfare of an execution, by the units that it takes
pub welfare_spent : (ss : List Step) (xs : List ℕ) → AreInRange ss → IsExecution ss xs
    → (welfare_of ss xs +ℤ pos (spent ss xs)) +ℤ lowest_price *ℤ pos (executed_volume Sell ss xs)
    ≡ pos (worth_of ss) +ℤ lowest_price *ℤ pos (executed_volume Buy ss xs)
welfare_spent [] [] a e = refl
welfare_spent [] (x ∷ xs) a e = absurd e
welfare_spent (s ∷ ss) [] a e = absurd e
welfare_spent (s ∷ ss) (x ∷ xs) a e =
    part_welfare s.side s.price lowest_price (height_of s.price) s.qty x (executed_volume Buy ss xs) (executed_volume Sell ss xs)
    (spent ss xs) (worth_of ss) 0 (welfare_of ss xs)
    (height_is s.price a.0) e.0 (welfare_spent ss xs a.2 e.1)
