-- Welfare by surplus: an execution that a price supports gains the most at that price, and no other one does.
use Rattle.dam_hour.proofs.Common.{◌≡◌, ℕ, ◌+◌, ◌*◌, ℤ, pos, ◌+ℤ◌, ◌-ℤ◌, ◌*ℤ◌, ◌≤ℤ◌, List, [], ◌∷◌, refl, arith, ints, Side, Buy, Sell, Step, IsExecution}
use Rattle.dam_hour.proofs.Common.{executed_volume, volume_on, Balances, signed, welfare_of, IsBetter, IsWorse, Supports, margin_of, above_zero, full_surplus}
use Rattle.dam_hour.specs.Best.{execution_surplus}
use Rattle.dam_hour.proofs.Numbers.{minus_times, plus_times, times_net, signed_times, full_or_none, at_most_full, full_where_better}
use Rattle.dam_hour.proofs.Numbers.{none_where_worse, margin_better, margin_worse, better_margin, worse_margin}

-- one step's part of `welfare_split`
split_step : (side : Side) (limit p : ℤ) (x s b : ℕ) (w u : ℤ) → w +ℤ p *ℤ pos s ≡ u +ℤ p *ℤ pos b
    → (signed side (limit *ℤ pos x) +ℤ w) +ℤ p *ℤ pos (volume_on Sell side x + s)
    ≡ (signed side ((limit -ℤ p) *ℤ pos x) +ℤ u) +ℤ p *ℤ pos (volume_on Buy side x + b)
split_step Buy limit p x s b w u e =
    let m = minus_times limit p x in
    let l = plus_times p 0 s in let r = plus_times p x b in
    omega (arith, ints, m, l, r)
split_step Sell limit p x s b w u e =
    let m = minus_times limit p x in
    let l = plus_times p x s in let r = plus_times p 0 b in
    omega (arith, ints, m, l, r)

pub welfare_split : (p : ℤ) (ss : List Step) (xs : List ℕ)
    → welfare_of ss xs +ℤ p *ℤ pos (executed_volume Sell ss xs) ≡ execution_surplus p ss xs +ℤ p *ℤ pos (executed_volume Buy ss xs)
welfare_split p [] xs = refl
welfare_split p (s ∷ ss) [] = refl
welfare_split p (s ∷ ss) (x ∷ xs) =
    split_step s.side s.price p x (executed_volume Sell ss xs) (executed_volume Buy ss xs) (welfare_of ss xs) (execution_surplus p ss xs)
    (welfare_split p ss xs)

pub welfare_balanced : (p net : ℤ) (ss : List Step) (xs : List ℕ) → Balances ss net xs
    → welfare_of ss xs ≡ execution_surplus p ss xs +ℤ p *ℤ net
welfare_balanced p net ss xs e =
    let m = times_net p net (executed_volume Buy ss xs) (executed_volume Sell ss xs) e in
    let w = welfare_split p ss xs in
    omega (arith, ints, m, w)

-- a step's gain, by its margin
gain_by_margin : (side : Side) (limit p : ℤ) (x : ℕ) → signed side ((limit -ℤ p) *ℤ pos x) ≡ margin_of side limit p *ℤ pos x
gain_by_margin side limit p x = signed_times side (limit -ℤ p) x

pub surplus_at_most : (p : ℤ) (ss : List Step) (xs : List ℕ) → IsExecution ss xs → execution_surplus p ss xs ≤ℤ pos (full_surplus p ss)
surplus_at_most p [] [] e = omega (arith, ints)
surplus_at_most p [] (x ∷ xs) e = absurd e
surplus_at_most p (s ∷ ss) [] e = absurd e
surplus_at_most p (s ∷ ss) (x ∷ xs) e =
    let g = gain_by_margin s.side s.price p x in
    let m = at_most_full (margin_of s.side s.price p) x s.qty e.0 in
    let r = surplus_at_most p ss xs e.1 in
    omega (arith, ints, g, m, r)

pub surplus_supported : (p : ℤ) (ss : List Step) (xs : List ℕ) → IsExecution ss xs → Supports p ss xs
    → execution_surplus p ss xs ≡ pos (full_surplus p ss)
surplus_supported p [] [] e h = refl
surplus_supported p [] (x ∷ xs) e h = absurd e
surplus_supported p (s ∷ ss) [] e h = absurd e
surplus_supported p (s ∷ ss) (x ∷ xs) e h =
    let g = gain_by_margin s.side s.price p x in
    let m = full_or_none (margin_of s.side s.price p) x s.qty (λ l. h.0 (better_margin s.side s.price p l))
    (λ l. h.1 (worse_margin s.side s.price p l)) in
    let r = surplus_supported p ss xs e.1 h.2 in
    omega (arith, ints, g, m, r)

pub supported_from_surplus : (p : ℤ) (ss : List Step) (xs : List ℕ) → IsExecution ss xs
    → execution_surplus p ss xs ≡ pos (full_surplus p ss) → Supports p ss xs
supported_from_surplus p [] [] e h = tt
supported_from_surplus p [] (x ∷ xs) e h = absurd e
supported_from_surplus p (s ∷ ss) [] e h = absurd e
supported_from_surplus p (s ∷ ss) (x ∷ xs) e h =
    let g = gain_by_margin s.side s.price p x in
    let m = at_most_full (margin_of s.side s.price p) x s.qty e.0 in
    let r = surplus_at_most p ss xs e.1 in
    let here : margin_of s.side s.price p *ℤ pos x ≡ pos (above_zero (margin_of s.side s.price p) * s.qty) =
    omega (arith, ints, g, m, r, h) in
    let there : execution_surplus p ss xs ≡ pos (full_surplus p ss) = omega (arith, ints, g, m, r, h) in (
      (λ l. full_where_better (margin_of s.side s.price p) x s.qty here (margin_better s.side s.price p l)),
      (λ l. none_where_worse (margin_of s.side s.price p) x s.qty here (margin_worse s.side s.price p l)),
      supported_from_surplus p ss xs e.1 there,
    )

-- an execution that a price supports has the greatest welfare of all that balance
pub supported_greatest : (p net : ℤ) (ss : List Step) (xs ys : List ℕ) → IsExecution ss xs → Balances ss net xs → Supports p ss xs
    → IsExecution ss ys → Balances ss net ys → welfare_of ss ys ≤ℤ welfare_of ss xs
supported_greatest p net ss xs ys ex bx sx ey by =
    omega (
      arith,
      ints,
      welfare_balanced p net ss xs bx,
      welfare_balanced p net ss ys by,
      surplus_supported p ss xs ex sx,
      surplus_at_most p ss ys ey,
    )

-- and the price supports an execution that has that welfare
pub equals_supported : (p net : ℤ) (ss : List Step) (xs ys : List ℕ) → IsExecution ss xs → Balances ss net xs → Supports p ss xs
    → IsExecution ss ys → Balances ss net ys → welfare_of ss xs ≤ℤ welfare_of ss ys → Supports p ss ys
equals_supported p net ss xs ys ex bx sx ey by le =
    let m : execution_surplus p ss ys ≡ pos (full_surplus p ss) =
    omega (
      arith,
      ints,
      welfare_balanced p net ss xs bx,
      welfare_balanced p net ss ys by,
      surplus_supported p ss xs ex sx,
      surplus_at_most p ss ys ey,
    ) in
    supported_from_surplus p ss ys ey m

-- a step's part of `supported_between`: a step that is better than a price between is better than one of
-- the ends
better_between : (side : Side) (limit low p high : ℤ) (x q : ℕ) → low ≤ℤ p → p ≤ℤ high → (IsBetter side limit low → x ≡ q)
    → (IsBetter side limit high → x ≡ q) → IsBetter side limit p → x ≡ q
better_between Buy limit low p high x q l h f g b = f (omega (arith, ints))
better_between Sell limit low p high x q l h f g b = g (omega (arith, ints))

worse_between : (side : Side) (limit low p high : ℤ) (x : ℕ) → low ≤ℤ p → p ≤ℤ high → (IsWorse side limit low → x ≡ 0)
    → (IsWorse side limit high → x ≡ 0) → IsWorse side limit p → x ≡ 0
worse_between Buy limit low p high x l h f g b = g (omega (arith, ints))
worse_between Sell limit low p high x l h f g b = f (omega (arith, ints))

pub supported_between : (low p high : ℤ) (ss : List Step) (xs : List ℕ) → low ≤ℤ p → p ≤ℤ high → Supports low ss xs → Supports high ss xs
    → Supports p ss xs
supported_between low p high [] xs l h f g = tt
supported_between low p high (s ∷ ss) [] l h f g = tt
supported_between low p high (s ∷ ss) (x ∷ xs) l h f g = (
  better_between s.side s.price low p high x s.qty l h f.0 g.0,
  worse_between s.side s.price low p high x l h f.1 g.1,
  supported_between low p high ss xs l h f.2 g.2,
)

-- ---- the laws of the surplus
pub surplus_at_least_zero : (p : ℤ) (ss : List Step) (xs : List ℕ) → IsExecution ss xs → Supports p ss xs
    → pos 0 ≤ℤ execution_surplus p ss xs
surplus_at_least_zero p ss xs e h = let s = surplus_supported p ss xs e h in omega (arith, ints, s)

pub surplus_greatest : (p : ℤ) (ss : List Step) (xs ys : List ℕ) → IsExecution ss xs → Supports p ss xs → IsExecution ss ys
    → execution_surplus p ss ys ≤ℤ execution_surplus p ss xs
surplus_greatest p ss xs ys ex h ey = let s = surplus_supported p ss xs ex h in let m = surplus_at_most p ss ys ey in
    omega (arith, ints, s, m)
