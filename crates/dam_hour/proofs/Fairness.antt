-- One order at a supporting price and in the best execution.
use Rattle.dam_hour.proofs.Common.{◌≡◌, ℕ, zero, suc, ◌+◌, ◌*◌, ◌<◌, ◌≤◌, ℤ, pos, ◌+ℤ◌, ◌-ℤ◌, ◌*ℤ◌, ◌≤ℤ◌, Some, List, [], ◌∷◌, inl, inr, ap, ap₂, ◌∙◌, sym}
use Rattle.dam_hour.proofs.Common.{subst, refl, arith, slice_get, ints, cases_lt, Side, Buy, Sell, Step, IsExecution, executed_volume, volume_on, signed}
use Rattle.dam_hour.proofs.Common.{welfare_of, AtMostInOrder, IsBest, IsBetter, IsWorse, Supports, price_between, margin_of, above_zero}
use Rattle.dam_hour.specs.Market.{order_surplus, IsExecutedAt}
use Rattle.dam_hour.proofs.Numbers.{signed_times, full_or_none, at_most_full, better_margin, worse_margin}
use Rattle.dam_hour.proofs.Joining.{volume_at_most}
use Rattle.dam_hour.proofs.Midpoint.{price_lies_between}
use Rattle.dam_hour.proofs.Supporting.{ends_support_best}
use Rattle.dam_hour.proofs.Existence.{best_unique}

-- ---- one order at the price
-- whole if better, none if worse
abbrev pub IsFilledBy : ℤ → Step → ℕ → Type 0
IsFilledBy p s x = (IsBetter s.side s.price p → x ≡ s.qty) × (IsWorse s.side s.price p → x ≡ 0)

supported_at : (p : ℤ) (ss : List Step) (xs : List ℕ) (i : ℕ) (s : Step) (x : ℕ) → Supports p ss xs → slice_get ss i ≡ Some s
    → slice_get xs i ≡ Some x → IsFilledBy p s x
supported_at p [] xs i s x h at is = absurd (cc)
supported_at p (t ∷ ss) [] i s x h at is = absurd (cc)
supported_at p (t ∷ ss) (y ∷ xs) zero s x h at is =
    let same : t ≡ s = cc in
    let volume : y ≡ x = cc in
    subst (λ (r : Step). IsFilledBy p r x) same (subst (λ (z : ℕ). IsFilledBy p t z) volume (h.0, h.1))
supported_at p (t ∷ ss) (y ∷ xs) (suc i) s x h at is = supported_at p ss xs i s x h.2 at is

pub filled_at : (ss : List Step) (net p : ℤ) (i : ℕ) (s : Step) (x : ℕ) → IsExecutedAt ss net p i s x → IsFilledBy p s x
filled_at ss net p i s x is =
    let between = price_lies_between is.low is.high (is.ends.least is.high is.ends.high_supports) in
    let supports = ends_support_best ss net is.low is.high (price_between is.low is.high) is.volumes is.ends is.best between.0 between.1 in
    supported_at p ss is.volumes i s x (subst (λ (z : ℤ). Supports z ss is.volumes) (sym is.price_is) supports) is.stands is.volume_is

gain_is_full : (p : ℤ) (s : Step) (x : ℕ) → IsFilledBy p s x → order_surplus p s x ≡ pos (above_zero (margin_of s.side s.price p) * s.qty)
gain_is_full p s x h =
    signed_times s.side (s.price -ℤ p) x
    ∙ full_or_none (margin_of s.side s.price p) x s.qty (λ l. h.0 (better_margin s.side s.price p l)) (λ l. h.1 (worse_margin s.side s.price p l))

gain_at_most : (p : ℤ) (s : Step) (y : ℕ) → y ≤ s.qty → order_surplus p s y ≤ℤ pos (above_zero (margin_of s.side s.price p) * s.qty)
gain_at_most p s y l =
    let e = signed_times s.side (s.price -ℤ p) y in
    let m = at_most_full (margin_of s.side s.price p) y s.qty l in
    omega (arith, ints, e, m)

pub none_loses : (ss : List Step) (net p : ℤ) (i : ℕ) (s : Step) (x : ℕ) → IsExecutedAt ss net p i s x → pos 0 ≤ℤ order_surplus p s x
none_loses ss net p i s x is = let full = gain_is_full p s x (filled_at ss net p i s x is) in omega (arith, ints, full)

pub no_better : (ss : List Step) (net p : ℤ) (i : ℕ) (s : Step) (x y : ℕ) → IsExecutedAt ss net p i s x → y ≤ s.qty
    → order_surplus p s y ≤ℤ order_surplus p s x
no_better ss net p i s x y is l =
    let full = gain_is_full p s x (filled_at ss net p i s x is) in
    let most = gain_at_most p s y l in
    omega (arith, ints, full, most)

-- ---- one unit from a later order to an earlier one of its side and limit
-- ys has one unit less of this order than xs
record IsOneLess (ss : List Step) (xs ys : List ℕ) (s : Step) : Type 0 where
  execution : IsExecution ss ys
  volume : (side : Side) → volume_on side s.side 1 + executed_volume side ss ys ≡ executed_volume side ss xs
  welfare : signed s.side s.price +ℤ welfare_of ss ys ≡ welfare_of ss xs

one_more_on : (side own : Side) (m : ℕ) → volume_on side own (suc m) ≡ volume_on side own 1 + volume_on side own m
one_more_on Buy Buy m = omega arith
one_more_on Sell Sell m = omega arith
one_more_on Buy Sell m = omega arith
one_more_on Sell Buy m = omega arith

one_more_value : (side : Side) (limit : ℤ) (m : ℕ) → signed side (limit *ℤ pos (suc m)) ≡ signed side limit +ℤ signed side (limit *ℤ pos m)
one_more_value Buy limit m = omega (arith, ints)
one_more_value Sell limit m = omega (arith, ints)

lowered : (ss : List Step) (xs : List ℕ) (k : ℕ) (s : Step) (m : ℕ) → IsExecution ss xs → slice_get ss k ≡ Some s
    → slice_get xs k ≡ Some (suc m) → (ys : List ℕ) × IsOneLess ss xs ys s
lowered [] xs k s m e at is = absurd (cc)
lowered (t ∷ ss) [] k s m e at is = absurd e
lowered (t ∷ ss) (x ∷ xs) zero s m e at is =
    let same : s ≡ t = cc in
    let one : x ≡ suc m = cc in
    let fit = e.0 in
    let side_is = ap (λ (r : Step). r.side) same in let price_is = ap (λ (r : Step). r.price) same in (
      m ∷ xs,
      record {
        execution = (omega (arith, one, fit), e.1);
        volume = λ side.
            (let own = ap (λ (z : Side). volume_on side z 1) side_is in
            let more = ap (λ (z : ℕ). volume_on side t.side z) one in
            let step = one_more_on side t.side m in
            omega (arith, own, more, step));
        welfare =
            (let own = ap (λ (r : Step). signed r.side r.price) same in
            let more = ap (λ (z : ℕ). signed t.side (t.price *ℤ pos z)) one in
            let step = one_more_value t.side t.price m in
            omega (arith, ints, own, more, step));
      },
    )
lowered (t ∷ ss) (x ∷ xs) (suc k) s m e at is =
    let rest = lowered ss xs k s m e.1 at is in (
      x ∷ rest.0,
      record {
        execution = (e.0, rest.1.execution);
        volume = λ side. (let less = rest.1.volume side in omega (arith, less));
        welfare = (let less = rest.1.welfare in omega (arith, ints, less));
      },
    )

-- the same totals, and at the first place where they differ ys has the greater volume
record IsAhead (ss : List Step) (xs ys : List ℕ) : Type 0 where
  execution : IsExecution ss ys
  volume : (side : Side) → executed_volume side ss ys ≡ executed_volume side ss xs
  welfare : welfare_of ss ys ≡ welfare_of ss xs
  first : AtMostInOrder ys xs → ⊥

ahead : (ss : List Step) (xs : List ℕ) (i j : ℕ) (s t : Step) (x m : ℕ) → IsExecution ss xs → i < j → slice_get ss i ≡ Some s
    → slice_get ss j ≡ Some t → slice_get xs i ≡ Some x → slice_get xs j ≡ Some (suc m) → s.side ≡ t.side → s.price ≡ t.price → x < s.qty
    → (ys : List ℕ) × IsAhead ss xs ys
ahead [] xs i j s t x m e l at there is is_there side price less = absurd (cc)
ahead (r ∷ ss) [] i j s t x m e l at there is is_there side price less = absurd e
ahead (r ∷ ss) (y ∷ xs) i zero s t x m e l at there is is_there side price less = absurd (omega (arith, l))
ahead (r ∷ ss) (y ∷ xs) zero (suc k) s t x m e l at there is is_there side price less =
    let rest = lowered ss xs k t m e.1 there is_there in
    let same : r ≡ s = cc in
    let volume : y ≡ x = cc in
    let room = ap (λ (u : Step). u.qty) same in
    let side_is = ap (λ (u : Step). u.side) same ∙ side in let price_is = ap (λ (u : Step). u.price) same ∙ price in (
      suc y ∷ rest.0,
      record {
        execution = (omega (arith, room, volume, less), rest.1.execution);
        volume = λ own.
            (let lower = rest.1.volume own in
            let step = one_more_on own r.side y in
            let unit = ap (λ (z : Side). volume_on own z 1) side_is in
            omega (arith, lower, step, unit));
        welfare =
            (let lower = rest.1.welfare in
            let step = one_more_value r.side r.price y in
            let unit = ap₂ (λ (z : Side) (p : ℤ). signed z p) side_is price_is in
            omega (arith, ints, lower, step, unit));
        first = λ h. (let no = h.0 in let wrong : 0 < 0 = omega (arith, no) in omega (arith, wrong));
      },
    )
ahead (r ∷ ss) (y ∷ xs) (suc i) (suc j) s t x m e l at there is is_there side price less =
    let rest = ahead ss xs i j s t x m e.1 (omega (arith, l)) at there is is_there side price less in (
      y ∷ rest.0,
      record {
        execution = (e.0, rest.1.execution);
        volume = λ own. (let same = rest.1.volume own in omega (arith, same));
        welfare = (let same = rest.1.welfare in omega (arith, ints, same));
        first = λ h. rest.1.first (h.1 refl);
      },
    )

served_first : (ss : List Step) (net : ℤ) (xs : List ℕ) (i j : ℕ) (s t : Step) (x y : ℕ) → IsBest ss net xs → i < j
    → slice_get ss i ≡ Some s → slice_get ss j ≡ Some t → slice_get xs i ≡ Some x → slice_get xs j ≡ Some y → s.side ≡ t.side
    → s.price ≡ t.price → 0 < y → x ≡ s.qty
served_first ss net xs i j s t x zero best l at there is is_there side price some = absurd (omega (arith, some))
served_first ss net xs i j s t x (suc m) best l at there is is_there side price some =
    let fits = volume_at_most ss xs i s x best.execution at is in
    elim (cases_lt x s.qty) as (λ _. x ≡ s.qty) [
      | inl less ↦
          (let other = ahead ss xs i j s t x m best.execution l at there is is_there side price less in
          let buys = other.1.volume Buy in let sells = other.1.volume Sell in let balance = best.balance in
          let below = best.greatest other.0 other.1.execution (omega (arith, ints, buys, sells, balance)) in
          absurd (other.1.first (below.by_order other.1.welfare buys)))
      | inr full ↦ omega (arith, fits, full)
    ]

pub in_turn : (ss : List Step) (net p : ℤ) (i j : ℕ) (s t : Step) (x y : ℕ) → IsExecutedAt ss net p i s x → IsExecutedAt ss net p j t y
    → i < j → s.side ≡ t.side → s.price ≡ t.price → 0 < y → x ≡ s.qty
in_turn ss net p i j s t x y first second l side price some =
    let one = best_unique ss net second.volumes first.volumes second.best first.best in
    served_first ss net first.volumes i j s t x y first.best l first.stands second.stands first.volume_is
    (subst (λ (xs : List ℕ). slice_get xs j ≡ Some y) one second.volume_is) side price some
