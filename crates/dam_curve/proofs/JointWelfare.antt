-- The joint welfare of periods: with none, with one more, and how large it is.
use Rattle.std.proofs.Common.{◌≡◌, ℕ, suc, ◌+◌, ◌*◌, ◌<◌, ℤ, pos, neg_ℤ, ◌+ℤ◌, ◌*ℤ◌, ◌≤ℤ◌, ◌<ℤ◌, ◌⊎◌, Option, Some, None, List, [], ◌∷◌}
use Rattle.std.proofs.Common.{length, ap, subst, inl, inr, refl, arith}
use Rattle.std.proofs.lemmas.Int.{ints}
use Rattle.dam_book.specs.Limits.{last_period}
use Rattle.dam_book.specs.declared.order.Side.TheVariants.{Buy, Sell}
use Rattle.dam_hour.specs.declared.step.Step.{Step}
use Rattle.dam_hour.specs.Limits.{most_steps, greatest_value}
use Rattle.dam_hour.specs.Execution.{AreInRange, IsExecution, Balances, IsHour, IsNetVolume, executed_volume}
use Rattle.dam_hour.specs.Best.{greatest_welfare, welfare_of, AreSmall}
use Rattle.dam_curve.specs.declared.segment.Segment.{Segment}
use Rattle.dam_curve.specs.Curve.{both, joint_welfare, IsSegment, AreSegments, IsUnder, IsUnderEach, IsPriced, ArePriced, bottom_of, IsOutside, AreHours, IsSmallSegment, AreSmallSegments, IsCurve, AreWithin}
use Rattle.dam_curve.proofs.ListsOfSegments.{parts_of}
use Rattle.dam_curve.proofs.PeriodSegments.{IsPeriodCurve}

-- ---- no period
abbrev pub flat : ℤ → Segment
flat most = record { most = most; price = pos 0; end_price = pos 0; surplus = pos 0 }

flat_is : (most least : ℤ) → least ≤ℤ most → IsSegment (joint_welfare []) (flat most) least
flat_is most least l = record {
  ordered = l;
  each = λ net low high. ap (λ (z : ℤ). Some z) (let same : pos 0 ≡ pos 0 +ℤ pos 0 *ℤ net = omega (arith, ints) in same);
}

flat_under : (most : ℤ) → IsUnder (joint_welfare []) (flat most)
flat_under most net w e = let is : w ≡ pos 0 = cc in omega (arith, ints, is)

flat_priced : (most least : ℤ) → IsPriced [] (flat most) least
flat_priced most least = record { end_price = refl; inside = λ net low high. refl }

flat_small : (most : ℤ) → IsSmallSegment 0 (flat most)
flat_small most = record {
  price_at_least = omega (arith, ints);
  price_at_most = omega (arith, ints);
  end_price_at_least = omega (arith, ints);
  end_price_at_most = omega (arith, ints);
  surplus_at_least = omega (arith, ints);
  surplus_at_most = omega (arith, ints);
}

pub flat_curve : (least most : ℤ) → IsNetVolume least → IsNetVolume most → least ≤ℤ most
    → IsCurve [] least most
    (flat most ∷ flat least ∷ [])
flat_curve least most a b l = record {
  few = omega arith;
  are_hours = tt;
  least_is = a;
  most_is = b;
  are_segments = (flat_is most least l, (flat_is least least (omega (arith, ints)), tt));
  under = (flat_under most, (flat_under least, tt));
  priced = (flat_priced most least, (flat_priced least least, tt));
  within = λ some. (omega (arith, ints), omega (arith, ints));
  small = (flat_small most, (flat_small least, tt));
  outside = λ net low high o. absurd (beyond net low high o);
}
  where
    beyond : (net : ℤ) → least ≤ℤ net → net ≤ℤ most → (net <ℤ least) ⊎ (most <ℤ net) → ⊥
    beyond net low high (inl less) = absurd (omega (arith, ints, low, less))
    beyond net low high (inr more) = absurd (omega (arith, ints, high, more))

-- ---- a period more
no_left : (x y : Option ℤ) → x ≡ None → both x y ≡ None
no_left None y e = refl
no_left (Some x) y e = absurd (cc)

no_right : (x y : Option ℤ) → y ≡ None → both x y ≡ None
no_right None None e = refl
no_right (Some x) None e = refl
no_right None (Some y) e = refl
no_right (Some x) (Some y) e = absurd (cc)

pub curve_more : (ss : List Step) (ps : List (List Step)) (least most : ℤ) (own old new : List Segment) → IsHour ss → IsPeriodCurve ss own
    → IsCurve ps least most old → length ps < last_period
    → AreSegments (λ net. both (greatest_welfare ss net) (joint_welfare ps net)) new (bottom_of new)
    → IsUnderEach (λ net. both (greatest_welfare ss net) (joint_welfare ps net)) new
    → ArePriced (ss ∷ ps) new (bottom_of new)
    → AreWithin new least most → ((net : ℤ) → IsOutside new net → IsOutside own net ⊎ IsOutside old net)
    → AreSmallSegments (1 + length ps) new → IsCurve (ss ∷ ps) least most new
curve_more ss ps least most own old new hour period curve few segments under priced within outside small = record {
  within = within;
  few = omega (arith, few);
  are_hours = (hour, curve.are_hours);
  least_is = curve.least_is;
  most_is = curve.most_is;
  are_segments = segments;
  under = under;
  priced = priced;
  small = subst (λ n. AreSmallSegments n new) (let same : 1 + length ps ≡ suc (length ps) = omega arith in same) small;
  outside = λ net low high o. none net low high (outside net o);
}
  where
    none : (net : ℤ) → least ≤ℤ net → net ≤ℤ most → IsOutside own net ⊎ IsOutside old net → joint_welfare (ss ∷ ps) net ≡ None
    none net low high (inl o) = no_left (greatest_welfare ss net) (joint_welfare ps net) (period.outside net o)
    none net low high (inr o) = no_right (greatest_welfare ss net) (joint_welfare ps net) (curve.outside net low high o)

-- ---- how large it is
-- the laws on the size of a welfare
pub record SizeLaws : Type 0 where
  pub reached : (ss : List Step) (net w : ℤ) → greatest_welfare ss net ≡ Some w
      → (xs : List ℕ) × IsExecution ss xs × Balances ss net xs × (welfare_of ss xs ≡ w)
  pub small : (ss : List Step) (xs : List ℕ) → AreInRange ss → IsExecution ss xs
      → AreSmall (length ss) (executed_volume Buy ss xs) (executed_volume Sell ss xs) (welfare_of ss xs)

one_small : SizeLaws → (ss : List Step) (net w : ℤ) → IsHour ss → greatest_welfare ss net ≡ Some w
    → (neg_ℤ (pos (most_steps * greatest_value)) ≤ℤ w) × (w ≤ℤ pos (most_steps * greatest_value))
one_small laws ss net w hour e =
    let best = laws.reached ss net w e in
    let small = laws.small ss best.0 hour.in_range best.1 in
    let few = hour.few in let low = small.welfare_at_least in let high = small.welfare_at_most in let is = best.3 in
    (omega (arith, ints, few, low, is), omega (arith, ints, few, high, is))

pub joint_small : SizeLaws → (ps : List (List Step)) (net w : ℤ) → AreHours ps → joint_welfare ps net ≡ Some w
    → (neg_ℤ (pos (length ps * (most_steps * greatest_value))) ≤ℤ w) × (w ≤ℤ pos (length ps * (most_steps * greatest_value)))
joint_small laws [] net w hours e = let is : pos 0 ≡ w = cc in (omega (arith, ints, is), omega (arith, ints, is))
joint_small laws (ss ∷ ps) net w hours e =
    let parts = parts_of (greatest_welfare ss net) (joint_welfare ps net) w e in
    let one = one_small laws ss net parts.left hours.0 parts.left_is in
    let rest = joint_small laws ps net parts.right hours.1 parts.right_is in
    let sum = parts.sum in
    (omega (arith, ints, one.0, rest.0, sum), omega (arith, ints, one.1, rest.1, sum))
