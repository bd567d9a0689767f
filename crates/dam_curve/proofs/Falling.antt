-- The joint price falls as the net volume rises, so that it lies between the prices at the ends of a curve.
use Rattle.std.proofs.Common.{◌≡◌, ℕ, zero, suc, ◌-◌, ◌*◌, ◌<◌, ℤ, pos, ◌+ℤ◌, ◌≤ℤ◌, neg_ℤ, to_z, of_z, w32, Some, List, [], ◌∷◌, length, get_or, ap, ap₂, ◌∙◌, sym, subst, refl, arith}
use Rattle.std.proofs.lemmas.Int.{ints}
use Rattle.dam_book.specs.Limits.{last_period}
use Rattle.dam_hour.specs.Best.{greatest_welfare}
use Rattle.dam_hour.specs.Limits.{greatest_price}
use Rattle.dam_hour.specs.Execution.{IsBalanced}
use Rattle.dam_hour.specs.Price.{AreEnds, price_between}
use Rattle.dam_hour.specs.declared.step.Step.{Step}
use Rattle.dam_curve.specs.declared.curves.Curve.{Curve}
use Rattle.dam_curve.specs.declared.price_range.PriceRange.{PriceRange}
use Rattle.dam_curve.specs.declared.segment.Segment.{Segment}
use Rattle.dam_curve.specs.Curve.{both, joint_welfare, ArePriced, CurvesState, IsCurve, IsCurveAt, segments_at, bottom_of, end_of}
use Rattle.dam_curve.specs.JointPrice.{IsJointPrice}
use Rattle.dam_curve.specs.PriceRange.{ArePricesIn}
use Rattle.dam_curve.proofs.Adding.{end_at}
use Rattle.dam_curve.proofs.ListsOfSegments.{bottom_at}
use Rattle.dam_curve.proofs.LookingUp.{some_there, count_is, small_wide}

-- the law of the price of one period
abbrev pub PriceFalls : Type 0
PriceFalls = (ss : List Step) (net other low high other_low other_high : ℤ) → AreEnds ss net low high → AreEnds ss other other_low other_high
    → net ≤ℤ other → price_between other_low other_high ≤ℤ price_between low high

-- and of the prices of several
abbrev pub JointPriceFalls : Type 0
JointPriceFalls = (ps : List (List Step)) (net other p q : ℤ) → IsJointPrice ps net p → IsJointPrice ps other q → net ≤ℤ other → q ≤ℤ p

pub joint_falls : PriceFalls → (ps : List (List Step)) (net other p q : ℤ) → IsJointPrice ps net p → IsJointPrice ps other q → net ≤ℤ other
    → q ≤ℤ p
joint_falls law [] net other p q e f l = omega (arith, ints, e, f)
joint_falls law (ss ∷ ps) net other p q e f l =
    let here = law ss net other e.0 e.1 f.0 f.1 e.3 f.3 l in
    let rest = joint_falls law ps net other e.2 f.2 e.4 f.4 l in
    omega (arith, ints, here, rest, e.5, f.5)

-- ---- at a joint price there is a joint welfare
abbrev pub WelfareIsSome : Type 0
WelfareIsSome = (ss : List Step) (net : ℤ) → IsBalanced ss net → (w : ℤ) × (greatest_welfare ss net ≡ Some w)

pub joint_some : WelfareIsSome → (ps : List (List Step)) (net p : ℤ) → IsJointPrice ps net p → (w : ℤ) × (joint_welfare ps net ≡ Some w)
joint_some law [] net p e = (pos 0, refl)
joint_some law (ss ∷ ps) net p e =
    let s = e.3.low_supports in
    let here = law ss net (s.volumes, s.execution, s.balance) in
    let rest = joint_some law ps net e.2 e.4 in
    (here.0 +ℤ rest.0, ap₂ both here.1 rest.1)

-- ---- the prices at the ends
pub end_price_at : (ps : List (List Step)) (ls : List Segment) (least : ℤ) (i : ℕ) (d : Segment) → ArePriced ps ls least → i < length ls
    → IsJointPrice ps (get_or ls i d).most (get_or ls i d).end_price
end_price_at ps [] least i d are l = absurd (omega (arith, l))
end_price_at ps (s ∷ ls) least zero d are l = are.0.end_price
end_price_at ps (s ∷ ls) least (suc i) d are l = end_price_at ps ls least i d are.1 (omega (arith, l))

pub none_in : WelfareIsSome → (curves : CurvesState) (curve : Curve) (ps : List (List Step)) (least most : ℤ) (range : PriceRange)
    → IsCurveAt curves curve ps least most → curve.count ≡ 0 → ArePricesIn ps least most range
none_in law curves curve ps least most range is none net p low high e =
    let some = joint_some law ps net p e in
    let within = some_there curves curve ps least most net some.0 is some.1 low high in
    let apart = is.none none in
    absurd (omega (arith, ints, within.0, within.1, apart))

pub ends_in : JointPriceFalls → WelfareIsSome → (curves : CurvesState) (curve : Curve) (ps : List (List Step)) (least most : ℤ) (range : PriceRange)
    (ls : List Segment) (last : ℕ) (d : Segment) → IsCurveAt curves curve ps least most → 0 < curve.count
    → ls ≡ segments_at curves.segments curve → suc last ≡ length ls
    → range.lowest ≡ (get_or ls 0 d).end_price → range.highest ≡ (get_or ls last d).end_price
    → ArePricesIn ps least most range
ends_in falls law curves curve ps least most range ls last d is some same end lowest highest net p low high at =
    let found = joint_some law ps net p at in
    let within = some_there curves curve ps least most net found.0 is found.1 low high in
    let ends = is.ends some in
    let priced : ArePriced ps ls (bottom_of ls) = subst (λ (xs : List Segment). ArePriced ps xs (bottom_of xs)) (sym same) is.is_curve.priced in
    let bottom = ends.0 ∙ ap bottom_of (sym same) ∙ bottom_at ls last d end in
    let top = ends.1 ∙ ap (λ (xs : List Segment). end_of xs (pos 0)) (sym same) ∙ end_at ls d (omega (arith, end)) in
    let under = falls ps net (get_or ls 0 d).most p (get_or ls 0 d).end_price at
    (end_price_at ps ls (bottom_of ls) 0 d priced (omega (arith, end))) (omega (arith, ints, top, within.1)) in
    let over = falls ps (get_or ls last d).most net (get_or ls last d).end_price p
    (end_price_at ps ls (bottom_of ls) last d priced (omega (arith, end))) at (omega (arith, ints, bottom, within.0)) in
    (omega (arith, ints, under, lowest), omega (arith, ints, over, highest))

-- the end price of a segment, as a number of 32 bits
pub end_price_narrow : (ps : List (List Step)) (least most : ℤ) (ls : List Segment) (i : ℕ) (d : Segment) → IsCurve ps least most ls → i < length ls
    → (neg_ℤ (pos (last_period * greatest_price)) ≤ℤ to_z w32 (of_z w32 (get_or ls i d).end_price))
    × (to_z w32 (of_z w32 (get_or ls i d).end_price) ≤ℤ pos (last_period * greatest_price))
    × (to_z w32 (of_z w32 (get_or ls i d).end_price) ≡ (get_or ls i d).end_price)
end_price_narrow ps least most ls i d is l =
    let small = small_wide ps least most ls i d is l in
    let a = small.end_price_at_least in let b = small.end_price_at_most in
    (omega (arith, ints, a, b), omega (arith, ints, a, b), omega (arith, ints, a, b))

-- a curve that has segments has a last one
pub last_there : (curves : CurvesState) (curve : Curve) (ps : List (List Step)) (least most : ℤ) (ls : List Segment)
    → IsCurveAt curves curve ps least most → 0 < curve.count → ls ≡ segments_at curves.segments curve
    → suc (length ls - 1) ≡ length ls
last_there curves curve ps least most ls is some same =
    let long = ap length same ∙ count_is curves.segments curve is.within in omega (arith, some, long)
