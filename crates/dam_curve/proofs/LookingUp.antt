-- The segments of one curve among those of many, and the one that holds at a net volume.
use Rattle.std.proofs.Common.{◌≡◌, ℕ, suc, ◌+◌, ◌-◌, ◌*◌, ◌<◌, ◌≤◌, ℤ, pos, negsuc, neg_ℤ, ◌+ℤ◌, ◌*ℤ◌, ◌≤ℤ◌, ◌<ℤ◌, ◌⊎◌, Option, Some, None}
use Rattle.std.proofs.Common.{FitsSigned, to_z, of_z, w32, w64, List, [], ◌∷◌, ◌++◌, length, length-append, length-drop, take, drop, get_or, ap, ◌∙◌, sym, subst, inl, inr, arith}
use Rattle.std.specs.List.{slice_range}
use Rattle.std.proofs.lemmas.Int.{ints, by_lt_z, int_min_is, int_max_is}
use Rattle.std.specs.Int.{int_min, int_max}
use Rattle.std.proofs.lemmas.Bool.{cases_lt}
use Rattle.std.proofs.lemmas.List.{take_all, drop_at, length-take-le}
use Rattle.dam_book.specs.Limits.{last_period}
use Rattle.dam_hour.specs.declared.step.Step.{Step}
use Rattle.dam_hour.specs.Limits.{greatest_price}
use Rattle.dam_curve.specs.declared.segment.Segment.{Segment}
use Rattle.dam_curve.specs.declared.curves.Curve.{Curve}
use Rattle.dam_curve.specs.declared.line.Line.{Line}
use Rattle.dam_curve.specs.Curve.{joint_welfare, segment_at, end_of, AreSegments, ArePriced, bottom_of, IsOutside, greatest_segment_surplus, IsCurve, segments_at}
use Rattle.dam_curve.specs.Curve.{IsSmallSegment, CurvesState, IsCurveAt}
use Rattle.dam_curve.proofs.ListsOfSegments.{any_segment, bottom_at, small_at, price_is}
use Rattle.dam_curve.proofs.PeriodSegments.{times_small}
use Rattle.dam_curve.proofs.Adding.{segment_here, priced_here, place_from, stands_from, last_from, bottom_under, end_at, outside_from}
use Rattle.dam_curve.specs.JointPrice.{IsJointPrice}
use Rattle.dam_curve.specs.Line.{line_value, IsSmallLine}
use Rattle.dam_curve.specs.inside.Segments.{price_at}

-- ---- the segments of one curve
part_behind : (xs ys : List Segment) (n m : ℕ) → n ≡ length xs → m ≡ n + length ys → slice_range (xs ++ ys) n m ≡ ys
part_behind xs ys n m e f = ap (take (m - n)) (drop_at xs ys n (sym e)) ∙ take_all (m - n) ys (omega (arith, f))

pub curve_added : (old ls : List Segment) (all : CurvesState) (curve : Curve) (ps : List (List Step)) (least most : ℤ) (d : Segment)
    → all.segments ≡ old ++ ls → curve.first ≡ length old → curve.count ≡ length ls → 0 < length ls
    → curve.least ≡ (get_or ls (length ls - 1) d).most → curve.most ≡ (get_or ls 0 d).most
    → IsCurve ps least most ls → IsCurveAt all curve ps least most
curve_added old ls all curve ps least most d e first count some bottom top is =
    let at : segments_at all.segments curve ≡ ls = ap (λ ws. segments_at ws curve) e
    ∙ part_behind old ls curve.first (curve.first + curve.count) first (omega (arith, count)) in
    let long = ap length e ∙ length-append old ls in
    record {
      within = omega (arith, first, count, long);
      is_curve = subst (IsCurve ps least most) (sym at) is;
      ends = λ l. (
        bottom ∙ sym (bottom_at ls (length ls - 1) d (omega (arith, some))) ∙ ap bottom_of (sym at),
        top ∙ sym (end_at ls d some) ∙ ap (λ ws. end_of ws (pos 0)) (sym at),
      );
      none = λ l. absurd (omega (arith, l, count, some));
    }

-- ---- a curve among more of them
pub count_is : (segments : List Segment) (curve : Curve) → curve.first + curve.count ≤ length segments
    → length (segments_at segments curve) ≡ curve.count
count_is segments curve l =
    let long = length-drop curve.first segments in
    let part = length-take-le (curve.first + curve.count - curve.first) (drop curve.first segments) (omega (arith, long, l)) in
    omega (arith, part)

pub no_segment : (ls : List Segment) (net : ℤ) → length ls ≡ 0 → IsOutside ls net
no_segment [] net e = tt
no_segment (segment ∷ ls) net e = absurd (omega (arith, e))

-- ---- outside of the curve
pub none_there : (curves : CurvesState) (curve : Curve) (ps : List (List Step)) (least most net : ℤ) → IsCurveAt curves curve ps least most
    → least ≤ℤ net → net ≤ℤ most → (net <ℤ curve.least) ⊎ (curve.most <ℤ net) → None ≡ joint_welfare ps net
none_there curves curve ps least most net is low high o =
    sym (is.is_curve.outside net low high (elim (cases_lt 0 curve.count) [
      | inl some ↦
          (let ends = is.ends some in let long = count_is curves.segments curve is.within in
          outside_from (segments_at curves.segments curve) net (omega (arith, some, long))
          (moved curve.least curve.most _ _ o ends.0 ends.1))
      | inr none ↦ (let long = count_is curves.segments curve is.within in
          no_segment (segments_at curves.segments curve) net (omega (arith, none, long)))
    ]))
  where
    moved : (b t x y : ℤ) → (net <ℤ b) ⊎ (t <ℤ net) → b ≡ x → t ≡ y → (net <ℤ x) ⊎ (y <ℤ net)
    moved b t x y (inl less) e k = inl (omega (arith, ints, less, e))
    moved b t x y (inr more) e k = inr (omega (arith, ints, more, k))

pub some_there : (curves : CurvesState) (curve : Curve) (ps : List (List Step)) (least most net w : ℤ)
    → IsCurveAt curves curve ps least most → joint_welfare ps net ≡ Some w → least ≤ℤ net → net ≤ℤ most → (curve.least ≤ℤ net) × (net ≤ℤ curve.most)
some_there curves curve ps least most net w is e low high = (
  by_lt_z net curve.least (λ less. absurd (none (none_there curves curve ps least most net is low high (inl less)))) (λ more. more),
  by_lt_z curve.most net (λ more. absurd (none (none_there curves curve ps least most net is low high (inr more)))) (λ less. less),
)
  where
    none : None ≡ joint_welfare ps net → ⊥
    none k = absurd cc

-- between the ends of segments one of them holds
holds_within : (f : ℤ → Option ℤ) (s : Segment) (ls : List Segment) (bottom net : ℤ) → AreSegments f (s ∷ ls) bottom → bottom ≤ℤ net
    → net ≤ℤ s.most → (w : ℤ) × (f net ≡ Some w)
holds_within f s [] bottom net are low high = (segment_at s net, are.0.each net low high)
holds_within f s (t ∷ ls) bottom net are low high =
    by_lt_z t.most net (λ more. (segment_at s net, are.0.each net (omega (arith, ints, more)) high))
    (λ less. holds_within f t ls bottom net are.1 low less)

pub welfare_there : (curves : CurvesState) (curve : Curve) (ps : List (List Step)) (least most net : ℤ) → IsCurveAt curves curve ps least most
    → curve.least ≤ℤ net → net ≤ℤ curve.most → (w : ℤ) × (joint_welfare ps net ≡ Some w)
welfare_there curves curve ps least most net is low high = elim (cases_lt 0 curve.count) [
  | inl some ↦
      (let ends = is.ends some in let long = count_is curves.segments curve is.within in
      among (segments_at curves.segments curve) is.is_curve.are_segments (omega (arith, some, long)) (omega (arith, ints, low, ends.0))
      (omega (arith, ints, high, ends.1)))
  | inr none ↦ (let apart = is.none (omega (arith, none)) in absurd (omega (arith, ints, low, high, apart)))
]
  where
    among : (ls : List Segment) → AreSegments (joint_welfare ps) ls (bottom_of ls) → 0 < length ls → bottom_of ls ≤ℤ net
        → net ≤ℤ end_of ls (pos 0) → (w : ℤ) × (joint_welfare ps net ≡ Some w)
    among [] are some under over = absurd (omega (arith, some))
    among (s ∷ ls) are some under over = holds_within (joint_welfare ps) s ls (bottom_of (s ∷ ls)) net are under over

pub ordered_there : (curves : CurvesState) (curve : Curve) (ps : List (List Step)) (least most : ℤ) → IsCurveAt curves curve ps least most
    → 0 < curve.count → curve.least ≤ℤ curve.most
ordered_there curves curve ps least most is some =
    let ls = segments_at curves.segments curve in
    let ends = is.ends some in let long = count_is curves.segments curve is.within in
    let under = bottom_under (joint_welfare ps) ls 0 any_segment is.is_curve.are_segments (omega (arith, some, long)) in
    let first = end_at ls any_segment (omega (arith, some, long)) in
    omega (arith, ints, ends.0, ends.1, under, first)

-- the nearest net volume to one between the two ends
pub nearest : (bottom top net b t low at : ℤ) → bottom ≤ℤ top → b ≡ bottom → t ≡ top → low ≡ int_max net b → at ≡ int_min low t
    → (bottom ≤ℤ at) × (at ≤ℤ top)
nearest bottom top net b t low at ordered e k over under =
    let greatest = int_max_is net b in let least = int_min_is low t in
    (omega (arith, ints, ordered, e, k, over, under, greatest, least), omega (arith, ints, ordered, e, k, over, under, greatest, least))

-- the net volume lies between the ends of the segments
pub ends_there : (curves : CurvesState) (curve : Curve) (ps : List (List Step)) (least most net at : ℤ)
    → IsCurveAt curves curve ps least most → at ≡ net → curve.least ≤ℤ net → net ≤ℤ curve.most
    → (bottom_of (segments_at curves.segments curve) ≤ℤ at) × (at ≤ℤ end_of (segments_at curves.segments curve) (pos 0))
ends_there curves curve ps least most net at is same low high = elim (cases_lt 0 curve.count) [
  | inl some ↦ (let ends = is.ends some in (omega (arith, ints, ends.0, low, same), omega (arith, ints, ends.1, high, same)))
  | inr none ↦ (let apart = is.none (omega (arith, none)) in absurd (omega (arith, ints, apart, low, high)))
]

-- ---- the segment at a net volume
pub record IsWithin (ls : List Segment) (net : ℤ) : Type 0 where
  pub some : 0 < length ls
  pub first : (d : Segment) → net ≤ℤ (get_or ls 0 d).most
  pub last : (d : Segment) → (get_or ls (length ls - 1) d).most ≤ℤ net

pub within_segments : (ls : List Segment) (net at : ℤ) → at ≡ net → 0 < length ls → bottom_of ls ≤ℤ net → net ≤ℤ end_of ls (pos 0)
    → IsWithin ls at
within_segments ls net at same some low high = record {
  some = some;
  first = λ d. (let top = end_at ls d some in omega (arith, ints, top, high, same));
  last = λ d. (let bottom = bottom_at ls (length ls - 1) d (omega (arith, some)) in omega (arith, ints, bottom, low, same));
}

pub value_from : (f : ℤ → Option ℤ) (ls : List Segment) (net : ℤ) (place : ℕ) (d : Segment) → AreSegments f ls (bottom_of ls)
    → (get_or ls (length ls - 1) d).most ≤ℤ net → place < length ls → ((e : Segment) → net ≤ℤ (get_or ls place e).most)
    → ((e : Segment) → place + 1 < length ls → (get_or ls (place + 1) e).most ≤ℤ net)
    → Some (segment_at (get_or ls place d) net) ≡ f net
value_from f ls net place d are last l holds next =
    let stands = stands_from ls net place holds next in
    let here = segment_here f ls net place d are (place_from ls net place d l last) stands in
    sym (here.1.each net here.2 (holds d))

pub value_at : (f : ℤ → Option ℤ) (ls : List Segment) (net : ℤ) (place : ℕ) (d : Segment) → AreSegments f ls (bottom_of ls)
    → IsWithin ls net → place < length ls → ((e : Segment) → net ≤ℤ (get_or ls place e).most)
    → ((e : Segment) → place + 1 < length ls → (get_or ls (place + 1) e).most ≤ℤ net)
    → Some (segment_at (get_or ls place d) net) ≡ f net
value_at f ls net place d are within l holds next = value_from f ls net place d are (within.last d) l holds next

pub price_there : (ps : List (List Step)) (ls : List Segment) (net : ℤ) (place : ℕ) (d : Segment) → ArePriced ps ls (bottom_of ls)
    → IsWithin ls net → place < length ls → ((e : Segment) → net ≤ℤ (get_or ls place e).most)
    → ((e : Segment) → place + 1 < length ls → (get_or ls (place + 1) e).most <ℤ net)
    → IsJointPrice ps net (price_at (get_or ls place d) net)
price_there ps ls net place d are within l holds next =
    let stands = stands_from ls net place holds (λ e k. (let less = next e k in omega (arith, ints, less))) in
    let here = priced_here ps ls net place d are (place_from ls net place d l (within.last d)) stands (last_from ls net place next) in
    price_is ps (get_or ls place d) here.0 net here.1 (holds d) here.3

-- ---- how large the numbers are
product_small : (x y : ℤ) (n m : ℕ) → neg_ℤ (pos n) ≤ℤ x → x ≤ℤ pos n → neg_ℤ (pos m) ≤ℤ y → y ≤ℤ pos m
    → (neg_ℤ (pos (n * m)) ≤ℤ (x *ℤ y)) × ((x *ℤ y) ≤ℤ pos (n * m))
product_small (pos h) y n m a b c e = times_small h n m y (omega (arith, ints, b)) c e
product_small (negsuc h) y n m a b c e =
    let t = times_small (suc h) n m y (omega (arith, ints, a)) c e in
    let turned : negsuc h *ℤ y ≡ neg_ℤ (pos (suc h) *ℤ y) = omega (arith, ints) in
    (omega (arith, ints, t.0, t.1, turned), omega (arith, ints, t.0, t.1, turned))

-- a line at a net volume of 32 bits
pub record AreSmallAt (line : Line) (net : ℤ) : Type 0 where
  pub price_at_least : neg_ℤ (pos (last_period * greatest_price)) ≤ℤ line.price
  pub price_at_most : line.price ≤ℤ pos (last_period * greatest_price)
  pub product_at_least : neg_ℤ (pos ((last_period * greatest_price) * 2147483648)) ≤ℤ (line.price *ℤ net)
  pub product_at_most : (line.price *ℤ net) ≤ℤ pos ((last_period * greatest_price) * 2147483648)
  pub surplus_at_least : neg_ℤ (pos (last_period * greatest_segment_surplus)) ≤ℤ line.surplus
  pub surplus_at_most : line.surplus ≤ℤ pos (last_period * greatest_segment_surplus)

pub small_at_net : (line : Line) (net : ℤ) → IsSmallLine last_period line → neg_ℤ (pos 2147483648) ≤ℤ net
    → net ≤ℤ pos 2147483648 → AreSmallAt line net
small_at_net line net small low high =
    let product = product_small line.price net (last_period * greatest_price) 2147483648 small.price_at_least small.price_at_most
    low high in
    record {
      price_at_least = small.price_at_least;
      price_at_most = small.price_at_most;
      product_at_least = product.0;
      product_at_most = product.1;
      surplus_at_least = small.surplus_at_least;
      surplus_at_most = small.surplus_at_most;
    }

pub small_wide : (ps : List (List Step)) (least most : ℤ) (ls : List Segment) (place : ℕ) (d : Segment) → IsCurve ps least most ls
    → place < length ls → IsSmallSegment last_period (get_or ls place d)
small_wide ps least most ls place d is l =
    let small = small_at (length ps) ls place d is.small l in
    let few = is.few in
    let p = small.price_at_least in let q = small.price_at_most in let s = small.surplus_at_least in let t = small.surplus_at_most in
    let d1 = small.end_price_at_least in let d2 = small.end_price_at_most in
    record {
      price_at_least = omega (arith, ints, few, p);
      price_at_most = omega (arith, ints, few, q);
      end_price_at_least = omega (arith, ints, few, d1);
      end_price_at_most = omega (arith, ints, few, d2);
      surplus_at_least = omega (arith, ints, few, s);
      surplus_at_most = omega (arith, ints, few, t);
    }

pub small_line : (segment : Segment) → IsSmallSegment last_period segment
    → IsSmallLine last_period (record { price = segment.price; surplus = segment.surplus })
small_line segment small = record {
  price_at_least = small.price_at_least;
  price_at_most = small.price_at_most;
  surplus_at_least = small.surplus_at_least;
  surplus_at_most = small.surplus_at_most;
}

-- in the numbers of the machine
pub record FitsAt (line : Line) (price net : ℤ) : Type 0 where
  pub product : FitsSigned w64 (price *ℤ net)
  pub sum : FitsSigned w64 (to_z w64 (of_z w64 line.surplus) +ℤ to_z w64 (of_z w64 (price *ℤ net)))
  pub value : to_z w64 (of_z w64 (to_z w64 (of_z w64 line.surplus) +ℤ to_z w64 (of_z w64 (price *ℤ net)))) ≡ line_value line net

fits_at : (line : Line) (price net wide : ℤ) → AreSmallAt line net → wide ≡ to_z w32 (of_z w32 line.price)
    → price ≡ to_z w64 (of_z w64 wide) → FitsAt line price net
fits_at line price net wide small e k =
    let p = small.price_at_least in let q = small.price_at_most in
    let a = small.product_at_least in let b = small.product_at_most in
    let s = small.surplus_at_least in let t = small.surplus_at_most in
    let is : price ≡ line.price = omega (arith, ints, p, q, e, k) in
    let same = ap (λ (z : ℤ). z *ℤ net) is in
    let surplus : to_z w64 (of_z w64 line.surplus) ≡ line.surplus = omega (arith, ints, s, t) in
    let product : to_z w64 (of_z w64 (price *ℤ net)) ≡ line.price *ℤ net = omega (arith, ints, a, b, same) in
    record {
      product = omega (arith, ints, a, b, same);
      sum = omega (arith, ints, a, b, s, t, surplus, product);
      value = omega (arith, ints, a, b, s, t, surplus, product);
    }

pub valued : (line : Line) (price wide net at : ℤ) → IsSmallLine last_period line → neg_ℤ (pos 2147483648) ≤ℤ net
    → net ≤ℤ pos 2147483648 → at ≡ net → wide ≡ to_z w32 (of_z w32 line.price) → price ≡ to_z w64 (of_z w64 wide)
    → FitsAt line price at
valued line price wide net at small low high same e k =
    fits_at line price at wide (small_at_net line at small (omega (arith, ints, low, same)) (omega (arith, ints, high, same))) e k
