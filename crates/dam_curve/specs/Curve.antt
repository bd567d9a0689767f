-- The greatest welfare of periods as a function of the net volume, in straight segments.
use Rattle.std.specs.Prelude.{◌≡◌, ◌⊎◌, ℕ, ◌+◌, ◌*◌, ◌<◌, ◌≤◌, ℤ, pos, neg_ℤ, ◌+ℤ◌, ◌*ℤ◌, ◌≤ℤ◌, ◌<ℤ◌, Option, Some, None}
use Rattle.std.specs.Prelude.{List, [], ◌∷◌, length, slice_range}
use Rattle.dam_book.specs.Limits.{last_period, greatest_volume}
use Rattle.dam_hour.specs.Execution.{IsHour, IsNetVolume}
use Rattle.dam_hour.specs.Best.{greatest_welfare}
use Rattle.dam_hour.specs.Limits.{most_steps, greatest_price, greatest_value, price_span}
use Rattle.dam_hour.specs.declared.step.Step.{Step}
use Rattle.dam_curve.specs.declared.segment.Segment.{Segment}
use Rattle.dam_curve.specs.declared.curves.Curve.{Curve}
use Rattle.dam_curve.specs.JointPrice.{IsJointPrice}

-- the sum of two welfares, if there are both
abbrev pub both : Option ℤ → Option ℤ → Option ℤ
both (Some x) (Some y) = Some (x +ℤ y)
both _ _ = None

-- the greatest welfares of periods at the same net volume, added up; None if some period doesn't balance at it
abbrev pub joint_welfare : List (List Step) → ℤ → Option ℤ
joint_welfare [] net = Some (pos 0)
joint_welfare (steps ∷ periods) net = both (greatest_welfare steps net) (joint_welfare periods net)

-- the value of a segment at a net volume
abbrev pub segment_at : Segment → ℤ → ℤ
segment_at segment net = segment.surplus +ℤ segment.price *ℤ net

-- the segment is the function from this net volume up to its greatest one
pub record IsSegment (f : ℤ → Option ℤ) (segment : Segment) (least : ℤ) : Type 0 where
  pub ordered : least ≤ℤ segment.most
  pub each : (net : ℤ) → least ≤ℤ net → net ≤ℤ segment.most → f net ≡ Some (segment_at segment net)

-- the greatest net volume of the segments, down to which a segment before them holds; without segments, this net volume
abbrev pub end_of : List Segment → ℤ → ℤ
end_of [] least = least
end_of (segment ∷ segments) least = segment.most

-- each segment is the function down to the next one, and the last down to this net volume
abbrev pub AreSegments : (ℤ → Option ℤ) → List Segment → ℤ → Type 0
AreSegments f [] least = Unit {0}
AreSegments f (segment ∷ segments) least = IsSegment f segment (end_of segments least) × AreSegments f segments least

-- the last segment's greatest net volume, at which alone it holds
abbrev pub bottom_of : List Segment → ℤ
bottom_of [] = pos 0
bottom_of (segment ∷ []) = segment.most
bottom_of (segment ∷ next ∷ segments) = bottom_of (next ∷ segments)

-- no segment holds at the net volume
abbrev pub IsOutside : List Segment → ℤ → Type 0
IsOutside [] net = Unit {0}
IsOutside (segment ∷ segments) net = (net <ℤ bottom_of (segment ∷ segments)) ⊎ (segment.most <ℤ net)

-- at no net volume is the function above the segment's line
abbrev pub IsUnder : (ℤ → Option ℤ) → Segment → Type 0
IsUnder f segment = (net w : ℤ) → f net ≡ Some w → w ≤ℤ segment_at segment net

-- at no net volume is the function above the line of any of the segments
abbrev pub IsUnderEach : (ℤ → Option ℤ) → List Segment → Type 0
IsUnderEach f [] = Unit {0}
IsUnderEach f (segment ∷ segments) = IsUnder f segment × IsUnderEach f segments

-- the clearing prices of the periods, added up, are the segment's end price at its greatest net volume, and its price at each
-- net volume between this one and its greatest
pub record IsPriced (periods : List (List Step)) (segment : Segment) (least : ℤ) : Type 0 where
  pub end_price : IsJointPrice periods segment.most segment.end_price
  pub inside : (net : ℤ) → least <ℤ net → net <ℤ segment.most → IsJointPrice periods net segment.price

-- the prices of each segment are those of the periods down to the next one, and of the last down to this net volume
abbrev pub ArePriced : List (List Step) → List Segment → ℤ → Type 0
ArePriced periods [] least = Unit {0}
ArePriced periods (segment ∷ segments) least = IsPriced periods segment (end_of segments least) × ArePriced periods segments least

-- each of the periods is an hour
abbrev pub AreHours : List (List Step) → Type 0
AreHours [] = Unit {0}
AreHours (steps ∷ periods) = IsHour steps × AreHours periods

-- the greatest size of the surplus of an hour's orders at a price: the value of all buys, of all steps, and of the
-- volume of all steps at that price, each over the least price
abbrev pub greatest_segment_surplus : ℕ
greatest_segment_surplus = 3 * (most_steps * (price_span * greatest_volume))

-- the sizes of a segment over this number of periods
pub record IsSmallSegment (count : ℕ) (segment : Segment) : Type 0 where
  pub price_at_least : neg_ℤ (pos (count * greatest_price)) ≤ℤ segment.price
  pub price_at_most : segment.price ≤ℤ pos (count * greatest_price)
  pub end_price_at_least : neg_ℤ (pos (count * greatest_price)) ≤ℤ segment.end_price
  pub end_price_at_most : segment.end_price ≤ℤ pos (count * greatest_price)
  pub surplus_at_least : neg_ℤ (pos (count * greatest_segment_surplus)) ≤ℤ segment.surplus
  pub surplus_at_most : segment.surplus ≤ℤ pos (count * greatest_segment_surplus)

-- each of the segments has the sizes of one over this number of periods
abbrev pub AreSmallSegments : ℕ → List Segment → Type 0
AreSmallSegments count [] = Unit {0}
AreSmallSegments count (segment ∷ segments) = IsSmallSegment count segment × AreSmallSegments count segments

-- no segment goes beyond these net volumes
abbrev pub AreWithin : List Segment → ℤ → ℤ → Type 0
AreWithin segments least most = 0 < length segments → (least ≤ℤ bottom_of segments) × (end_of segments (pos 0) ≤ℤ most)

-- the segments are the joint welfare of the periods at each net volume from the least to the most, and hold at no other; at
-- a net volume of the range at which none holds, some period doesn't balance; the welfare is under the line of each segment,
-- and their prices are the periods'
pub record IsCurve (periods : List (List Step)) (least most : ℤ) (segments : List Segment) : Type 0 where
  pub few : length periods ≤ last_period
  pub are_hours : AreHours periods
  pub least_is : IsNetVolume least
  pub most_is : IsNetVolume most
  pub are_segments : AreSegments (joint_welfare periods) segments (bottom_of segments)
  pub under : IsUnderEach (joint_welfare periods) segments
  pub priced : ArePriced periods segments (bottom_of segments)
  pub within : AreWithin segments least most
  pub small : AreSmallSegments (length periods) segments
  pub outside : (net : ℤ) → least ≤ℤ net → net ≤ℤ most → IsOutside segments net → joint_welfare periods net ≡ None

-- the segments of many curves, one curve after another
pub record CurvesState : Type 0 where
  pub segments : List Segment

-- the segments of one curve among those of many
abbrev pub segments_at : List Segment → Curve → List Segment
segments_at segments curve = slice_range segments curve.first (curve.first + curve.count)

-- the curve of these periods stands there; if it has no segment, no net volume is within its ends
pub record IsCurveAt (curves : CurvesState) (curve : Curve) (periods : List (List Step)) (least most : ℤ) : Type 0 where
  pub within : curve.first + curve.count ≤ length curves.segments
  pub is_curve : IsCurve periods least most (segments_at curves.segments curve)
  pub ends : 0 < curve.count
      → (curve.least ≡ bottom_of (segments_at curves.segments curve)) × (curve.most ≡ end_of (segments_at curves.segments curve) (pos 0))
  pub none : curve.count ≡ 0 → curve.most <ℤ curve.least

-- every curve that stood there still does
pub record Keeps (old new : CurvesState) : Type 0 where
  pub curves : (curve : Curve) (periods : List (List Step)) (least most : ℤ)
      → IsCurveAt old curve periods least most → IsCurveAt new curve periods least most

-- the size of the welfare of a day's periods
abbrev pub greatest_joint_welfare : ℕ
greatest_joint_welfare = last_period * (most_steps * greatest_value)
