-- Lists of segments: one segment more, and the segment at a place.
use Rattle.std.proofs.Common.{◌≡◌, ℕ, zero, suc, ◌+◌, ◌*◌, ◌<◌, ℤ, pos, neg_ℤ, ◌+ℤ◌, ◌*ℤ◌, ◌≤ℤ◌, ◌<ℤ◌, ◌⊎◌, Bool, true, false, Option, Some, None}
use Rattle.std.proofs.Common.{List, [], ◌∷◌, ◌++◌, length, get_or, ap, ap₂, ◌∙◌, sym, subst, inl, inr, refl, arith}
use Rattle.std.specs.Prelude.{if◌then◌else◌}
use Rattle.std.specs.Ordering.{int_eq}
use Rattle.std.proofs.lemmas.Int.{ints, by_lt_z}
use Rattle.std.proofs.lemmas.Bool.Decides.{Decides-int_eq}
use Rattle.dam_hour.specs.declared.step.Step.{Step}
use Rattle.dam_hour.specs.Limits.{greatest_price}
use Rattle.dam_curve.specs.JointPrice.{IsJointPrice}
use borrow.Author.Differences.{up, down}
use Rattle.dam_curve.specs.declared.segment.Segment.{Segment}
use Rattle.dam_curve.specs.Curve.{both, segment_at, IsSegment, end_of, AreSegments, bottom_of, IsUnder, IsUnderEach, IsPriced, ArePriced, IsSmallSegment, AreSmallSegments}
use Rattle.dam_curve.specs.inside.Segments.{price_at, joint_segment}

-- any segment, for the places behind the end of a list
abbrev pub any_segment : Segment
any_segment = record { most = pos 0; price = pos 0; end_price = pos 0; surplus = pos 0 }

abbrev segment_of_parts : ℤ → ℤ → ℤ → ℤ → Segment
segment_of_parts m p d s = record { most = m; price = p; end_price = d; surplus = s }

pub same_segment : (m n p q d e s t : ℤ) → m ≡ n → p ≡ q → d ≡ e → s ≡ t
    → ◌≡◌ {A = Segment} (record { most = m; price = p; end_price = d; surplus = s }) (record { most = n; price = q; end_price = e; surplus = t })
same_segment m n p q d e s t a b c f =
    ap (λ z. segment_of_parts z p d s) a ∙ ap (λ z. segment_of_parts n z d s) b ∙ ap (λ z. segment_of_parts n q z s) c
    ∙ ap (λ z. segment_of_parts n q e z) f

-- ---- a segment more at the end
pub end_more : (ls : List Segment) (segment : Segment) (least : ℤ) → end_of (ls ++ segment ∷ []) least ≡ end_of ls segment.most
end_more [] segment least = refl
end_more (l ∷ ls) segment least = refl

pub segments_more : (f : ℤ → Option ℤ) (ls : List Segment) (segment : Segment) (least : ℤ) → AreSegments f ls segment.most
    → IsSegment f segment least → AreSegments f (ls ++ segment ∷ []) least
segments_more f [] segment least are is = (is, tt)
segments_more f (l ∷ ls) segment least are is =
    (subst (IsSegment f l) (sym (end_more ls segment least)) are.0, segments_more f ls segment least are.1 is)

pub bottom_more : (ls : List Segment) (segment : Segment) → bottom_of (ls ++ segment ∷ []) ≡ segment.most
bottom_more [] segment = refl
bottom_more (l ∷ []) segment = refl
bottom_more (l ∷ k ∷ ls) segment = bottom_more (k ∷ ls) segment

pub small_more : (n : ℕ) (ls : List Segment) (segment : Segment) → AreSmallSegments n ls → IsSmallSegment n segment
    → AreSmallSegments n (ls ++ segment ∷ [])
small_more n [] segment are is = (is, tt)
small_more n (l ∷ ls) segment are is = (are.0, small_more n ls segment are.1 is)

pub under_more : (f : ℤ → Option ℤ) (ls : List Segment) (segment : Segment) → IsUnderEach f ls → IsUnder f segment
    → IsUnderEach f (ls ++ segment ∷ [])
under_more f [] segment are is = (is, tt)
under_more f (l ∷ ls) segment are is = (are.0, under_more f ls segment are.1 is)

pub priced_more : (ps : List (List Step)) (ls : List Segment) (segment : Segment) (least : ℤ) → ArePriced ps ls segment.most
    → IsPriced ps segment least → ArePriced ps (ls ++ segment ∷ []) least
priced_more ps [] segment least are is = (is, tt)
priced_more ps (l ∷ ls) segment least are is =
    (subst (IsPriced ps l) (sym (end_more ls segment least)) are.0, priced_more ps ls segment least are.1 is)

-- ---- the segment at a place
pub segment_inside : (f : ℤ → Option ℤ) (ls : List Segment) (least : ℤ) (i : ℕ) (d : Segment) → AreSegments f ls least → suc i < length ls
    → IsSegment f (get_or ls i d) (get_or ls (suc i) d).most
segment_inside f [] least i d are l = absurd (omega (arith, l))
segment_inside f (a ∷ []) least i d are l = absurd (omega (arith, l))
segment_inside f (a ∷ b ∷ ls) least zero d are l = are.0
segment_inside f (a ∷ b ∷ ls) least (suc i) d are l = segment_inside f (b ∷ ls) least i d are.1 (omega (arith, l))

pub segment_last : (f : ℤ → Option ℤ) (ls : List Segment) (least : ℤ) (i : ℕ) (d : Segment) → AreSegments f ls least → suc i ≡ length ls
    → IsSegment f (get_or ls i d) least
segment_last f [] least i d are e = absurd (omega (arith, e))
segment_last f (a ∷ []) least zero d are e = are.0
segment_last f (a ∷ []) least (suc i) d are e = absurd (omega (arith, e))
segment_last f (a ∷ b ∷ ls) least zero d are e = absurd (omega (arith, e))
segment_last f (a ∷ b ∷ ls) least (suc i) d are e = segment_last f (b ∷ ls) least i d are.1 (omega (arith, e))

pub bottom_at : (ls : List Segment) (i : ℕ) (d : Segment) → suc i ≡ length ls → bottom_of ls ≡ (get_or ls i d).most
bottom_at [] i d e = absurd (omega (arith, e))
bottom_at (a ∷ []) zero d e = refl
bottom_at (a ∷ []) (suc i) d e = absurd (omega (arith, e))
bottom_at (a ∷ b ∷ ls) zero d e = absurd (omega (arith, e))
bottom_at (a ∷ b ∷ ls) (suc i) d e = bottom_at (b ∷ ls) i d (omega (arith, e))

pub small_at : (n : ℕ) (ls : List Segment) (i : ℕ) (d : Segment) → AreSmallSegments n ls → i < length ls → IsSmallSegment n (get_or ls i d)
small_at n [] i d are l = absurd (omega (arith, l))
small_at n (a ∷ ls) zero d are l = are.0
small_at n (a ∷ ls) (suc i) d are l = small_at n ls i d are.1 (omega (arith, l))

pub under_at : (f : ℤ → Option ℤ) (ls : List Segment) (i : ℕ) (d : Segment) → IsUnderEach f ls → i < length ls
    → IsUnder f (get_or ls i d)
under_at f [] i d are l = absurd (omega (arith, l))
under_at f (a ∷ ls) zero d are l = are.0
under_at f (a ∷ ls) (suc i) d are l = under_at f ls i d are.1 (omega (arith, l))

pub priced_inside : (ps : List (List Step)) (ls : List Segment) (least : ℤ) (i : ℕ) (d : Segment) → ArePriced ps ls least
    → suc i < length ls → IsPriced ps (get_or ls i d) (get_or ls (suc i) d).most
priced_inside ps [] least i d are l = absurd (omega (arith, l))
priced_inside ps (a ∷ []) least i d are l = absurd (omega (arith, l))
priced_inside ps (a ∷ b ∷ ls) least zero d are l = are.0
priced_inside ps (a ∷ b ∷ ls) least (suc i) d are l = priced_inside ps (b ∷ ls) least i d are.1 (omega (arith, l))

pub priced_last : (ps : List (List Step)) (ls : List Segment) (least : ℤ) (i : ℕ) (d : Segment) → ArePriced ps ls least
    → suc i ≡ length ls → IsPriced ps (get_or ls i d) least
priced_last ps [] least i d are e = absurd (omega (arith, e))
priced_last ps (a ∷ []) least zero d are e = are.0
priced_last ps (a ∷ []) least (suc i) d are e = absurd (omega (arith, e))
priced_last ps (a ∷ b ∷ ls) least zero d are e = absurd (omega (arith, e))
priced_last ps (a ∷ b ∷ ls) least (suc i) d are e = priced_last ps (b ∷ ls) least i d are.1 (omega (arith, e))

-- ---- the prices of a segment at a net volume at which it holds
picked : (b : Bool) (P : ℤ → Type 0) (x y : ℤ) → (b ≡ true → P x) → (b ≡ false → P y) → P (if b then x else y)
picked true P x y f g = f refl
picked false P x y f g = g refl

pub price_is : (ps : List (List Step)) (segment : Segment) (least at : ℤ) → IsPriced ps segment least → at ≤ℤ segment.most
    → (least <ℤ at) ⊎ (segment.most ≡ at) → IsJointPrice ps at (price_at segment at)
price_is ps segment least at is high apart =
    picked (int_eq segment.most at) (IsJointPrice ps at) segment.end_price segment.price
    (λ e. subst (λ z. IsJointPrice ps z segment.end_price) ((Decides-int_eq segment.most at).0 e) is.end_price)
    (λ e. under e apart)
  where
    differs : int_eq segment.most at ≡ false → segment.most ≡ at → ⊥
    differs e same = let is_true = (Decides-int_eq segment.most at).1 same in absurd cc

    under : int_eq segment.most at ≡ false → (least <ℤ at) ⊎ (segment.most ≡ at) → IsJointPrice ps at segment.price
    under e (inl less) =
        by_lt_z at segment.most (λ before. is.inside at less before)
        (λ more. absurd (differs e (let same : segment.most ≡ at = omega (arith, ints, more, high) in same)))
    under e (inr same) = absurd (differs e same)

pub price_small : (n : ℕ) (segment : Segment) (at : ℤ) → IsSmallSegment n segment
    → (neg_ℤ (pos (n * greatest_price)) ≤ℤ price_at segment at) × (price_at segment at ≤ℤ pos (n * greatest_price))
price_small n segment at is =
    picked (int_eq segment.most at) (λ z. (neg_ℤ (pos (n * greatest_price)) ≤ℤ z) × (z ≤ℤ pos (n * greatest_price)))
    segment.end_price segment.price
    (λ e. (is.end_price_at_least, is.end_price_at_most)) (λ e. (is.price_at_least, is.price_at_most))

-- ---- the sum of two segments
-- the parts of a joint welfare
pub record AreParts (x y : Option ℤ) (w : ℤ) : Type 0 where
  pub left : ℤ
  pub right : ℤ
  pub left_is : x ≡ Some left
  pub right_is : y ≡ Some right
  pub sum : w ≡ left +ℤ right

pub parts_of : (x y : Option ℤ) (w : ℤ) → both x y ≡ Some w → AreParts x y w
parts_of None None w e = absurd (cc)
parts_of (Some x) None w e = absurd (cc)
parts_of None (Some y) w e = absurd (cc)
parts_of (Some x) (Some y) w e = record { left = x; right = y; left_is = refl; right_is = refl; sum = cc }

times_sum : (p q y : ℤ) → (p +ℤ q) *ℤ y ≡ p *ℤ y +ℤ q *ℤ y
times_sum p q y =
    let s : up (p +ℤ q) + (down p + down q) ≡ down (p +ℤ q) + (up p + up q) = omega (arith, ints) in
    let m = ap (λ (n : ℕ). n * up y) s in
    let k = ap (λ (n : ℕ). n * down y) s in
    omega (arith, ints, m, k)

joined_at : (a b : Segment) (most net : ℤ) → segment_at a net +ℤ segment_at b net ≡ segment_at (joint_segment a b most) net
joined_at a b most net = let t = times_sum a.price b.price net in omega (arith, ints, t)

pub joined_is : (f g : ℤ → Option ℤ) (a b : Segment) (x y most least : ℤ) → IsSegment f a x → IsSegment g b y → x ≤ℤ least → y ≤ℤ least
    → least ≤ℤ most → most ≤ℤ a.most → most ≤ℤ b.most → IsSegment (λ net. both (f net) (g net)) (joint_segment a b most) least
joined_is f g a b x y most least is other lx ly l la lb = record {
  ordered = l;
  each = λ net low high.
      ap₂ both (is.each net (omega (arith, ints, lx, low)) (omega (arith, ints, la, high)))
      (other.each net (omega (arith, ints, ly, low)) (omega (arith, ints, lb, high)))
      ∙ ap (λ (z : ℤ). Some z) (joined_at a b most net);
}

pub joined_under : (f g : ℤ → Option ℤ) (a b : Segment) (most : ℤ) → IsUnder f a → IsUnder g b
    → IsUnder (λ net. both (f net) (g net)) (joint_segment a b most)
joined_under f g a b most is other net w e =
    let parts = parts_of (f net) (g net) w e in
    let left = is net parts.left parts.left_is in let right = other net parts.right parts.right_is in
    let sum = parts.sum in let at = joined_at a b most net in
    omega (arith, ints, left, right, sum, at)

joint_sum : (ss : List Step) (ps : List (List Step)) (net x y : ℤ) → IsJointPrice (ss ∷ []) net x → IsJointPrice ps net y
    → IsJointPrice (ss ∷ ps) net (x +ℤ y)
joint_sum ss ps net x y is other =
    (is.0, is.1, y, is.3, other, (let none = is.4 in let own = is.5 in omega (arith, ints, none, own)))

pub joined_priced : (ss : List Step) (ps : List (List Step)) (a b : Segment) (x y most least : ℤ) → IsPriced (ss ∷ []) a x
    → IsPriced ps b y → x ≤ℤ least → y ≤ℤ least → most ≤ℤ a.most → most ≤ℤ b.most
    → (x <ℤ most) ⊎ (a.most ≡ most) → (y <ℤ most) ⊎ (b.most ≡ most) → IsPriced (ss ∷ ps) (joint_segment a b most) least
joined_priced ss ps a b x y most least is other lx ly la lb apart_a apart_b = record {
  end_price = joint_sum ss ps most (price_at a most) (price_at b most) (price_is (ss ∷ []) a x most is la apart_a)
      (price_is ps b y most other lb apart_b);
  inside = λ net low high.
      joint_sum ss ps net a.price b.price (is.inside net (omega (arith, ints, lx, low)) (omega (arith, ints, la, high)))
      (other.inside net (omega (arith, ints, ly, low)) (omega (arith, ints, lb, high)));
}

pub joined_small : (n m : ℕ) (a b : Segment) (most : ℤ) → IsSmallSegment n a → IsSmallSegment m b → IsSmallSegment (n + m) (joint_segment a b most)
joined_small n m a b most is other =
    let p = is.price_at_least in let q = is.price_at_most in let s = is.surplus_at_least in let t = is.surplus_at_most in
    let p2 = other.price_at_least in let q2 = other.price_at_most in let s2 = other.surplus_at_least in let t2 = other.surplus_at_most in
    let d = price_small n a most is in let d2 = price_small m b most other in
    record {
      price_at_least = omega (arith, ints, p, p2);
      price_at_most = omega (arith, ints, q, q2);
      end_price_at_least = omega (arith, ints, d.0, d2.0);
      end_price_at_most = omega (arith, ints, d.1, d2.1);
      surplus_at_least = omega (arith, ints, s, s2);
      surplus_at_most = omega (arith, ints, t, t2);
    }
