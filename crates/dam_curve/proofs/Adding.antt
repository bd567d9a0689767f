-- The sum of two lists of segments, segment by segment.
use Rattle.std.proofs.Common.{◌≡◌, ℕ, zero, suc, ◌+◌, ◌<◌, ◌-◌, ℤ, pos, ◌≤ℤ◌, ◌<ℤ◌, ◌⊎◌, Option, List, [], ◌∷◌, ◌++◌, length, get_or, ap, ◌∙◌, sym, subst}
use Rattle.std.proofs.Common.{inl, inr, refl, arith}
use Rattle.std.specs.Int.{int_min, int_max}
use Rattle.std.proofs.lemmas.Int.{ints, by_lt_z, int_min_is, int_max_is}
use Rattle.std.proofs.lemmas.Bool.{cases_lt}
use Rattle.std.proofs.lemmas.List.{get_or_default}
use Rattle.dam_curve.specs.declared.segment.Segment.{Segment}
use Rattle.dam_curve.specs.Curve.{both, IsSegment, end_of, AreSegments, bottom_of, IsUnderEach, IsPriced, ArePriced, AreWithin, IsOutside, AreSmallSegments}
use Rattle.dam_hour.specs.declared.step.Step.{Step}
use Rattle.dam_curve.specs.inside.Segments.{joint_segment, IsPast}
use Rattle.dam_curve.proofs.ListsOfSegments.{end_more, segments_more, bottom_more, small_more, under_more, priced_more, under_at, priced_inside, priced_last, segment_inside, segment_last, bottom_at, small_at, joined_is}
use Rattle.dam_curve.proofs.ListsOfSegments.{joined_under, joined_priced, joined_small}

-- ---- the place of a segment
-- a place among the segments; if it is the last one, they hold down to no more than the net volume
pub record IsPlace (ls : List Segment) (at : ℤ) (place : ℕ) : Type 0 where
  pub inside : place < length ls
  pub last : suc place ≡ length ls → bottom_of ls ≤ℤ at

-- the segment there holds up to at least the net volume, and the next one up to no more
pub record StandsAt (ls : List Segment) (at : ℤ) (place : ℕ) : Type 0 where
  pub holds : (d : Segment) → at ≤ℤ (get_or ls place d).most
  pub next : (d : Segment) → suc place < length ls → (get_or ls (suc place) d).most ≤ℤ at

-- no later segment holds there, or the segment there ends there
pub record IsLastAt (ls : List Segment) (at : ℤ) (place : ℕ) : Type 0 where
  pub apart : (d : Segment) → suc place < length ls → ((get_or ls (suc place) d).most <ℤ at) ⊎ ((get_or ls place d).most ≡ at)

pub priced_here : (ps : List (List Step)) (ls : List Segment) (at : ℤ) (place : ℕ) (d : Segment) → ArePriced ps ls (bottom_of ls)
    → IsPlace ls at place → StandsAt ls at place → IsLastAt ls at place
    → (x : ℤ) × IsPriced ps (get_or ls place d) x × (x ≤ℤ at) × ((x <ℤ at) ⊎ ((get_or ls place d).most ≡ at))
priced_here ps ls at place d are p s t = elim (cases_lt (suc place) (length ls)) [
  | inl l ↦ ((get_or ls (suc place) d).most, priced_inside ps ls (bottom_of ls) place d are l, s.next d l, t.apart d l)
  | inr m ↦
      (let inside = p.inside in let e : suc place ≡ length ls = omega (arith, m, inside) in
      let under = p.last e in let over = s.holds d in let bottom = bottom_at ls place d e in
      (bottom_of ls, priced_last ps ls (bottom_of ls) place d are e, under, inr (omega (arith, ints, under, over, bottom))))
]

pub segment_here : (f : ℤ → Option ℤ) (ls : List Segment) (at : ℤ) (place : ℕ) (d : Segment) → AreSegments f ls (bottom_of ls)
    → IsPlace ls at place → StandsAt ls at place → (x : ℤ) × IsSegment f (get_or ls place d) x × (x ≤ℤ at)
segment_here f ls at place d are p s = elim (cases_lt (suc place) (length ls)) [
  | inl l ↦ ((get_or ls (suc place) d).most, segment_inside f ls (bottom_of ls) place d are l, s.next d l)
  | inr m ↦
      (let inside = p.inside in let e : suc place ≡ length ls = omega (arith, m, inside) in
      (bottom_of ls, segment_last f ls (bottom_of ls) place d are e, p.last e))
]

-- in the forms of the code
pub place_from : (ls : List Segment) (at : ℤ) (place : ℕ) (d : Segment) → place < length ls → (get_or ls (length ls - 1) d).most ≤ℤ at
    → IsPlace ls at place
place_from ls at place d l most = record {
  inside = l;
  last = λ e.
      (let last : suc (length ls - 1) ≡ length ls = omega (arith, l) in
      let bottom = bottom_at ls (length ls - 1) d last in omega (arith, ints, bottom, most));
}

pub bottom_over : (ls : List Segment) (at : ℤ) (d : Segment) → 0 < length ls → (get_or ls (length ls - 1) d).most ≤ℤ at → bottom_of ls ≤ℤ at
bottom_over ls at d l most =
    let last : suc (length ls - 1) ≡ length ls = omega (arith, l) in
    let bottom = bottom_at ls (length ls - 1) d last in omega (arith, ints, bottom, most)

pub stands_from : (ls : List Segment) (at : ℤ) (place : ℕ) → ((d : Segment) → at ≤ℤ (get_or ls place d).most)
    → ((d : Segment) → place + 1 < length ls → (get_or ls (place + 1) d).most ≤ℤ at) → StandsAt ls at place
stands_from ls at place holds under = record {
  holds = holds;
  next = λ d l.
      (let one : place + 1 ≡ suc place = omega arith in
      let same = ap (λ (n : ℕ). (get_or ls n d).most) one in
      let less = under d (omega (arith, l)) in omega (arith, ints, same, less));
}

pub last_from : (ls : List Segment) (at : ℤ) (place : ℕ)
    → ((d : Segment) → place + 1 < length ls → (get_or ls (place + 1) d).most <ℤ at) → IsLastAt ls at place
last_from ls at place under = record {
  apart = λ d l.
      (let one : place + 1 ≡ suc place = omega arith in
      let same = ap (λ (n : ℕ). (get_or ls n d).most) one in
      let less = under d (omega (arith, l)) in inl (omega (arith, ints, same, less)));
}

most_at : (ls : List Segment) (place next : ℕ) (d e : Segment) → place < length ls → next ≡ place
    → (get_or ls next e).most ≡ (get_or ls place d).most
most_at ls place next d e l same =
    ap (λ (n : ℕ). (get_or ls n e).most) same ∙ ap (λ (segment : Segment). segment.most) (get_or_default ls place e d l)

past_place : (ls : List Segment) (at : ℤ) (place next : ℕ) (d : Segment) → suc place < length ls → IsPast ls place at next
    → IsPlace ls at next
past_place ls at place next d l (inl (e, is)) = record {
  inside = omega (arith, e, l);
  last = λ whole. (let bottom = bottom_at ls next d whole in let own = is d in omega (arith, ints, bottom, own));
}
past_place ls at place next d l (inr (e, differs)) = record { inside = omega (arith, e, l); last = λ whole. absurd (omega (arith, e, l, whole)) }

past_stands : (f : ℤ → Option ℤ) (ls : List Segment) (at lower : ℤ) (place next : ℕ) → AreSegments f ls (bottom_of ls)
    → StandsAt ls at place
    → lower ≤ℤ at → ((d : Segment) → (get_or ls (suc place) d).most ≤ℤ lower) → IsPast ls place lower next → StandsAt ls lower next
past_stands f ls at lower place next are s l under (inl (e, is)) = record {
  holds = λ d. (let own = is d in omega (arith, ints, own));
  next = λ d more.
      (let own = is d in let order = (segment_inside f ls (bottom_of ls) next d are more).ordered in omega (arith, ints, own, order));
}
past_stands f ls at lower place next are s l under (inr (e, differs)) = record {
  holds = λ d. (let own = s.holds d in let same = ap (λ (n : ℕ). (get_or ls n d).most) e in omega (arith, ints, own, same, l));
  next = λ d more. (let own = under d in let same = ap (λ (n : ℕ). (get_or ls (suc n) d).most) e in omega (arith, ints, own, same));
}

past_last : (ls : List Segment) (lower : ℤ) (place next : ℕ) → ((d : Segment) → (get_or ls (suc place) d).most ≤ℤ lower)
    → IsPast ls place lower next → IsLastAt ls lower next
past_last ls lower place next under (inl (e, is)) = record { apart = λ d more. inr (is d) }
past_last ls lower place next under (inr (e, differs)) = record {
  apart = λ d more.
      (let own = under d in let apart = differs d in
      let same = ap (λ (n : ℕ). (get_or ls (suc n) d).most) e in
      let one : place + 1 ≡ suc place = omega arith in
      let after = ap (λ (n : ℕ). (get_or ls n d).most) one in
      by_lt_z (get_or ls (suc next) d).most lower (λ less. inl less)
      (λ more. absurd (apart (omega (arith, ints, own, same, after, more)))));
}

-- ---- the sum so far
-- from this net volume on down to that one
pub record IsAdded (a b sum : List Segment) (start at : ℤ) (left right : ℕ) : Type 0 where
  pub left_is : IsPlace a at left
  pub right_is : IsPlace b at right
  pub left_last : IsLastAt a at left
  pub right_last : IsLastAt b at right
  pub begins : end_of sum at ≡ start
  pub over : (f : ℤ → Option ℤ) → AreSegments f b (bottom_of b) → bottom_of b ≤ℤ at
  pub small : (n m : ℕ) → AreSmallSegments n a → AreSmallSegments m b → AreSmallSegments (n + m) sum
  pub are_segments : (f g : ℤ → Option ℤ) → AreSegments f a (bottom_of a) → AreSegments g b (bottom_of b)
      → StandsAt a at left × StandsAt b at right × AreSegments (λ net. both (f net) (g net)) sum at
  pub under : (f g : ℤ → Option ℤ) → IsUnderEach f a → IsUnderEach g b → IsUnderEach (λ net. both (f net) (g net)) sum
  pub priced : (f g : ℤ → Option ℤ) (ss : List Step) (ps : List (List Step)) → AreSegments f a (bottom_of a)
      → AreSegments g b (bottom_of b) → ArePriced (ss ∷ []) a (bottom_of a) → ArePriced ps b (bottom_of b) → ArePriced (ss ∷ ps) sum at

pub bottom_under : (f : ℤ → Option ℤ) (ls : List Segment) (i : ℕ) (d : Segment) → AreSegments f ls (bottom_of ls) → i < length ls
    → bottom_of ls ≤ℤ (get_or ls i d).most
bottom_under f [] i d are l = absurd (omega (arith, l))
bottom_under f (a ∷ []) zero d are l = omega (arith, ints)
bottom_under f (a ∷ []) (suc i) d are l = absurd (omega (arith, l))
bottom_under f (a ∷ b ∷ ls) zero d are l =
    let rest = bottom_under f (b ∷ ls) zero d are.1 (omega arith) in let order = are.0.ordered in omega (arith, ints, rest, order)
bottom_under f (a ∷ b ∷ ls) (suc i) d are l = bottom_under f (b ∷ ls) i d are.1 (omega (arith, l))

pub none_added : (a b : List Segment) (at : ℤ) (left right : ℕ) → IsPlace a at left → IsPlace b at right → bottom_of b ≤ℤ at
    → StandsAt a at left → StandsAt b at right → IsLastAt a at left → IsLastAt b at right → IsAdded a b [] at at left right
none_added a b at left right la lb over sa sb ta tb = record {
  left_last = ta;
  right_last = tb;
  under = λ f g s t. tt;
  priced = λ f g ss ps s t p q. tt;
  over = λ f t. over;
  left_is = la;
  right_is = lb;
  begins = refl;
  small = λ n m s t. tt;
  are_segments = λ f g s t. (sa, sb, tt);
}

-- the two segments that hold at the net volume, in the sum
pub small_added : (n m : ℕ) (a b sum : List Segment) (start at : ℤ) (left right : ℕ) (d : Segment) → IsAdded a b sum start at left right
    → AreSmallSegments n a → AreSmallSegments m b
    → AreSmallSegments (n + m) (sum ++ joint_segment (get_or a left d) (get_or b right d) at ∷ [])
small_added n m a b sum start at left right d is s t =
    small_more (n + m) sum (joint_segment (get_or a left d) (get_or b right d) at) (is.small n m s t)
    (joined_small n m (get_or a left d) (get_or b right d) at (small_at n a left d s is.left_is.inside) (small_at m b right d t is.right_is.inside))

pub under_added : (f g : ℤ → Option ℤ) (a b sum : List Segment) (start at : ℤ) (left right : ℕ) (d : Segment)
    → IsAdded a b sum start at left right → IsUnderEach f a → IsUnderEach g b
    → IsUnderEach (λ net. both (f net) (g net)) (sum ++ joint_segment (get_or a left d) (get_or b right d) at ∷ [])
under_added f g a b sum start at left right d is s t =
    under_more (λ net. both (f net) (g net)) sum (joint_segment (get_or a left d) (get_or b right d) at) (is.under f g s t)
    (joined_under f g (get_or a left d) (get_or b right d) at (under_at f a left d s is.left_is.inside)
    (under_at g b right d t is.right_is.inside))

begins_added : (sum : List Segment) (segment : Segment) (start at next : ℤ) → end_of sum at ≡ start → segment.most ≡ at
    → end_of (sum ++ segment ∷ []) next ≡ start
begins_added sum segment start at next e own = end_more sum segment next ∙ ap (end_of sum) own ∙ e

max_least : (x y low at : ℤ) → low ≡ int_max x y → x ≤ℤ at → y ≤ℤ at → (x ≤ℤ low) × (y ≤ℤ low) × (low ≤ℤ at)
max_least x y low at e l m = let is = int_max_is x y in (omega (arith, ints, e, is), omega (arith, ints, e, is), omega (arith, ints, e, is, l, m))

pub next_added : (a b sum : List Segment) (start at lower : ℤ) (left right next_left next_right : ℕ) (d : Segment)
    → IsAdded a b sum start at left right → left + 1 < length a → right + 1 < length b
    → lower ≡ int_max (get_or a (left + 1) d).most (get_or b (right + 1) d).most
    → IsPast a left lower next_left → IsPast b right lower next_right
    → IsAdded a b (sum ++ joint_segment (get_or a left d) (get_or b right d) at ∷ []) start lower next_left next_right
next_added a b sum start at lower left right next_left next_right d is la lb top pa pb =
    let sa : suc left < length a = omega (arith, la) in
    let sb : suc right < length b = omega (arith, lb) in
    let x = most_at a (left + 1) (suc left) d d la (omega arith) in
    let y = most_at b (right + 1) (suc right) d d lb (omega arith) in
    let greatest = int_max_is (get_or a (left + 1) d).most (get_or b (right + 1) d).most in
    record {
      left_last = past_last a lower left next_left
          (λ e. (let m = most_at a (left + 1) (suc left) d e la (omega arith) in omega (arith, ints, m, top, greatest))) pa;
      right_last = past_last b lower right next_right
          (λ e. (let m = most_at b (right + 1) (suc right) d e lb (omega arith) in omega (arith, ints, m, top, greatest))) pb;
      under = λ f g s t. under_added f g a b sum start at left right d is s t;
      priced = λ f g ss ps s t p q.
          (let was = is.are_segments f g s t in
          priced_more (ss ∷ ps) sum (joint_segment (get_or a left d) (get_or b right d) at) lower (is.priced f g ss ps s t p q)
          (joined_priced ss ps (get_or a left d) (get_or b right d) (get_or a (suc left) d).most (get_or b (suc right) d).most at lower
          (priced_inside (ss ∷ []) a (bottom_of a) left d p sa) (priced_inside ps b (bottom_of b) right d q sb)
          (omega (arith, ints, x, top, greatest)) (omega (arith, ints, y, top, greatest)) (was.0.holds d) (was.1.holds d)
          (is.left_last.apart d sa) (is.right_last.apart d sb)));
      left_is = past_place a lower left next_left d sa pa;
      right_is = past_place b lower right next_right d sb pb;
      begins = begins_added sum (joint_segment (get_or a left d) (get_or b right d) at) start at lower is.begins refl;
      over = λ f t.
          (let under = bottom_under f b (right + 1) d t lb in
          omega (arith, ints, under, top, greatest));
      small = λ n m s t. small_added n m a b sum start at left right d is s t;
      are_segments = λ f g s t.
          (let was = is.are_segments f g s t in
          let first = segment_inside f a (bottom_of a) left d s sa in
          let second = segment_inside g b (bottom_of b) right d t sb in
          let under_a = was.0.next d sa in let under_b = was.1.next d sb in
          let falls = max_least (get_or a (left + 1) d).most (get_or b (right + 1) d).most lower at top (omega (arith, ints, under_a, x))
          (omega (arith, ints, under_b, y)) in (
            past_stands f a at lower left next_left s was.0 falls.2
                (λ e. (let m = most_at a (left + 1) (suc left) d e la (omega arith) in omega (arith, ints, m, falls.0))) pa,
            past_stands g b at lower right next_right t was.1 falls.2
                (λ e. (let m = most_at b (right + 1) (suc right) d e lb (omega arith) in omega (arith, ints, m, falls.1))) pb,
            segments_more (λ net. both (f net) (g net)) sum (joint_segment (get_or a left d) (get_or b right d) at) lower was.2
                (joined_is f g (get_or a left d) (get_or b right d) (get_or a (suc left) d).most (get_or b (suc right) d).most at lower first
                second
                (omega (arith, ints, x, falls.0)) (omega (arith, ints, y, falls.1)) falls.2 (was.0.holds d) (was.1.holds d)),
          ));
    }

-- fewer segments are left
pub shorter : (a b : List Segment) (lower : ℤ) (left right next_left next_right : ℕ) (d : Segment) → left + 1 < length a
    → right + 1 < length b → lower ≡ int_max (get_or a (left + 1) d).most (get_or b (right + 1) d).most
    → IsPast a left lower next_left → IsPast b right lower next_right
    → (length a - next_left) + (length b - next_right) < (length a - left) + (length b - right)
shorter a b lower left right next_left next_right d la lb top (inl (e, is)) (inl (k, are)) = omega (arith, la, lb, e, k)
shorter a b lower left right next_left next_right d la lb top (inl (e, is)) (inr (k, differs)) = omega (arith, la, lb, e, k)
shorter a b lower left right next_left next_right d la lb top (inr (e, differs)) (inl (k, is)) = omega (arith, la, lb, e, k)
shorter a b lower left right next_left next_right d la lb top (inr (e, differs)) (inr (k, apart)) =
    let is = int_max_is (get_or a (left + 1) d).most (get_or b (right + 1) d).most in
    absurd (by_lt_z (get_or a (left + 1) d).most (get_or b (right + 1) d).most
    (λ less. apart d (omega (arith, ints, top, is, less)))
    (λ more. differs d (omega (arith, ints, top, is, more))))

-- ---- the whole sum
pub all_segments : (f g : ℤ → Option ℤ) (a b sum : List Segment) (start at : ℤ) (left right : ℕ) (d : Segment)
    → IsAdded a b sum start at left right → AreSegments f a (bottom_of a) → AreSegments g b (bottom_of b)
    → AreSegments (λ net. both (f net) (g net)) (sum ++ joint_segment (get_or a left d) (get_or b right d) at ∷ [])
    (bottom_of (sum ++ joint_segment (get_or a left d) (get_or b right d) at ∷ []))
all_segments f g a b sum start at left right d is s t =
    let segment = joint_segment (get_or a left d) (get_or b right d) at in
    let was = is.are_segments f g s t in
    let first = segment_here f a at left d s is.left_is was.0 in
    let second = segment_here g b at right d t is.right_is was.1 in
    subst (AreSegments (λ net. both (f net) (g net)) (sum ++ segment ∷ [])) (sym (bottom_more sum segment))
    (segments_more (λ net. both (f net) (g net)) sum segment at was.2
    (joined_is f g (get_or a left d) (get_or b right d) first.0 second.0 at at first.1 second.1 first.2 second.2 (omega (arith, ints))
    (was.0.holds d) (was.1.holds d)))

pub all_priced : (f g : ℤ → Option ℤ) (ss : List Step) (ps : List (List Step)) (a b sum : List Segment) (start at : ℤ) (left right : ℕ)
    (d : Segment)
    → IsAdded a b sum start at left right → AreSegments f a (bottom_of a) → AreSegments g b (bottom_of b)
    → ArePriced (ss ∷ []) a (bottom_of a) → ArePriced ps b (bottom_of b)
    → ArePriced (ss ∷ ps) (sum ++ joint_segment (get_or a left d) (get_or b right d) at ∷ [])
    (bottom_of (sum ++ joint_segment (get_or a left d) (get_or b right d) at ∷ []))
all_priced f g ss ps a b sum start at left right d is s t p q =
    let segment = joint_segment (get_or a left d) (get_or b right d) at in
    let was = is.are_segments f g s t in
    let first = priced_here (ss ∷ []) a at left d p is.left_is was.0 is.left_last in
    let second = priced_here ps b at right d q is.right_is was.1 is.right_last in
    subst (ArePriced (ss ∷ ps) (sum ++ segment ∷ [])) (sym (bottom_more sum segment))
    (priced_more (ss ∷ ps) sum segment at (is.priced f g ss ps s t p q)
    (joined_priced ss ps (get_or a left d) (get_or b right d) first.0 second.0 at at first.1 second.1 first.2 second.2
    (was.0.holds d) (was.1.holds d) first.3 second.3))

outside_parts : (ls : List Segment) (net : ℤ) → 0 < length ls → IsOutside ls net → (net <ℤ bottom_of ls) ⊎ (end_of ls (pos 0) <ℤ net)
outside_parts [] net l o = absurd (omega (arith, l))
outside_parts (segment ∷ ls) net l o = o

pub outside_from : (ls : List Segment) (net : ℤ) → 0 < length ls → (net <ℤ bottom_of ls) ⊎ (end_of ls (pos 0) <ℤ net) → IsOutside ls net
outside_from [] net l o = absurd (omega (arith, l))
outside_from (segment ∷ ls) net l o = o

some_more : (ls : List Segment) (segment : Segment) → 0 < length (ls ++ segment ∷ [])
some_more [] segment = omega arith
some_more (l ∷ ls) segment = omega arith

-- above the lesser of two greatest net volumes one of the two lists doesn't hold
pub end_at : (ls : List Segment) (d : Segment) → 0 < length ls → end_of ls (pos 0) ≡ (get_or ls 0 d).most
end_at [] d l = absurd (omega (arith, l))
end_at (segment ∷ ls) d l = refl

pub above : (a b : List Segment) (start net : ℤ) (d : Segment) → 0 < length a → 0 < length b
    → start ≡ int_min (get_or a 0 d).most (get_or b 0 d).most → start <ℤ net
    → IsOutside a net ⊎ IsOutside b net
above a b start net d la lb e l =
    let x = end_at a d la in let y = end_at b d lb in let is = int_min_is (get_or a 0 d).most (get_or b 0 d).most in
    by_lt_z (end_of a (pos 0)) net (λ less. inl (outside_from a net la (inr less)))
    (λ more. inr (outside_from b net lb (inr (omega (arith, ints, e, l, more, x, y, is)))))

-- the lesser of two greatest net volumes is no greater than either
pub under_first : (a b : List Segment) (start : ℤ) (d e : Segment) → 0 < length a → 0 < length b
    → start ≡ int_min (get_or a 0 d).most (get_or b 0 d).most
    → (start ≤ℤ (get_or a 0 e).most) × (start ≤ℤ (get_or b 0 e).most)
under_first a b start d e la lb s =
    let x = most_at a 0 0 d e la refl in let y = most_at b 0 0 d e lb refl in
    let is = int_min_is (get_or a 0 d).most (get_or b 0 d).most in
    (omega (arith, ints, s, x, is), omega (arith, ints, s, y, is))

-- the sum goes no further than the second list
pub all_within : (g : ℤ → Option ℤ) (a b sum : List Segment) (start at least most : ℤ) (left right : ℕ) (d : Segment)
    → IsAdded a b sum start at left right → AreSegments g b (bottom_of b) → start ≡ int_min (get_or a 0 d).most (get_or b 0 d).most
    → AreWithin b least most → AreWithin (sum ++ joint_segment (get_or a left d) (get_or b right d) at ∷ []) least most
all_within g a b sum start at least most left right d is t e within some =
    let segment = joint_segment (get_or a left d) (get_or b right d) at in
    let inside = is.right_is.inside in
    let any : 0 < length b = omega (arith, inside) in
    let ends = within any in
    let over = is.over g t in
    let bottom = bottom_more sum segment in
    let top = begins_added sum segment start at (pos 0) is.begins refl in
    let first = end_at b d any in
    let is_least = int_min_is (get_or a 0 d).most (get_or b 0 d).most in
    (omega (arith, ints, ends.0, over, bottom), omega (arith, ints, ends.1, top, first, e, is_least))

-- where the one list ends above the greatest net volume of the other, one of the two holds nowhere
pub apart_outside : (a b : List Segment) (start net : ℤ) (d : Segment) → 0 < length a → 0 < length b
    → start ≡ int_min (get_or a 0 d).most (get_or b 0 d).most
    → (start <ℤ (get_or a (length a - 1) d).most) ⊎ (start <ℤ (get_or b (length b - 1) d).most) → IsOutside a net ⊎ IsOutside b net
apart_outside a b start net d la lb e (inl less) =
    let bottom = bottom_at a (length a - 1) d (omega (arith, la)) in
    by_lt_z start net (λ over. above a b start net d la lb e over)
    (λ under. inl (outside_from a net la (inl (omega (arith, ints, bottom, less, under)))))
apart_outside a b start net d la lb e (inr less) =
    let bottom = bottom_at b (length b - 1) d (omega (arith, lb)) in
    by_lt_z start net (λ over. above a b start net d la lb e over)
    (λ under. inr (outside_from b net lb (inl (omega (arith, ints, bottom, less, under)))))

below_last : (ls : List Segment) (at net : ℤ) (place : ℕ) (d : Segment) → StandsAt ls at place → suc place ≡ length ls → net <ℤ at
    → IsOutside ls net
below_last ls at net place d s e l =
    let bottom = bottom_at ls place d e in let own = s.holds d in
    outside_from ls net (omega (arith, e)) (inl (omega (arith, ints, bottom, own, l)))

pub all_outside : (f g : ℤ → Option ℤ) (a b sum : List Segment) (start at net : ℤ) (left right : ℕ) (d : Segment)
    → IsAdded a b sum start at left right
    → AreSegments f a (bottom_of a) → AreSegments g b (bottom_of b) → (suc left ≡ length a) ⊎ (suc right ≡ length b)
    → start ≡ int_min (get_or a 0 d).most (get_or b 0 d).most
    → IsOutside (sum ++ joint_segment (get_or a left d) (get_or b right d) at ∷ []) net → IsOutside a net ⊎ IsOutside b net
all_outside f g a b sum start at net left right d is s t whole least o =
    parted (outside_parts (sum ++ segment ∷ []) net (some_more sum segment) o)
  where
    segment : Segment
    segment = joint_segment (get_or a left d) (get_or b right d) at

    under : (suc left ≡ length a) ⊎ (suc right ≡ length b) → net <ℤ at → IsOutside a net ⊎ IsOutside b net
    under (inl e) l = inl (below_last a at net left d (is.are_segments f g s t).0 e l)
    under (inr e) l = inr (below_last b at net right d (is.are_segments f g s t).1 e l)

    parted : (net <ℤ bottom_of (sum ++ segment ∷ [])) ⊎ (end_of (sum ++ segment ∷ []) (pos 0) <ℤ net) → IsOutside a net ⊎ IsOutside b net
    parted (inl less) = under whole (let e = bottom_more sum segment in omega (arith, ints, less, e))
    parted (inr more) =
        let e = begins_added sum segment start at (pos 0) is.begins refl in
        let la = is.left_is.inside in let lb = is.right_is.inside in
        above a b start net d (omega (arith, la)) (omega (arith, lb)) least (omega (arith, ints, more, e))
