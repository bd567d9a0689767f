-- The making of the classes: their net volumes, their curves over the hourly orders, and the list of them.
use Rattle.dam_bound.proofs.Common.{◌≡◌, ◌≢◌, ℕ, zero, suc, ◌+◌, ◌-◌, ◌*◌, ◌<◌, ◌≤◌, ◌==◌, cond, Bool, true, false, ℤ, neg_ℤ, ◌+ℤ◌, ◌≤ℤ◌, Some, List, [], ◌∷◌}
use Rattle.dam_bound.proofs.Common.{◌++◌, length, map, drop, take, slice_set, ap, ap₂, ◌∙◌, sym, subst, refl, arith, slice_get, int_max, int_min, ints}
use Rattle.dam_bound.proofs.Common.{int_max_is, int_min_is, to_z-of_z, nat_tests, take_all, BlockTerms, most_blocks, last_period, greatest_volume, Step}
use Rattle.dam_bound.proofs.Common.{CurvesState, Block, ProblemState, AreBlocks, IsWithin, net_volume_of_block, members, class_orders, least_net_in}
use Rattle.dam_bound.proofs.Common.{most_net_in, IsClassIn, at_places, over_periods, Class, AreNumbersWithin, negative_sum}
use Rattle.std.proofs.Common.{pos}
use mir.Syntax.{w32, w64}
use mir.Val.{to_z, of_z}
use Rattle.dam_curve.specs.Curve.{IsCurve, IsCurveAt, Keeps}
use Rattle.dam_curve.specs.declared.segment.Segment.{Segment}
use Rattle.dam_bound.specs.Classes.{first_of_class}
use Rattle.dam_bound.specs.ClassCurves.{AreClasses}
use Rattle.dam_bound.specs.Sums.{firsts_from}
use Rattle.dam_bound.specs.inside.BlockNumbers.{positive_sum}
use Rattle.dam_bound.proofs.AtPlaces.{at_next, all_within, net_small, order_at}
use Rattle.dam_bound.proofs.ClassPlaces.{place_more, place_none}
use Rattle.dam_bound.proofs.Levelling.{drop_at}

-- ---- the net volumes that selections make
least_none : (n : ℕ) (f : BlockTerms → ℤ) → negative_sum (at_places n f []) ≡ pos 0
least_none zero f = refl
least_none (suc n) f = let rest = least_none n f in let is = int_min_is (pos 0) (pos 0) in omega (arith, ints, rest, is)

pub least_is : (n t : ℕ) (bs : List Block) → length bs ≤ n → negative_sum (at_places n (net_volume_of_block t) bs) ≡ least_net_in t bs
least_is n t [] l = least_none n (net_volume_of_block t)
least_is zero t (b ∷ bs) l = absurd (omega (arith, l))
least_is (suc n) t (b ∷ bs) l = ap (λ (z : ℤ). int_min (net_volume_of_block t b.order) (pos 0) +ℤ z) (least_is n t bs (omega (arith, l)))

most_none : (n : ℕ) (f : BlockTerms → ℤ) → positive_sum (at_places n f []) ≡ pos 0
most_none zero f = refl
most_none (suc n) f = let rest = most_none n f in let is = int_max_is (pos 0) (pos 0) in omega (arith, ints, rest, is)

pub most_is : (n t : ℕ) (bs : List Block) → length bs ≤ n → positive_sum (at_places n (net_volume_of_block t) bs) ≡ most_net_in t bs
most_is n t [] l = most_none n (net_volume_of_block t)
most_is zero t (b ∷ bs) l = absurd (omega (arith, l))
most_is (suc n) t (b ∷ bs) l = ap (λ (z : ℤ). int_max (net_volume_of_block t b.order) (pos 0) +ℤ z) (most_is n t bs (omega (arith, l)))

-- the sums of the numbers so far
pub record IsRangeSoFar (nets : List ℤ) (i : ℕ) (least most : ℤ) : Type 0 where
  pub least_is : least +ℤ negative_sum (drop i nets) ≡ negative_sum nets
  pub most_is : most +ℤ positive_sum (drop i nets) ≡ positive_sum nets
  pub least_low : neg_ℤ (pos (i * greatest_volume)) ≤ℤ least
  pub least_high : least ≤ℤ pos 0
  pub most_low : pos 0 ≤ℤ most
  pub most_high : most ≤ℤ pos (i * greatest_volume)

-- the size of the smaller and of the greater of a number and 0
pub record IsPart (low high : ℤ) : Type 0 where
  pub low_low : neg_ℤ (pos greatest_volume) ≤ℤ low
  pub low_high : low ≤ℤ pos 0
  pub high_low : pos 0 ≤ℤ high
  pub high_high : high ≤ℤ pos greatest_volume

pub parts_of : (x : ℤ) → IsWithin greatest_volume x → IsPart (int_min x (pos 0)) (int_max x (pos 0))
parts_of x w =
    let l = w.at_least in let h = w.at_most in let a = int_min_is x (pos 0) in let b = int_max_is x (pos 0) in record {
      low_low = omega (arith, ints, l, h, a);
      low_high = omega (arith, ints, l, h, a);
      high_low = omega (arith, ints, l, h, b);
      high_high = omega (arith, ints, l, h, b);
    }

pub range_more : (nets : List ℤ) (i : ℕ) (x least most after_least after_most : ℤ) → slice_get nets i ≡ Some x → IsWithin greatest_volume x
    → after_least ≡ least +ℤ int_min x (pos 0) → after_most ≡ most +ℤ int_max x (pos 0) → IsRangeSoFar nets i least most
    → IsRangeSoFar nets (i + 1) after_least after_most
range_more nets i x least most after_least after_most at w e f so_far =
    let p = parts_of x w in let a = p.low_low in let b = p.low_high in let c = p.high_low in let d = p.high_high in
    let lows = ap negative_sum (drop_at nets i x at) in let highs = ap positive_sum (drop_at nets i x at) in
    let l = so_far.least_is in let m = so_far.most_is in
    let g = so_far.least_low in let h = so_far.least_high in let j = so_far.most_low in let k = so_far.most_high in record {
      least_is = omega (arith, ints, lows, l, e);
      most_is = omega (arith, ints, highs, m, f);
      least_low = omega (arith, ints, g, a, e);
      least_high = omega (arith, ints, h, b, e);
      most_low = omega (arith, ints, j, c, f);
      most_high = omega (arith, ints, k, d, f);
    }

-- ---- the members of a class
-- those of the periods from a place on
abbrev pub orders_from : ProblemState → ℕ → ℕ → List (List Step)
orders_from problem c at = members problem.blocks c at (drop at problem.hours)

pub member_here : (problem : ProblemState) (c at : ℕ) (ss : List Step) → slice_get problem.hours at ≡ Some ss
    → first_of_class problem.blocks at ≡ c → orders_from problem c at ≡ ss ∷ orders_from problem c (at + 1)
member_here problem c at ss there e =
    let same : (first_of_class problem.blocks at == c) ≡ true = grind (arith, nat_tests) in
    let next : suc at ≡ at + 1 = omega arith in
    let later = drop (at + 1) problem.hours in
    ap (members problem.blocks c at) (drop_at problem.hours at ss there)
    ∙ ap (λ (t : Bool). cond t (ss ∷ members problem.blocks c (suc at) later) (members problem.blocks c (suc at) later)) same
    ∙ ap (λ (n : ℕ). ss ∷ members problem.blocks c n later) next

pub member_elsewhere : (problem : ProblemState) (c at : ℕ) (ss : List Step) → slice_get problem.hours at ≡ Some ss
    → first_of_class problem.blocks at ≢ c → orders_from problem c at ≡ orders_from problem c (at + 1)
member_elsewhere problem c at ss there e =
    let apart : (first_of_class problem.blocks at == c) ≡ false = grind (arith, nat_tests) in
    let next : suc at ≡ at + 1 = omega arith in
    let later = drop (at + 1) problem.hours in
    ap (members problem.blocks c at) (drop_at problem.hours at ss there)
    ∙ ap (λ (t : Bool). cond t (ss ∷ members problem.blocks c (suc at) later) (members problem.blocks c (suc at) later)) apart
    ∙ ap (λ (n : ℕ). members problem.blocks c n later) next

few_members : (blocks : List Block) (c i : ℕ) (hours : List (List Step)) → length (members blocks c i hours) ≤ length hours
few_members blocks c i [] = omega arith
few_members blocks c i (ss ∷ hours) =
    let rest = few_members blocks c (suc i) hours in
    elim (first_of_class blocks i == c) as (λ t.
    length (cond t (ss ∷ members blocks c (suc i) hours) (members blocks c (suc i) hours)) ≤ suc (length hours)) [
      | true ↦ omega (arith, rest)
      | false ↦ omega (arith, rest)
    ]

length_drop : {X : Type 0} (xs : List X) (n : ℕ) → length (drop n xs) ≡ length xs - n
length_drop xs zero = omega arith
length_drop [] (suc n) = omega arith
length_drop (x ∷ xs) (suc n) = let rest = length_drop xs n in omega (arith, rest)

pub few_from : (problem : ProblemState) (c at : ℕ) → at < length problem.hours → length problem.hours ≤ last_period
    → length (orders_from problem c (at + 1)) < last_period
few_from problem c at l short =
    let few = few_members problem.blocks c (at + 1) (drop (at + 1) problem.hours) in
    let rest = length_drop problem.hours (at + 1) in
    omega (arith, few, rest, l, short)

-- ---- the curve, period by period
abbrev pub IsCurveFrom : ProblemState → ℕ → List ℤ → ℕ → List Segment → Type 0
IsCurveFrom problem c nets at segments = IsCurve (orders_from problem c at) (negative_sum nets) (positive_sum nets) segments

pub curve_kept : (problem : ProblemState) (c : ℕ) (nets : List ℤ) (at : ℕ) (ss : List Step) (segments : List Segment)
    → slice_get problem.hours at ≡ Some ss → first_of_class problem.blocks at ≢ c
    → IsCurveFrom problem c nets (at + 1) segments → IsCurveFrom problem c nets at segments
curve_kept problem c nets at ss segments there apart is =
    subst (λ (hs : List (List Step)). IsCurve hs (negative_sum nets) (positive_sum nets) segments)
    (sym (member_elsewhere problem c at ss there apart)) is

pub curve_more : (problem : ProblemState) (c : ℕ) (nets : List ℤ) (at : ℕ) (ss : List Step) (segments : List Segment)
    → slice_get problem.hours at ≡ Some ss → first_of_class problem.blocks at ≡ c
    → IsCurve (ss ∷ orders_from problem c (at + 1)) (negative_sum nets) (positive_sum nets) segments
    → IsCurveFrom problem c nets at segments
curve_more problem c nets at ss segments there same is =
    subst (λ (hs : List (List Step)). IsCurve hs (negative_sum nets) (positive_sum nets) segments)
    (sym (member_here problem c at ss there same)) is

-- ---- the classes so far
pub record AreClassesSoFar (problem : ProblemState) (curves : CurvesState) (at : ℕ) (classes : List Class) : Type 0 where
  pub places_are : map (λ (class : Class). class.first_place) classes ≡ firsts_from problem.blocks 0 at
  pub each : (j : ℕ) (class : Class) → slice_get classes j ≡ Some class → IsClassIn problem curves class

kept : (problem : ProblemState) (before after : CurvesState) (at : ℕ) (classes : List Class) → Keeps before after
    → AreClassesSoFar problem before at classes → AreClassesSoFar problem after at classes
kept problem before after at classes keeps so_far = record {
  places_are = so_far.places_are;
  each = λ j class there.
      (let is = so_far.each j class there in
      record { curve_is = keeps.curves class.curve _ _ _ is.curve_is; nets_are = is.nets_are });
}

mapped_end : {X Y : Type 0} (f : X → Y) (xs : List X) (x : X) → map f (xs ++ x ∷ []) ≡ map f xs ++ f x ∷ []
mapped_end f [] x = refl
mapped_end f (y ∷ xs) x = ap (λ (ys : List _). f y ∷ ys) (mapped_end f xs x)

at_end : {X : Type 0} (xs : List X) (x : X) (P : X → Type 0) → ((j : ℕ) (y : X) → slice_get xs j ≡ Some y → P y) → P x
    → (j : ℕ) (y : X) → slice_get (xs ++ x ∷ []) j ≡ Some y → P y
at_end [] x P each own zero y at = let same : x ≡ y = cc in subst P same own
at_end [] x P each own (suc j) y at = absurd (cc)
at_end (z ∷ xs) x P each own zero y at = each 0 y at
at_end (z ∷ xs) x P each own (suc j) y at = at_end xs x P (λ k w there. each (suc k) w there) own j y at

pub one_class : (problem : ProblemState) (before after : CurvesState) (at : ℕ) (classes : List Class) (class : Class) → Keeps before after
    → first_of_class problem.blocks at ≡ at → class.first_place ≡ at → length problem.blocks ≤ most_blocks
    → IsCurveAt after class.curve (class_orders problem at) (negative_sum class.nets) (positive_sum class.nets)
    → class.nets ≡ at_places most_blocks (net_volume_of_block (at + 1)) problem.blocks
    → AreClassesSoFar problem before at classes → AreClassesSoFar problem after (at + 1) (classes ++ class ∷ [])
one_class problem before after at classes class keeps first same few curve nets so_far =
    let was = kept problem before after at classes keeps so_far in
    let none : 0 + at ≡ at = omega arith in
    let number : suc at ≡ at + 1 = omega arith in
    let blocks = problem.blocks in
    let more = place_more blocks 0 at (ap (first_of_class blocks) none ∙ first ∙ sym none) in
    let low = ap negative_sum nets ∙ least_is most_blocks (at + 1) blocks few in
    let high = ap positive_sum nets ∙ most_is most_blocks (at + 1) blocks few in
    let own : IsClassIn problem after class = record {
      curve_is = subst (λ (n : ℕ). IsCurveAt after class.curve (class_orders problem n) (least_net_in (n + 1) blocks) (most_net_in (n + 1) blocks))
          (sym same)
          (subst (λ (z : ℤ). IsCurveAt after class.curve (class_orders problem at) (least_net_in (at + 1) blocks) z) high
          (subst (λ (z : ℤ). IsCurveAt after class.curve (class_orders problem at) z (positive_sum class.nets)) low curve));
      nets_are = subst (λ (n : ℕ). class.nets ≡ at_places most_blocks (net_volume_of_block (n + 1)) blocks) (sym same) nets;
    } in record {
      places_are = mapped_end (λ (x : Class). x.first_place) classes class
          ∙ ap₂ (λ (ps : List ℕ) (n : ℕ). ps ++ n ∷ []) was.places_are (same ∙ sym none)
          ∙ sym more ∙ ap (firsts_from blocks 0) number;
      each = at_end classes class (IsClassIn problem after) was.each own;
    }

pub no_new_class : (problem : ProblemState) (curves : CurvesState) (at : ℕ) (classes : List Class) → first_of_class problem.blocks at ≢ at
    → AreClassesSoFar problem curves at classes → AreClassesSoFar problem curves (at + 1) classes
no_new_class problem curves at classes apart so_far =
    let none : 0 + at ≡ at = omega arith in
    let number : suc at ≡ at + 1 = omega arith in
    record {
      places_are = so_far.places_are
          ∙ sym (place_none problem.blocks 0 at (λ same. apart (ap (first_of_class problem.blocks) (sym none) ∙ same ∙ none)))
          ∙ ap (firsts_from problem.blocks 0) number;
      each = so_far.each;
    }

pub all_classes : (problem : ProblemState) (curves : CurvesState) (at : ℕ) (classes : List Class) → at ≡ length problem.hours
    → AreClassesSoFar problem curves at classes → AreClasses problem curves classes
all_classes problem curves at classes all so_far = record {
  places_are = so_far.places_are ∙ ap (firsts_from problem.blocks 0) all;
  each = so_far.each;
}

-- ---- the value of a block, period by period
pub value_more : (f : ℕ → ℤ) (count at : ℕ) (total own after : ℤ) → at < count → own ≡ f (at + 1) → after ≡ total +ℤ own
    → total +ℤ over_periods f (suc at) (count - at) ≡ over_periods f 1 count
    → after +ℤ over_periods f (suc (at + 1)) (count - (at + 1)) ≡ over_periods f 1 count
value_more f count at total own after l e g so_far =
    let left : count - at ≡ suc (count - (at + 1)) = omega (arith, l) in
    let number : suc at ≡ at + 1 = omega arith in
    let step = ap (over_periods f (suc at)) left in
    let here = ap f number in
    let rest = ap (λ (n : ℕ). over_periods f (suc n) (count - (at + 1))) number in
    omega (arith, ints, e, g, so_far, step, here, rest)

-- ---- the numbers of the blocks, block by block
pub number_more : (f : BlockTerms → ℤ) (bs : List Block) (i : ℕ) (b : Block) (xs : List ℤ) (x : ℤ) → slice_get bs i ≡ Some b
    → length bs ≤ most_blocks → x ≡ f b.order → xs ≡ at_places most_blocks f (take i bs)
    → slice_set xs i x ≡ at_places most_blocks f (take (i + 1) bs)
number_more f bs i b xs x at few e so_far =
    let number : suc i ≡ i + 1 = omega arith in
    ap₂ (λ (ys : List ℤ) (y : ℤ). slice_set ys i y) so_far e ∙ at_next most_blocks f bs i b at few
    ∙ ap (λ (n : ℕ). at_places most_blocks f (take n bs)) number

pub nets_within : (periods t : ℕ) (bs : List Block) (i : ℕ) (nets : List ℤ) → AreBlocks periods bs → length bs ≤ i
    → nets ≡ at_places most_blocks (net_volume_of_block t) (take i bs) → AreNumbersWithin greatest_volume nets
nets_within periods t bs i nets are past is =
    all_within (net_volume_of_block t) bs greatest_volume nets (is ∙ ap (at_places most_blocks (net_volume_of_block t)) (take_all i bs past))
    (λ k b at. net_small t b.order (order_at periods bs k b are at))

pub net_fits : (x : ℤ) → neg_ℤ (pos greatest_volume) ≤ℤ x → x ≤ℤ pos greatest_volume
    → to_z w32 (of_z w32 (to_z w64 (of_z w64 x))) ≡ x
net_fits x l h =
    ap (λ (z : ℤ). to_z w32 (of_z w32 z)) (to_z-of_z w64 x (omega (arith, ints, l, h))) ∙ to_z-of_z w32 x (omega (arith, ints, l, h))
