-- A pricing, line by line.
use Rattle.dam_bound.proofs.Common.{◌≡◌, ◌≢◌, ℕ, zero, suc, ◌+◌, ◌*◌, ◌<◌, ◌≤◌, Bool, ℤ, ◌+ℤ◌, ◌*ℤ◌, Option, Some, List, [], ◌∷◌, length, map, take, get_or}
use Rattle.dam_bound.proofs.Common.{slice_set, ap, ap₂, ◌∙◌, sym, subst, refl, inl, inr, arith, slice_get, ints, to_z-of_z, get_or-set_same, get_or-set_other}
use Rattle.dam_bound.proofs.Common.{length-set, take_all, slice_get_within, slice_get-get_or, SFits, cases_eq, BlockTerms, most_blocks, last_period}
use Rattle.dam_bound.proofs.Common.{greatest_volume, greatest_price, greatest_value, CurvesState, Line, ProblemState, AreBlocks, IsWithin, net_volume_of_block}
use Rattle.dam_bound.proofs.Common.{day_value, IsClassIn, AreClassCurves, line_in, IsByLines, class_places, over_places, at_places, Class, Pricing}
use Rattle.dam_bound.proofs.Common.{AreNumbersWithin, AreRaised}
use Rattle.std.proofs.Common.{pos}
use mir.Syntax.{w32, w64}
use mir.Val.{to_z, of_z}
use Rattle.dam_curve.specs.Line.{IsSmallLine}
use Rattle.dam_curve.specs.Curve.{greatest_segment_surplus}
use Rattle.dam_bound.specs.Classes.{first_of_class}
use Rattle.dam_bound.specs.ClassCurves.{AreClasses}
use Rattle.dam_bound.specs.Prices.{IsClassLine, IsPricing}
use Rattle.dam_bound.proofs.Sizes.{added_up}
use Rattle.dam_bound.proofs.AtPlaces.{at_same, all_within, raised_is, order_at, net_small, value_small}
use Rattle.dam_bound.proofs.ClassPlaces.{over_same, over_within, over_next, take_get, is_place, listed, few_places, rising, few_taken, no_class, one_more}
use Rattle.dam_bound.proofs.Lining.{bounds_welfare}
use Rattle.dam_bound.proofs.PlaceSums.{times_within}

-- ---- the classes
pub mapped_at : {X Y : Type 0} (f : X → Y) (xs : List X) (j : ℕ) (x : X) → slice_get xs j ≡ Some x → slice_get (map f xs) j ≡ Some (f x)
mapped_at f [] j x at = absurd (cc)
mapped_at f (y ∷ xs) zero x at = let same : y ≡ x = cc in ap (λ (z : _). Some (f z)) same
mapped_at f (y ∷ xs) (suc j) x at = mapped_at f xs j x at

pub mapped_long : {X Y : Type 0} (f : X → Y) (xs : List X) → length (map f xs) ≡ length xs
mapped_long f [] = refl
mapped_long f (x ∷ xs) = ap suc (mapped_long f xs)

-- the class at a place of the list begins at its place
pub record IsAtPlace (problem : ProblemState) (j c : ℕ) : Type 0 where
  pub place : slice_get (class_places problem) j ≡ Some c
  pub first : first_of_class problem.blocks c ≡ c
  pub inside : c < length problem.hours
  pub below : c < last_period
  pub index : j < last_period

pub class_at : (problem : ProblemState) (curves : CurvesState) (classes : List Class) (j : ℕ) (class : Class) → length problem.hours ≤ last_period
    → AreClasses problem curves classes → slice_get classes j ≡ Some class → IsAtPlace problem j class.first_place
class_at problem curves classes j class few are at =
    let there = mapped_at (λ (x : Class). x.first_place) classes j class at in
    let place = ap (λ (ps : List ℕ). slice_get ps j) (sym are.places_are) ∙ there in
    let is = is_place problem.blocks 0 (length problem.hours) j class.first_place place in let below = is.below in
    let many = few_places problem.blocks 0 (length problem.hours) in
    let index = slice_get_within (class_places problem) j class.first_place place in record {
      place = place;
      first = is.first;
      inside = omega (arith, below);
      below = omega (arith, below, few);
      index = omega (arith, index, many, few);
    }

pub as_many : (problem : ProblemState) (curves : CurvesState) (classes : List Class) → AreClasses problem curves classes
    → length (class_places problem) ≡ length classes
as_many problem curves classes are = sym (ap (λ (ps : List ℕ). length ps) are.places_are) ∙ mapped_long (λ (x : Class). x.first_place) classes

-- ---- the lines so far
-- the surplus of a block at the prices of the classes at these places
abbrev pub gain_over : ProblemState → List Line → List ℕ → BlockTerms → ℤ
gain_over problem lines places o = day_value problem o +ℤ over_places (λ c. (line_in lines c).price *ℤ net_volume_of_block (c + 1) o) places

pub record IsLinedSoFar (problem : ProblemState) (j : ℕ) (base : ℤ) (gains : List ℤ) (lines : List Line) : Type 0 where
  pub long : length lines ≡ last_period
  pub lines_are : (i c : ℕ) → i < j → slice_get (class_places problem) i ≡ Some c → IsClassLine problem c (line_in lines c)
  pub base_is : base ≡ over_places (λ c. (line_in lines c).surplus) (take j (class_places problem))
  pub gains_are : gains ≡ at_places most_blocks (gain_over problem lines (take j (class_places problem))) problem.blocks

pub no_line : (problem : ProblemState) (values : List ℤ) (lines : List Line) → length lines ≡ last_period
    → values ≡ at_places most_blocks (day_value problem) problem.blocks → IsLinedSoFar problem 0 (pos 0) values lines
no_line problem values lines long are = record {
  long = long;
  lines_are = λ i c l at. absurd (omega (arith, l));
  base_is = refl;
  gains_are = are ∙ at_same most_blocks (day_value problem) (gain_over problem lines []) problem.blocks (λ k b at. no_class (day_value problem b.order));
}

-- a line that is written leaves those of earlier classes
pub line_same : (lines : List Line) (c : ℕ) (line : Line) → c < length lines → line_in (slice_set lines c line) c ≡ line
line_same lines c line l = get_or-set_same lines c line _ l

pub line_other : (lines : List Line) (c d : ℕ) (line : Line) → d ≢ c → line_in (slice_set lines c line) d ≡ line_in lines d
line_other lines c d line apart = get_or-set_other lines c d line _ apart

pub earlier : (problem : ProblemState) (j c i d : ℕ) → slice_get (class_places problem) j ≡ Some c → i < j
    → slice_get (class_places problem) i ≡ Some d → d ≢ c
earlier problem j c i d at l there =
    let less = rising problem.blocks 0 (length problem.hours) i j d c there at l in omega (arith, less)

over_kept : (problem : ProblemState) (f : Line → ℕ → ℤ) (lines : List Line) (j c : ℕ) (line : Line) → slice_get (class_places problem) j ≡ Some c
    → c < length lines
    → over_places (λ d. f (line_in (slice_set lines c line) d) d) (take (suc j) (class_places problem))
    ≡ over_places (λ d. f (line_in lines d) d) (take j (class_places problem)) +ℤ f line c
over_kept problem f lines j c line at l =
    let places = class_places problem in
    over_next (λ d. f (line_in (slice_set lines c line) d) d) places j c at
    ∙ ap₂ (λ (a b : ℤ). a +ℤ b)
    (over_same (λ d. f (line_in (slice_set lines c line) d) d) (λ d. f (line_in lines d) d) (take j places) (λ i d there.
    (let found = take_get places j i d there in
    ap (λ (x : Line). f x d) (line_other lines c d line (earlier problem j c i d at found.1 found.0)))))
    (ap (λ (x : Line). f x c) (line_same lines c line l))

pub line_more : (problem : ProblemState) (j : ℕ) (class : Class) (line : Line) (base base_after : ℤ) (gains after : List ℤ) (lines : List Line)
    → length problem.hours ≤ last_period → IsAtPlace problem j class.first_place
    → class.nets ≡ at_places most_blocks (net_volume_of_block (class.first_place + 1)) problem.blocks
    → IsClassLine problem class.first_place line → base_after ≡ base +ℤ line.surplus → AreRaised line.price class.nets gains after
    → IsLinedSoFar problem j base gains lines → IsLinedSoFar problem (j + 1) base_after after (slice_set lines class.first_place line)
line_more problem j class line base base_after gains after lines few is nets_are own sum raised so_far =
    let c = class.first_place in let places = class_places problem in let long = so_far.long in let below = is.below in
    let l : c < length lines = omega (arith, long, below) in
    let number : suc j ≡ j + 1 = omega arith in
    let base_is = so_far.base_is in
    let surpluses = over_kept problem (λ (x : Line) (d : ℕ). x.surplus) lines j c line is.place l in
    let next : base_after ≡ over_places (λ d. (line_in (slice_set lines c line) d).surplus) (take (suc j) places) =
    omega (arith, ints, sum, base_is, surpluses) in
    let gains_next = raised_is (gain_over problem lines (take j places)) (net_volume_of_block (c + 1)) line.price problem.blocks class.nets gains after
    nets_are so_far.gains_are raised in
    subst (λ (n : ℕ). IsLinedSoFar problem n base_after after (slice_set lines c line)) number (record {
      long = length-set lines c line ∙ long;
      lines_are = λ i d less there. elim (cases_eq i j) [
        | inl same ↦
            (let here : c ≡ d = one_place (sym is.place ∙ ap (λ (n : ℕ). slice_get places n) (sym same) ∙ there) in
            subst (λ (m : ℕ). IsClassLine problem m (line_in (slice_set lines c line) m)) here
            (subst (IsClassLine problem c) (sym (line_same lines c line l)) own))
        | inr apart ↦
            (let less_than : i < j = omega (arith, less, apart) in
            subst (IsClassLine problem d) (sym (line_other lines c d line (earlier problem j c i d is.place less_than there)))
            (so_far.lines_are i d less_than there))
      ];
      base_is = next;
      gains_are = gains_next
          ∙ at_same most_blocks (λ o. gain_over problem lines (take j places) o +ℤ line.price *ℤ net_volume_of_block (c + 1) o)
          (gain_over problem (slice_set lines c line) (take (suc j) places)) problem.blocks (λ k b at.
          one_more (day_value problem b.order) _ _ _
          (over_kept problem (λ (x : Line) (d : ℕ). x.price *ℤ net_volume_of_block (d + 1) b.order) lines j c line is.place l));
    })
  where
    one_place : {x y : ℕ} → Some x ≡ Some y → x ≡ y
    one_place e = cc

-- ---- how large the numbers are
one_gain : (line : Line) (x : ℤ) (problem : ProblemState) (c : ℕ) → IsClassLine problem c line → IsWithin greatest_volume x
    → IsWithin (last_period * greatest_value) (line.price *ℤ x)
one_gain line x problem c is small =
    let low = is.small.price_at_least in let high = is.small.price_at_most in
    times_within (last_period * greatest_price) greatest_volume line.price x (record { at_least = low; at_most = high }) small

added_within : (m n k : ℕ) (x y : ℤ) → IsWithin m x → IsWithin n y → m + n ≤ k → IsWithin k (x +ℤ y)
added_within m n k x y u v l =
    let a = u.at_least in let b = u.at_most in let c = v.at_least in let d = v.at_most in
    record { at_least = omega (arith, ints, a, c, l); at_most = omega (arith, ints, b, d, l) }

pub gains_within : (problem : ProblemState) (j : ℕ) (base : ℤ) (gains : List ℤ) (lines : List Line) → length problem.hours ≤ last_period
    → AreBlocks (length problem.hours) problem.blocks → IsLinedSoFar problem j base gains lines
    → AreNumbersWithin ((j + 1) * (last_period * greatest_value)) gains
gains_within problem j base gains lines few blocks so_far =
    let places = take j (class_places problem) in
    all_within (gain_over problem lines places) problem.blocks _ gains so_far.gains_are (λ k b at.
    (let order = order_at (length problem.hours) problem.blocks k b blocks at in
    let value = value_small (length problem.hours) b.order few order in
    let sum = over_within (λ c. (line_in lines c).price *ℤ net_volume_of_block (c + 1) b.order) places (last_period * greatest_value) (λ i c there.
    (let found = take_get (class_places problem) j i c there in
    one_gain (line_in lines c) (net_volume_of_block (c + 1) b.order) problem c (so_far.lines_are i c found.1 found.0)
    (net_small (c + 1) b.order order))) in
    let taken = few_taken (class_places problem) j in
    added_within (last_period * greatest_value) (length places * (last_period * greatest_value)) ((j + 1) * (last_period * greatest_value))
    (day_value problem b.order) _ value sum (omega (arith, taken))))

pub base_within : (problem : ProblemState) (j : ℕ) (base : ℤ) (gains : List ℤ) (lines : List Line)
    → IsLinedSoFar problem j base gains lines → IsWithin (j * (last_period * greatest_segment_surplus)) base
base_within problem j base gains lines so_far =
    let places = take j (class_places problem) in
    let sum = over_within (λ c. (line_in lines c).surplus) places (last_period * greatest_segment_surplus) (λ i c there.
    (let found = take_get (class_places problem) j i c there in
    let small = (so_far.lines_are i c found.1 found.0).small in
    record { at_least = small.surplus_at_least; at_most = small.surplus_at_most })) in
    let taken = few_taken (class_places problem) j in let is = so_far.base_is in
    let a = sum.at_least in let b = sum.at_most in
    record { at_least = omega (arith, ints, a, is, taken); at_most = omega (arith, ints, b, is, taken) }

-- ---- all lines
pub all_lines : (problem : ProblemState) (curves : CurvesState) (classes : List Class) (j : ℕ) (pricing : Pricing)
    → length problem.hours ≤ last_period → length problem.blocks ≤ most_blocks → AreBlocks (length problem.hours) problem.blocks
    → AreClasses problem curves classes → length classes ≤ j → j ≤ length classes
    → IsLinedSoFar problem j pricing.base pricing.gains pricing.lines → IsPricing problem pricing
all_lines problem curves classes j pricing few few_blocks blocks are past within so_far =
    let places = class_places problem in
    let many = as_many problem curves classes are in
    let whole : take j places ≡ places = take_all j places (omega (arith, many, past)) in
    let lined : IsByLines problem pricing = record {
      few = few_blocks;
      long = so_far.long;
      lines_are = λ c inside first.
          (let found = listed problem.blocks 0 (length problem.hours) c first (omega arith) (omega (arith, inside)) in
          let index = slice_get_within places found.0 c found.1 in
          so_far.lines_are found.0 c (omega (arith, index, many, past)) found.1);
      base_is = so_far.base_is ∙ ap (over_places (λ c. (line_in pricing.lines c).surplus)) whole;
      gains_are = so_far.gains_are ∙ ap (λ (ps : List ℕ). at_places most_blocks (gain_over problem pricing.lines ps) problem.blocks) whole;
    } in
    let most = few_places problem.blocks 0 (length problem.hours) in
    let gains = gains_within problem j pricing.base pricing.gains pricing.lines few blocks so_far in
    let base = base_within problem j pricing.base pricing.gains pricing.lines so_far in
    let low = base.at_least in let high = base.at_most in record {
      by_lines = lined;
      many = gains.long;
      small_gains = λ place d l.
          (let one = gains.each place d l in let a = one.at_least in let b = one.at_most in
          record { at_least = omega (arith, ints, a, many, most, few, within); at_most = omega (arith, ints, b, many, most, few, within) });
      small_base = record { at_least = omega (arith, ints, low, many, most, few, within); at_most = omega (arith, ints, high, many, most, few, within) };
      above = λ selection w e. bounds_welfare problem pricing selection w lined e;
    }

-- ---- the class that is read
pub record IsOwn (problem : ProblemState) (curves : CurvesState) (j : ℕ) (class : Class) : Type 0 where
  pub is : IsClassIn problem curves class
  pub place : IsAtPlace problem j class.first_place
  pub small : AreNumbersWithin greatest_volume class.nets

read_at : {X : Type 0} (items xs : List X) (j : ℕ) (d : X) → items ≡ xs → j < length items → slice_get xs j ≡ Some (get_or items j d)
read_at items xs j d same l = subst (λ (ys : List _). slice_get ys j ≡ Some (get_or items j d)) same (slice_get-get_or items j d l)

pub own_class : (problem : ProblemState) (curves : CurvesState) (classes : List Class) (values : List ℤ) (families : List (Option (List Bool)))
    (items : List Class) (j : ℕ) (d : Class) → AreClassCurves problem curves classes values families → items ≡ classes → j < length items
    → IsOwn problem curves j (get_or items j d)
own_class problem curves classes values families items j d are same l =
    let at = read_at items classes j d same l in
    let is = are.classes_are.each j (get_or items j d) at in record {
      is = is;
      place = class_at problem curves classes j (get_or items j d) are.few_periods are.classes_are at;
      small = all_within (net_volume_of_block ((get_or items j d).first_place + 1)) problem.blocks greatest_volume (get_or items j d).nets is.nets_are
          (λ k b there. net_small ((get_or items j d).first_place + 1) b.order (order_at (length problem.hours) problem.blocks k b are.blocks_are there));
    }

-- a base and a surplus added up, as the code has it
pub base_added : (problem : ProblemState) (j c : ℕ) (base : ℤ) (gains : List ℤ) (lines : List Line) (line : Line) → j < last_period
    → IsLinedSoFar problem j base gains lines → IsSmallLine last_period line
    → SFits w64 (to_z w64 (of_z w64 base) +ℤ to_z w64 (of_z w64 line.surplus))
    × (to_z w64 (of_z w64 (to_z w64 (of_z w64 base) +ℤ to_z w64 (of_z w64 line.surplus))) ≡ base +ℤ line.surplus)
base_added problem j c base gains lines line index so_far small =
    let within = base_within problem j base gains lines so_far in
    let a = within.at_least in let b = within.at_most in let d = small.surplus_at_least in let e = small.surplus_at_most in
    added_up base line.surplus (omega (arith, ints, a, b, index)) (omega (arith, ints, d, e)) (omega (arith, ints, a, b, d, e, index))

pub price_narrow : (line : Line) → IsSmallLine last_period line → to_z w32 (of_z w32 line.price) ≡ line.price
price_narrow line small =
    let low = small.price_at_least in let high = small.price_at_most in to_z-of_z w32 line.price (omega (arith, ints, low, high))
