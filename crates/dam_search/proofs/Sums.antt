-- Sums and greatest numbers over views of which one changes, and how often a number stands in a list.
use Rattle.dam_search.proofs.Common.{◌≡◌, ℕ, zero, suc, ◌+◌, ◌≤◌, max, List, [], ◌∷◌, ◌++◌, set, ap, sym, refl, arith, View, times}
use mathlib.Core.Option.{some, some-injective, some-ne-none}
use lib.ListN.{get_elem?}
use Rattle.dam_search.specs.Words.{sum_of, greatest}

pub total_set : (f : View → ℕ) (views : List View) (i : ℕ) (view other : View) → get_elem? views i ≡ some view
    → sum_of f (set views i other) + f view ≡ sum_of f views + f other
total_set f [] i view other e = absurd (some-ne-none view (sym e))
total_set f (x ∷ xs) zero view other e = let same = ap f (some-injective x view e) in omega (arith, same)
total_set f (x ∷ xs) (suc i) view other e = let rest = total_set f xs i view other e in omega (arith, rest)

pub total_snoc : (f : View → ℕ) (views : List View) (other : View) → sum_of f (views ++ other ∷ []) ≡ sum_of f views + f other
total_snoc f [] other = omega arith
total_snoc f (x ∷ xs) other = let rest = total_snoc f xs other in omega (arith, rest)

pub part_of_total : (f : View → ℕ) (views : List View) (i : ℕ) (view : View) → get_elem? views i ≡ some view → f view ≤ sum_of f views
part_of_total f [] i view e = absurd (some-ne-none view (sym e))
part_of_total f (x ∷ xs) zero view e = let same = ap f (some-injective x view e) in omega (arith, same)
part_of_total f (x ∷ xs) (suc i) view e = let rest = part_of_total f xs i view e in omega (arith, rest)

pub greatest_set : (f : View → ℕ) (views : List View) (i : ℕ) (view other : View) → get_elem? views i ≡ some view
    → max (greatest f (set views i other)) (f view) ≡ max (greatest f views) (f other)
greatest_set f [] i view other e = absurd (some-ne-none view (sym e))
greatest_set f (x ∷ xs) zero view other e = let same = ap f (some-injective x view e) in omega (arith, same)
greatest_set f (x ∷ xs) (suc i) view other e = let rest = greatest_set f xs i view other e in omega (arith, rest)

pub greatest_snoc : (f : View → ℕ) (views : List View) (other : View) → greatest f (views ++ other ∷ []) ≡ max (greatest f views) (f other)
greatest_snoc f [] other = omega arith
greatest_snoc f (x ∷ xs) other = let rest = greatest_snoc f xs other in omega (arith, rest)

pub part_of_greatest : (f : View → ℕ) (views : List View) (i : ℕ) (view : View) → get_elem? views i ≡ some view → f view ≤ greatest f views
part_of_greatest f [] i view e = absurd (some-ne-none view (sym e))
part_of_greatest f (x ∷ xs) zero view e = let same = ap f (some-injective x view e) in omega (arith, same)
part_of_greatest f (x ∷ xs) (suc i) view e = let rest = part_of_greatest f xs i view e in omega (arith, rest)

pub times_append : (x : ℕ) (ys zs : List ℕ) → times x (ys ++ zs) ≡ times x ys + times x zs
times_append x [] zs = omega arith
times_append x (y ∷ ys) zs = let rest = times_append x ys zs in omega (arith, rest)

pub total_less : (f g : View → ℕ) (views : List View) → ((i : ℕ) (view : View) → get_elem? views i ≡ some view → f view ≤ g view)
    → sum_of f views ≤ sum_of g views
total_less f g [] less = omega arith
total_less f g (x ∷ xs) less =
    let first = less 0 x refl in let rest = total_less f g xs (λ i view e. less (suc i) view e) in omega (arith, first, rest)

pub total_none : (f : View → ℕ) (views : List View) → ((i : ℕ) (view : View) → get_elem? views i ≡ some view → f view ≡ 0) → sum_of f views ≡ 0
total_none f [] none = refl
total_none f (x ∷ xs) none =
    let first = none 0 x refl in let rest = total_none f xs (λ i view e. none (suc i) view e) in omega (arith, first, rest)

pub greatest_none : (f : View → ℕ) (views : List View) → ((i : ℕ) (view : View) → get_elem? views i ≡ some view → f view ≡ 0) → greatest f views ≡ 0
greatest_none f [] none = refl
greatest_none f (x ∷ xs) none =
    let first = none 0 x refl in let rest = greatest_none f xs (λ i view e. none (suc i) view e) in omega (arith, first, rest)

-- the view that was put there
pub placed : (views : List View) (i : ℕ) (view other : View) → get_elem? views i ≡ some view → get_elem? (set views i other) i ≡ some other
placed [] i view other e = absurd (some-ne-none view (sym e))
placed (x ∷ xs) zero view other e = refl
placed (x ∷ xs) (suc i) view other e = placed xs i view other e
