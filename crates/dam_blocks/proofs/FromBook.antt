-- The book invariant, carried over to the problem of the book.
use Rattle.dam_blocks.proofs.Common.{◌≡◌, ℕ, zero, suc, ◌+◌, ◌-◌, ◌<◌, ◌≤◌, Bool, true, false, cond, not, ◌&&◌, ◌==◌, nat_lt, Option, Some, None, List, [], ◌∷◌}
use Rattle.dam_blocks.proofs.Common.{◌++◌, length, append_assoc, length-append, ap, ap₂, ◌∙◌, sym, subst, refl, arith, cons_option, bytes_decides, nat_tests}
use Rattle.dam_blocks.proofs.Common.{filter_map-append, slice_get_within, append-nil, HourTerms, BlockTerms, Key, Row, BookState, is_day, AreRows, Order, Hour}
use Rattle.dam_blocks.proofs.Common.{Step, AreInRange, Block, ProblemRow, ProblemState, step_in, steps_in, hours_from, block_under, blocks_in, rows_after}
use Rattle.dam_blocks.proofs.Common.{problem_of, hourly_orders, AreHoursInRange, AreBlocks, IsProblem}
use Rattle.std.proofs.Common.{nat_eq, is_some}
use Rattle.std.specs.List.{slice_get}
use Rattle.std.specs.Map.{lookup}
use Rattle.std.specs.Cmp.Lexicographic.{pointwise}
use Rattle.std.proofs.lemmas.List.Sums.{sum_by-append}
use Rattle.dam_book.specs.Order.{IsOrder, is_hour, is_block}
use Rattle.dam_book.specs.Book.{same_key, hourly_count, block_count, is_found, parent_passes, IsRow, are_unique, has_parent_in, are_linked, IsBook}
use Rattle.dam_book.specs.declared.order.Order.TheVariants.{Block as BlockVariant}
use Rattle.dam_blocks.specs.Problem.{place_after, HasParentBefore, StandsAt}
use Rattle.dam_blocks.specs.inside.Making.{hourly_step}
use Rattle.dam_blocks.proofs.WelfareAtLeastZero.{same_block}

-- the block of a row
abbrev block_of : Key → BlockTerms → Block
block_of k o = record { who = k.0; name = k.1; order = o }

-- ---- the hours
pub length-hours_from : (t n : ℕ) (rows : List Row) → length (hours_from t n rows) ≡ n
length-hours_from t zero rows = refl
length-hours_from t (suc n) rows = ap suc (length-hours_from (suc t) n rows)

pub hour_stands : (t n i : ℕ) (rows : List Row) → i < n → slice_get (hours_from t n rows) i ≡ Some (steps_in (i + t) rows)
hour_stands t zero i rows l = absurd (omega arith)
hour_stands t (suc n) zero rows l = let same : t ≡ 0 + t = omega arith in ap (λ (m : ℕ). Some (steps_in m rows)) same
hour_stands t (suc n) (suc i) rows l =
    let next : i + suc t ≡ suc i + t = omega arith in
    hour_stands (suc t) n i rows (omega arith) ∙ ap (λ (m : ℕ). Some (steps_in m rows)) next

in_range_option : (t : ℕ) (o : Order) (ss : List Step) → IsOrder o → AreInRange ss → AreInRange (cons_option (step_in t o) ss)
in_range_option t (Hour o) ss is are =
    elim (o.period == t) as (λ b. AreInRange
    (cons_option (cond b (Some (hourly_step o)) None) ss)) [
      | true ↦
          (is.price, is.qty, are)
      | false ↦ are
    ]
in_range_option t (BlockVariant o) ss is are = are

steps_in_range : (t periods : ℕ) (rows : List Row) → AreRows periods rows → AreInRange (steps_in t rows)
steps_in_range t periods [] are = tt
steps_in_range t periods (r ∷ rs) are = in_range_option t r.1 (steps_in t rs) are.0.order (steps_in_range t periods rs are.1)

hours_in_range : (t n periods : ℕ) (rows : List Row) → AreRows periods rows → AreHoursInRange (hours_from t n rows)
hours_in_range t zero periods rows are = tt
hours_in_range t (suc n) periods rows are = (steps_in_range t periods rows are, hours_in_range (suc t) n periods rows are)

-- ---- how many hourly orders there are
hourly_count-cons : (r : Row) (rs : List Row) → hourly_count (r ∷ rs) ≡ cond (is_hour r.1) 1 0 + hourly_count rs
hourly_count-cons r rs = let sum = sum_by-append (λ (x : Row). cond (is_hour x.1) 1 0) (r ∷ []) rs in omega (arith, sum)

block_count-cons : (r : Row) (rs : List Row) → block_count (r ∷ rs) ≡ cond (is_block r.1) 1 0 + block_count rs
block_count-cons r rs = let sum = sum_by-append (λ (x : Row). cond (is_block x.1) 1 0) (r ∷ []) rs in omega (arith, sum)

length_step : (b : Bool) (s : Step) (ss : List Step) → length (cons_option (cond b (Some s) None) ss) ≡ cond b 1 0 + length ss
length_step true s ss = omega arith
length_step false s ss = omega arith

-- one if the test holds
abbrev one_if : Bool → ℕ
one_if b = cond b 1 0

pub steps_apart : (t : ℕ) (k : Key) (o : HourTerms) (rs : List Row) → (o.period == t) ≡ false
    → length (steps_in t ((k, Hour o) ∷ rs)) ≡ length (steps_in t rs)
steps_apart t k o rs e = let l = length_step (o.period == t) (hourly_step o) (steps_in t rs) in
    let c = ap one_if e in omega (arith, l, c)

pub steps_same : (t : ℕ) (k : Key) (o : HourTerms) (rs : List Row) → (o.period == t) ≡ true
    → length (steps_in t ((k, Hour o) ∷ rs)) ≡ 1 + length (steps_in t rs)
steps_same t k o rs e = let l = length_step (o.period == t) (hourly_step o) (steps_in t rs) in
    let c = ap one_if e in omega (arith, l, c)

apart_test : (m n : ℕ) → m < n → (m == n) ≡ false
apart_test m n l = grind (arith, nat_tests)

same_test : (m n : ℕ) → (m == n) ≡ true → m ≡ n
same_test m n e = grind (arith, nat_tests)

hours_later : (t n : ℕ) (k : Key) (o : HourTerms) (rs : List Row) → o.period < t
    → hourly_orders (hours_from t n ((k, Hour o) ∷ rs)) ≡ hourly_orders (hours_from t n rs)
hours_later t zero k o rs l = refl
hours_later t (suc n) k o rs l =
    ap₂ (λ (x y : ℕ). x + y) (steps_apart t k o rs (apart_test o.period t l)) (hours_later (suc t) n k o rs (omega (arith, l)))

hours_once : (t n : ℕ) (k : Key) (o : HourTerms) (rs : List Row)
    → hourly_orders (hours_from t n ((k, Hour o) ∷ rs)) ≤ hourly_orders (hours_from t n rs) + 1
hours_once t zero k o rs = omega arith
hours_once t (suc n) k o rs =
    elim (o.period == t) as (λ b. (o.period == t) ≡ b
    → hourly_orders (hours_from t (suc n) ((k, Hour o) ∷ rs)) ≤ hourly_orders (hours_from t (suc n) rs) + 1) [
      | true ↦ λ e. (let here = steps_same t k o rs e in let is = same_test o.period t e in
          let rest = hours_later (suc t) n k o rs (omega (arith, is)) in omega (arith, here, rest))
      | false ↦ λ e. (let here = steps_apart t k o rs e in let rest = hours_once (suc t) n k o rs in omega (arith, here, rest))
    ] refl

hours_kept : (t n : ℕ) (k : Key) (o : BlockTerms) (rs : List Row)
    → hourly_orders (hours_from t n ((k, BlockVariant o) ∷ rs)) ≡ hourly_orders (hours_from t n rs)
hours_kept t zero k o rs = refl
hours_kept t (suc n) k o rs = ap (λ (m : ℕ). length (steps_in t rs) + m) (hours_kept (suc t) n k o rs)

hours_none : (t n : ℕ) → hourly_orders (hours_from t n []) ≡ 0
hours_none t zero = refl
hours_none t (suc n) = let rest = hours_none (suc t) n in omega (arith, rest)

hours_more : (t n : ℕ) (k : Key) (o : Order) (rs : List Row)
    → hourly_orders (hours_from t n ((k, o) ∷ rs)) ≤ hourly_orders (hours_from t n rs) + cond (is_hour o) 1 0
hours_more t n k (Hour o) rs = hours_once t n k o rs
hours_more t n k (BlockVariant o) rs = let e = hours_kept t n k o rs in omega (arith, e)

pub few_hours : (t n : ℕ) (rows : List Row) → hourly_orders (hours_from t n rows) ≤ hourly_count rows
few_hours t n [] = let e = hours_none t n in omega (arith, e)
few_hours t n (r ∷ rs) = let here = hours_more t n r.0 r.1 rs in let rest = few_hours t n rs in let sum = hourly_count-cons r rs in
    omega (arith, here, rest, sum)

-- one period's orders are no more than all
-- ---- the blocks
blocks_option : (periods : ℕ) (k : Key) (o : Order) (bs : List Block) → IsRow periods (k, o) → AreBlocks periods bs
    → AreBlocks periods (cons_option (block_under k.0 k.1 o) bs)
blocks_option periods k (Hour o) bs is are = are
blocks_option periods k (BlockVariant o) bs is are = (record { who = is.who; name = is.name; order = is.order; in_day = is.in_day }, are)

blocks_are : (periods : ℕ) (rows : List Row) → AreRows periods rows → AreBlocks periods (blocks_in rows)
blocks_are periods [] are = tt
blocks_are periods (r ∷ rs) are = blocks_option periods r.0 r.1 (blocks_in rs) are.0 (blocks_are periods rs are.1)

block_more : (k : Key) (o : Order) (bs : List Block) → length (cons_option (block_under k.0 k.1 o) bs) ≡ cond (is_block o) 1 0 + length bs
block_more k (Hour o) bs = omega arith
block_more k (BlockVariant o) bs = omega arith

pub few_blocks : (rows : List Row) → length (blocks_in rows) ≤ block_count rows
few_blocks [] = omega arith
few_blocks (r ∷ rs) = let here = block_more r.0 r.1 (blocks_in rs) in let rest = few_blocks rs in let sum = block_count-cons r rs in
    omega (arith, here, rest, sum)

-- ---- names
both_true : (a b : Bool) → (a && b) ≡ true → (a ≡ true) × (b ≡ true)
both_true true b e = (refl, e)
both_true false b e = (e, absurd (cc))

same_key-equal : (k l : Key) → same_key k l ≡ true → (k.0 ≡ l.0) × (k.1 ≡ l.1)
same_key-equal k l e =
    let both = both_true (pointwise nat_eq k.0 l.0) (pointwise nat_eq k.1 l.1) e in
    ((bytes_decides k.0 l.0).0 both.0, (bytes_decides k.1 l.1).0 both.1)

equal-same_key : (k l : Key) → k.0 ≡ l.0 → k.1 ≡ l.1 → same_key k l ≡ true
equal-same_key k l e f = ap₂ (λ (a b : Bool). a && b) ((bytes_decides k.0 l.0).1 e) ((bytes_decides k.1 l.1).1 f)

not_none : (o : Option Order) → not (is_some o) ≡ true → o ≡ None
not_none None e = refl
not_none (Some x) e = absurd (cc)

none_head : (b : Bool) (x : Order) (o : Option Order) → cond b (Some x) o ≡ None → (b ≡ false) × (o ≡ None)
none_head true x o e = absurd (cc)
none_head false x o e = (refl, e)

-- a block of the rows is found under its key
block_found : (rs : List Row) (k : Key) (i : ℕ) (b : Block) → slice_get (blocks_in rs) i ≡ Some b → same_key k (b.who, b.name) ≡ true
    → lookup (same_key k) rs ≡ None → ⊥
block_found [] k i b at same none = absurd (cc)
block_found (r ∷ rs) k i b at same none =
    let apart = none_head (same_key k r.0) r.1 (lookup (same_key k) rs) none in
    by_order r.0 r.1 rs k i b at same apart.0 (λ j at_j. block_found rs k j b at_j same apart.1)
  where
    by_order : (l : Key) (o : Order) (rs : List Row) (k : Key) (i : ℕ) (b : Block)
        → slice_get (cons_option (block_under l.0 l.1 o) (blocks_in rs)) i ≡ Some b
        → same_key k (b.who, b.name) ≡ true → same_key k l ≡ false → ((j : ℕ) → slice_get (blocks_in rs) j ≡ Some b → ⊥) → ⊥
    by_order l (Hour o) rs k i b at same apart rest = rest i at
    by_order l (BlockVariant o) rs k zero b at same apart rest =
        let who : l.0 ≡ b.who = cc in let name : l.1 ≡ b.name = cc in
        let again : same_key k (b.who, b.name) ≡ same_key k l = ap₂ (λ (x y : List ℕ). same_key k (x, y)) (sym who) (sym name) in
        absurd (cc)
    by_order l (BlockVariant o) rs k (suc i) b at same apart rest = rest i at

abbrev pub AreApart : List Block → Type 0
AreApart bs = (i j : ℕ) (a b : Block) → slice_get bs i ≡ Some a → slice_get bs j ≡ Some b → a.who ≡ b.who → a.name ≡ b.name → i ≡ j

apart_option : (k : Key) (o : Order) (rs : List Row) → lookup (same_key k) rs ≡ None → AreApart (blocks_in rs)
    → AreApart (cons_option (block_under k.0 k.1 o) (blocks_in rs))
apart_option k (Hour o) rs none apart = apart
apart_option k (BlockVariant o) rs none apart = λ i j a b at_i at_j who name. cases k o rs none apart i j a b at_i at_j who name
  where
    cases : (k : Key) (o : BlockTerms) (rs : List Row) → lookup (same_key k) rs ≡ None → AreApart (blocks_in rs) → (i j : ℕ) (a b : Block)
        → slice_get (block_of k o ∷ blocks_in rs) i ≡ Some a
        → slice_get (block_of k o ∷ blocks_in rs) j ≡ Some b
        → a.who ≡ b.who → a.name ≡ b.name → i ≡ j
    cases k o rs none apart zero zero a b at_i at_j who name = refl
    cases k o rs none apart zero (suc j) a b at_i at_j who name =
        let own : k.0 ≡ a.who = cc in let named : k.1 ≡ a.name = cc in
        absurd (block_found rs k j b at_j (equal-same_key k (b.who, b.name) (own ∙ who) (named ∙ name)) none)
    cases k o rs none apart (suc i) zero a b at_i at_j who name =
        let own : k.0 ≡ b.who = cc in let named : k.1 ≡ b.name = cc in
        absurd (block_found rs k i a at_i (equal-same_key k (a.who, a.name) (own ∙ sym who) (named ∙ sym name)) none)
    cases k o rs none apart (suc i) (suc j) a b at_i at_j who name = ap suc (apart i j a b at_i at_j who name)

blocks_apart : (rows : List Row) → are_unique rows ≡ true → AreApart (blocks_in rows)
blocks_apart [] u = none
  where
    none : AreApart []
    none i j a b at_i at_j who name = absurd (cc)
blocks_apart (r ∷ rs) u =
    let both = both_true (not (is_some (lookup (same_key r.0) rs))) (are_unique rs) u in
    apart_option r.0 r.1 rs (not_none (lookup (same_key r.0) rs) both.0) (blocks_apart rs both.1)

-- ---- parents
true_not : (b : Bool) → not b ≡ true → b ≡ false
true_not true e = absurd (cc)
true_not false e = refl

-- an order that is found is a block
block_in : (o : Option Order) → not (is_found is_block o) ≡ false → (p : BlockTerms) × (o ≡ Some (BlockVariant p))
block_in None e = absurd (cc)
block_in (Some (Hour p)) e = absurd (cc)
block_in (Some (BlockVariant p)) e = (p, refl)

-- .. and has a place among the blocks
place_of_found : (rs : List Row) (k : Key) (p : BlockTerms) → lookup (same_key k) rs ≡ Some (BlockVariant p)
    → (i : ℕ) × (b : Block) × (slice_get (blocks_in rs) i ≡ Some b) × (k.0 ≡ b.who) × (k.1 ≡ b.name)
place_of_found [] k p e = absurd (cc)
place_of_found (r ∷ rs) k p e =
    elim (same_key k r.0) as (λ t. same_key k r.0 ≡ t → cond t (Some r.1) (lookup (same_key k) rs) ≡ Some (BlockVariant p)
    → (i : ℕ) × (b : Block) × (slice_get (blocks_in (r ∷ rs)) i ≡ Some b) × (k.0 ≡ b.who) × (k.1 ≡ b.name)) [
      | true ↦ λ t f. (let is : r.1 ≡ BlockVariant p = cc in let equal = same_key-equal k r.0 t in (
        0,
        record { who = r.0.0; name = r.0.1; order = p },
        ap (λ (o : Order). slice_get (cons_option (block_under r.0.0 r.0.1 o) (blocks_in rs)) 0) is,
        equal.0,
        equal.1,
      ))
      | false ↦ λ t f. (let found = place_of_found rs k p f in behind r.0 r.1 (blocks_in rs) k found.0 found.1 found.2 found.3 found.4)
    ] refl e
  where
    behind : (l : Key) (o : Order) (bs : List Block) (k : Key) (i : ℕ) (b : Block) → slice_get bs i ≡ Some b → k.0 ≡ b.who → k.1 ≡ b.name
        → (i : ℕ) × (b : Block) × (slice_get (cons_option (block_under l.0 l.1 o) bs) i ≡ Some b) × (k.0 ≡ b.who) × (k.1 ≡ b.name)
    behind l (Hour o) bs k i b at who name = (i, b, at, who, name)
    behind l (BlockVariant o) bs k i b at who name = (suc i, b, at, who, name)

get_front : (xs ys : List Block) (i : ℕ) (b : Block) → slice_get xs i ≡ Some b → slice_get (xs ++ ys) i ≡ Some b
get_front [] ys i b e = absurd (cc)
get_front (x ∷ xs) ys zero b e = e
get_front (x ∷ xs) ys (suc i) b e = get_front xs ys i b e

pub get_seam : (xs ys : List Block) (b : Block) → slice_get (xs ++ b ∷ ys) (length xs) ≡ Some b
get_seam [] ys b = refl
get_seam (x ∷ xs) ys b = get_seam xs ys b

pub blocks-append : (front rs : List Row) → blocks_in (front ++ rs) ≡ blocks_in front ++ blocks_in rs
blocks-append front rs = filter_map-append (λ (r : Row). block_under r.0.0 r.0.1 r.1) front rs

parent_before : (front : List Row) (k : Key) (o : BlockTerms) (rest : List Row) (name : List ℕ)
    → has_parent_in front (k, BlockVariant o) ≡ true → o.parent ≡ Some name
    → HasParentBefore (blocks_in (front ++ rest)) (length (blocks_in front)) (block_of k o)
parent_before front k o rest name has parent =
    let passes : not (is_found is_block (lookup (same_key (k.0, name)) front)) ≡ false =
    sym (ap (λ (p : Option (List ℕ)). parent_passes (λ q. not (is_found is_block q)) front k.0 p) parent)
    ∙ true_not (parent_passes (λ q. not (is_found is_block q)) front k.0 o.parent) has in
    let found = block_in (lookup (same_key (k.0, name)) front) passes in
    let at = place_of_found front (k.0, name) found.0 found.1 in
    record {
      place = at.0;
      parent = at.1;
      stands = ap (λ (bs : List Block). slice_get bs at.0) (blocks-append front rest)
          ∙ get_front (blocks_in front) (blocks_in rest) at.0 at.1 at.2;
      is_parent = record { who = sym at.3; name = parent ∙ ap (λ (n : List ℕ). Some n) at.4 };
      lesser = slice_get_within (blocks_in front) at.0 at.1 at.2;
    }

parents_before : (front rs : List Row) (i : ℕ) (b : Block) (name : List ℕ) → are_linked front rs ≡ true
    → slice_get (blocks_in rs) i ≡ Some b → b.order.parent ≡ Some name
    → HasParentBefore (blocks_in (front ++ rs)) (length (blocks_in front) + i) b
parents_before front [] i b name linked at parent = absurd (cc)
parents_before front (r ∷ rs) i b name linked at parent =
    let both = both_true (has_parent_in front r) (are_linked (front ++ r ∷ []) rs) linked in
    by_order front r.0 r.1 rs i b name both.0 at parent (λ j at_j. parents_before (front ++ r ∷ []) rs j b name both.1 at_j parent)
  where
    by_order : (front : List Row) (k : Key) (o : Order) (rs : List Row) (i : ℕ) (b : Block) (name : List ℕ)
        → has_parent_in front (k, o) ≡ true
        → slice_get (cons_option (block_under k.0 k.1 o) (blocks_in rs)) i ≡ Some b → b.order.parent ≡ Some name
        → ((j : ℕ) → slice_get (blocks_in rs) j ≡ Some b
        → HasParentBefore (blocks_in ((front ++ (k, o) ∷ []) ++ rs)) (length (blocks_in (front ++ (k, o) ∷ [])) + j) b)
        → HasParentBefore (blocks_in (front ++ (k, o) ∷ rs)) (length (blocks_in front) + i) b
    by_order front k (Hour o) rs i b name has at parent rest =
        let none : blocks_in (front ++ (k, Hour o) ∷ []) ≡ blocks_in front =
        blocks-append front ((k, Hour o) ∷ []) ∙ append-nil (blocks_in front) in
        subst (λ (bs : List Block). HasParentBefore (blocks_in (front ++ (k, Hour o) ∷ rs)) (length bs + i) b) none
        (subst (λ (ps : List Row). HasParentBefore (blocks_in ps) (length (blocks_in (front ++ (k, Hour o) ∷ [])) + i) b)
        (append_assoc front ((k, Hour o) ∷ []) rs) (rest i at))
    by_order front k (BlockVariant o) rs zero b name has at parent rest =
        let is : block_of k o ≡ b = same_block (block_of k o) b at in
        let own : o.parent ≡ Some name = ap (λ (c : Block). c.order.parent) is ∙ parent in
        let here : length (blocks_in front) ≡ length (blocks_in front) + 0 = omega arith in
        subst (λ (n : ℕ). HasParentBefore (blocks_in (front ++ (k, BlockVariant o) ∷ rs)) n b) here
        (subst (λ (c : Block). HasParentBefore (blocks_in (front ++ (k, BlockVariant o) ∷ rs)) (length (blocks_in front)) c) is
        (parent_before front k o ((k, BlockVariant o) ∷ rs) name has own))
    by_order front k (BlockVariant o) rs (suc i) b name has at parent rest =
        let longer : length (blocks_in (front ++ (k, BlockVariant o) ∷ [])) + i ≡ length (blocks_in front) + suc i =
        omega (
          arith,
          ap (λ (bs : List Block). length bs) (blocks-append front ((k, BlockVariant o) ∷ [])),
          length-append (blocks_in front) (block_of k o ∷ []),
        ) in
        subst (λ (n : ℕ). HasParentBefore (blocks_in (front ++ (k, BlockVariant o) ∷ rs)) n b) longer
        (subst (λ (ps : List Row). HasParentBefore (blocks_in ps) (length (blocks_in (front ++ (k, BlockVariant o) ∷ [])) + i) b)
        (append_assoc front ((k, BlockVariant o) ∷ []) rs) (rest i at))

-- ---- where the rows stand
pub steps-append : (t : ℕ) (front rs : List Row) → steps_in t (front ++ rs) ≡ steps_in t front ++ steps_in t rs
steps-append t front rs = filter_map-append (λ (r : Row). step_in t r.1) front rs

not_beyond : (n t : ℕ) → nat_lt n t ≡ false → t ≤ n
not_beyond n t e = grind (arith, nat_tests)

-- the problem of `n` periods and these rows
abbrev pub made_of : ℕ → List Row → ProblemState
made_of n rows = record { hours = hours_from 1 n rows; blocks = blocks_in rows; rows = rows_after [] rows }

row_stands : (n : ℕ) (front : List Row) (k : Key) (o : Order) (rs : List Row) → IsRow n (k, o)
    → StandsAt (made_of n (front ++ (k, o) ∷ rs)) (record { who = k.0; name = k.1; at = place_after front o }) (place_after front o)
row_stands n front k (Hour o) rs is =
    let least = is.order.period.at_least in
    let within = not_beyond n o.period is.in_day in
    let back : (o.period - 1) + 1 ≡ o.period = omega (arith, least) in
    let rows = front ++ (k, Hour o) ∷ rs in
    let stands = hour_stands 1 n (o.period - 1) rows (omega (arith, least, within)) ∙ ap (λ (t : ℕ). Some (steps_in t rows)) back in
    let same : (o.period == o.period) ≡ true = grind (arith, nat_tests) in
    let longer = steps_same o.period k o rs same in
    let all = ap (λ (ss : List Step). length ss) (steps-append o.period front ((k, Hour o) ∷ rs))
    ∙ length-append (steps_in o.period front) (steps_in o.period ((k, Hour o) ∷ rs)) in
    (steps_in o.period rows, stands, least, omega (arith, longer, all))
row_stands n front k (BlockVariant o) rs is = (
  block_of k o,
  ap (λ (bs : List Block). slice_get bs (length (blocks_in front))) (blocks-append front ((k, BlockVariant o) ∷ rs))
      ∙ get_seam (blocks_in front) (blocks_in rs) (block_of k o),
  refl,
  refl,
)

rows_stand : (n : ℕ) (all front rs : List Row) → front ++ rs ≡ all → AreRows n rs → (i : ℕ) (r : ProblemRow)
    → slice_get (rows_after front rs) i ≡ Some r → StandsAt (made_of n all) r r.at
rows_stand n all front [] whole are i r e = absurd (cc)
rows_stand n all front (q ∷ rs) whole are zero r e =
    let is : record { who = q.0.0; name = q.0.1; at = place_after front q.1 } ≡ r =
    same_row (record { who = q.0.0; name = q.0.1; at = place_after front q.1 }) r e in
    subst (λ (p : ProblemRow). StandsAt (made_of n all) p p.at) is
    (subst (λ (ps : List Row). StandsAt (made_of n ps) (record { who = q.0.0; name = q.0.1; at = place_after front q.1 })
    (place_after front q.1)) whole (row_stands n front q.0 q.1 rs are.0))
  where
    same_row : (a b : ProblemRow) → Some a ≡ Some b → a ≡ b
    same_row a b e = cc
rows_stand n all front (q ∷ rs) whole are (suc i) r e =
    rows_stand n all (front ++ q ∷ []) rs (append_assoc front (q ∷ []) rs ∙ whole) are.1 i r e

-- ---- all of it
pub problem_is : (b : BookState) → IsBook b → b.closed ≡ true → IsProblem (problem_of b)
problem_is b is closed =
    let long = length-hours_from 1 b.periods b.rows in
    let orders = few_hours 1 b.periods b.rows in let hourly = is.few_hourly in
    let blocks = few_blocks b.rows in let few = is.few_blocks in
    record {
      book = b;
      is_book = is;
      is_closed = closed;
      is_of_book = refl;
      day = ap is_day long ∙ is.day;
      hours = hours_in_range 1 b.periods b.periods b.rows is.rows;
      few_hourly = omega (arith, orders, hourly);
      blocks = subst (λ (n : ℕ). AreBlocks n (blocks_in b.rows)) (sym long) (blocks_are b.periods b.rows is.rows);
      few_blocks = omega (arith, blocks, few);
      unique = blocks_apart b.rows is.unique;
      parents = λ i c name at parent.
          (let first : 0 + i ≡ i = omega arith in
          subst (λ (n : ℕ). HasParentBefore (blocks_in b.rows) n c) first (parents_before [] b.rows i c name is.linked at parent));
      rows = λ i r at. rows_stand b.periods b.rows [] b.rows refl is.rows i r at;
    }

pub problem_made : (b : BookState) (hours : List (List Step)) (blocks : List Block) (rows : List ProblemRow)
    → hours ≡ hours_from 1 b.periods b.rows
    → blocks ≡ blocks_in b.rows → rows ≡ rows_after [] b.rows → record { hours = hours; blocks = blocks; rows = rows } ≡ problem_of b
problem_made b hours blocks rows h k r = rw (h, k, r) refl

pub problem_kept : (b : BookState) (hours : List (List Step)) (blocks : List Block) (rows : List ProblemRow) → IsBook b → b.closed ≡ true
    → hours ≡ hours_from 1 b.periods b.rows → blocks ≡ blocks_in b.rows
    → rows ≡ rows_after [] b.rows → IsProblem (record { hours = hours; blocks = blocks; rows = rows })
problem_kept b hours blocks rows is closed e f g =
    subst (λ (hs : List (List Step)). IsProblem (record { hours = hs; blocks = blocks; rows = rows })) (sym e)
    (subst (λ (bs : List Block). IsProblem (record { hours = hours_from 1 b.periods b.rows; blocks = bs; rows = rows })) (sym f)
    (subst (λ (rs : List ProblemRow). IsProblem (record { hours = hours_from 1 b.periods b.rows; blocks = blocks_in b.rows; rows = rs }))
    (sym g) (problem_is b is closed)))
