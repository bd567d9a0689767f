-- The classes of a day's periods: which period a class begins with, and sums over classes.
use Rattle.dam_bound.proofs.Common.{◌≡◌, ◌≢◌, ℕ, zero, suc, ◌+◌, ◌<◌, ◌≤◌, ◌==◌, ◌&&◌, cond, Bool, true, false, ℤ, neg_ℤ, ◌+ℤ◌, Some, List, [], ◌∷◌, inl, inr}
use Rattle.dam_bound.proofs.Common.{ap, ap₂, ◌∙◌, sym, subst, refl, arith, slice_get, ints, cases_lt, nat_tests, BlockTerms, signed, Block, volume_in}
use Rattle.dam_bound.proofs.Common.{over_accepted, net_volume_of_block, net_volume, are_alike, first_from}
use Rattle.std.proofs.Common.{pos}
use Rattle.dam_bound.specs.Classes.{first_of_class}
use Rattle.dam_bound.proofs.Worth.{sum_from}

-- ---- alike periods
both_true : (a b : Bool) → (a && b) ≡ true → (a ≡ true) × (b ≡ true)
both_true true b e = (refl, e)
both_true false b e = absurd (cc)

two_true : (a b : Bool) → a ≡ true → b ≡ true → (a && b) ≡ true
two_true true b e f = f
two_true false b e f = absurd (cc)

equal_from : (m n : ℕ) → (m == n) ≡ true → m ≡ n
equal_from m n e = grind (arith, nat_tests)

equal_to : (m n : ℕ) → m ≡ n → (m == n) ≡ true
equal_to m n e = grind (arith, nat_tests)

pub alike_volume : (blocks : List Block) (i j k : ℕ) (b : Block) → are_alike blocks i j ≡ true → slice_get blocks k ≡ Some b
    → volume_in b.order.volumes (suc i) ≡ volume_in b.order.volumes (suc j)
alike_volume [] i j k b e at = absurd (cc)
alike_volume (x ∷ blocks) i j zero b e at =
    let own = both_true (volume_in x.order.volumes (suc i) == volume_in x.order.volumes (suc j)) (are_alike blocks i j) e in
    let same : x ≡ b = cc in
    subst (λ (y : Block). volume_in y.order.volumes (suc i) ≡ volume_in y.order.volumes (suc j)) same
    (equal_from (volume_in x.order.volumes (suc i)) (volume_in x.order.volumes (suc j)) own.0)
alike_volume (x ∷ blocks) i j (suc k) b e at =
    let own = both_true (volume_in x.order.volumes (suc i) == volume_in x.order.volumes (suc j)) (are_alike blocks i j) e in
    alike_volume blocks i j k b own.1 at

alike_self : (blocks : List Block) (i : ℕ) → are_alike blocks i i ≡ true
alike_self [] i = refl
alike_self (x ∷ blocks) i =
    two_true (volume_in x.order.volumes (suc i) == volume_in x.order.volumes (suc i)) (are_alike blocks i i)
    (equal_to (volume_in x.order.volumes (suc i)) (volume_in x.order.volumes (suc i)) refl) (alike_self blocks i)

alike_chain : (blocks : List Block) (i j k : ℕ) → are_alike blocks i j ≡ true → are_alike blocks j k ≡ true → are_alike blocks i k ≡ true
alike_chain [] i j k e f = refl
alike_chain (x ∷ blocks) i j k e f =
    let u = volume_in x.order.volumes (suc i) in let v = volume_in x.order.volumes (suc j) in let w = volume_in x.order.volumes (suc k) in
    let one = both_true (u == v) (are_alike blocks i j) e in
    let two = both_true (v == w) (are_alike blocks j k) f in
    two_true (u == w) (are_alike blocks i k) (equal_to u w (equal_from u v one.0 ∙ equal_from v w two.0))
    (alike_chain blocks i j k one.1 two.1)

-- the net volume of a selection is the same in alike periods
pub alike_sum : (f : ℕ → BlockTerms → ℤ) (blocks : List Block) (sel : List Bool) (i j : ℕ)
    → ((o : BlockTerms) → volume_in o.volumes (suc i) ≡ volume_in o.volumes (suc j) → f (suc i) o ≡ f (suc j) o)
    → are_alike blocks i j ≡ true → over_accepted (f (suc i)) blocks sel ≡ over_accepted (f (suc j)) blocks sel
alike_sum f [] sel i j each e = refl
alike_sum f (x ∷ blocks) [] i j each e = refl
alike_sum f (x ∷ blocks) (true ∷ sel) i j each e =
    let u = volume_in x.order.volumes (suc i) in let v = volume_in x.order.volumes (suc j) in
    let own = both_true (u == v) (are_alike blocks i j) e in
    ap₂ (λ (a b : ℤ). a +ℤ b) (each x.order (equal_from u v own.0)) (alike_sum f blocks sel i j each own.1)
alike_sum f (x ∷ blocks) (false ∷ sel) i j each e =
    let own = both_true (volume_in x.order.volumes (suc i) == volume_in x.order.volumes (suc j)) (are_alike blocks i j) e in
    alike_sum f blocks sel i j each own.1

pub alike_net : (blocks : List Block) (sel : List Bool) (i j : ℕ) → are_alike blocks i j ≡ true
    → net_volume blocks sel (suc i) ≡ net_volume blocks sel (suc j)
alike_net blocks sel i j e =
    alike_sum net_volume_of_block blocks sel i j (λ o same. ap (λ (q : ℕ). neg_ℤ (signed o.side (pos q))) same) e

-- ---- the first period of a class
-- the period that is found isn't later than the period, and is like it
found_from : (blocks : List Block) (i j left : ℕ) → j + left ≡ i
    → (first_from blocks i j left ≤ i) × (are_alike blocks (first_from blocks i j left) i ≡ true)
found_from blocks i j zero e =
    let same : j ≡ i = omega (arith, e) in
    (omega (arith, same), subst (λ (k : ℕ). are_alike blocks k i ≡ true) (sym same) (alike_self blocks i))
found_from blocks i j (suc left) e =
    elim (are_alike blocks j i) as (λ t. are_alike blocks j i ≡ t → (cond t j (first_from blocks i (suc j) left) ≤ i)
    × (are_alike blocks (cond t j (first_from blocks i (suc j) left)) i ≡ true)) [
      | true ↦ λ f. (omega (arith, e), f)
      | false ↦ λ f. found_from blocks i (suc j) left (omega (arith, e))
    ] refl

-- no like period stands before it
least_from : (blocks : List Block) (i j left s : ℕ) → j + left ≡ i → j ≤ s → s ≤ i → are_alike blocks s i ≡ true
    → first_from blocks i j left ≤ s
least_from blocks i j zero s e l m f = l
least_from blocks i j (suc left) s e l m f =
    elim (are_alike blocks j i) as (λ t. are_alike blocks j i ≡ t → cond t j (first_from blocks i (suc j) left) ≤ s) [
      | true ↦ λ g. l
      | false ↦ λ g. elim (cases_lt j s) [
        | inl less ↦ least_from blocks i (suc j) left s (omega (arith, e)) less m f
        | inr more ↦
            (let same : s ≡ j = omega (arith, l, more) in
            let t = subst (λ (k : ℕ). are_alike blocks k i ≡ true) same f in absurd (cc))
      ]
    ] refl

pub first_most : (blocks : List Block) (i : ℕ) → first_of_class blocks i ≤ i
unfolding first_of_class
first_most blocks i = (found_from blocks i 0 i (omega arith)).0

pub first_alike : (blocks : List Block) (i : ℕ) → are_alike blocks (first_of_class blocks i) i ≡ true
unfolding first_of_class
first_alike blocks i = (found_from blocks i 0 i (omega arith)).1

first_least : (blocks : List Block) (i s : ℕ) → s ≤ i → are_alike blocks s i ≡ true → first_of_class blocks i ≤ s
unfolding first_of_class
first_least blocks i s m f = least_from blocks i 0 i s (omega arith) (omega arith) m f

pub first_first : (blocks : List Block) (i : ℕ) → first_of_class blocks (first_of_class blocks i) ≡ first_of_class blocks i
first_first blocks i =
    let c = first_of_class blocks i in
    let below = first_most blocks c in
    let up = first_most blocks i in
    let least = first_least blocks i (first_of_class blocks c) (omega (arith, below, up))
    (alike_chain blocks (first_of_class blocks c) c i (first_alike blocks c) (first_alike blocks i)) in
    omega (arith, below, least)

-- the net volume of a period is the net volume of the first one of its class
pub class_net : (blocks : List Block) (sel : List Bool) (i c : ℕ) → first_of_class blocks i ≡ c
    → net_volume blocks sel (suc i) ≡ net_volume blocks sel (suc c)
class_net blocks sel i c e =
    sym (alike_net blocks sel c i (subst (λ (k : ℕ). are_alike blocks k i ≡ true) e (first_alike blocks i)))

pub class_volume : (blocks : List Block) (i c k : ℕ) (b : Block) → first_of_class blocks i ≡ c → slice_get blocks k ≡ Some b
    → volume_in b.order.volumes (suc i) ≡ volume_in b.order.volumes (suc c)
class_volume blocks i c k b e at =
    sym (alike_volume blocks c i k b (subst (λ (k : ℕ). are_alike blocks k i ≡ true) e (first_alike blocks i)) at)

-- ---- sums over a class
-- a number of each of the periods from the place i on whose class begins at c, added up
abbrev pub over_class : (ℕ → ℤ) → List Block → ℕ → ℕ → ℕ → ℤ
over_class f blocks c i zero = pos 0
over_class f blocks c i (suc n) = cond (first_of_class blocks i == c) (f (suc i)) (pos 0) +ℤ over_class f blocks c (suc i) n

pub class_here : (f : ℕ → ℤ) (blocks : List Block) (c i n : ℕ) → first_of_class blocks i ≡ c
    → over_class f blocks c i (suc n) ≡ f (suc i) +ℤ over_class f blocks c (suc i) n
class_here f blocks c i n e =
    let same : (first_of_class blocks i == c) ≡ true = grind (arith, nat_tests) in
    ap (λ (t : Bool). cond t (f (suc i)) (pos 0) +ℤ over_class f blocks c (suc i) n) same

pub class_elsewhere : (f : ℕ → ℤ) (blocks : List Block) (c i n : ℕ) → first_of_class blocks i ≢ c
    → over_class f blocks c i (suc n) ≡ over_class f blocks c (suc i) n
class_elsewhere f blocks c i n e =
    let apart : (first_of_class blocks i == c) ≡ false = grind (arith, nat_tests) in
    let step = ap (λ (t : Bool). cond t (f (suc i)) (pos 0) +ℤ over_class f blocks c (suc i) n) apart in
    omega (arith, ints, step)

-- the same number of each member
pub same_class : (f g : ℕ → ℤ) (blocks : List Block) (c i n : ℕ)
    → ((k : ℕ) → i ≤ k → k < i + n → first_of_class blocks k ≡ c → f (suc k) ≡ g (suc k))
    → over_class f blocks c i n ≡ over_class g blocks c i n
same_class f g blocks c i zero each = refl
same_class f g blocks c i (suc n) each =
    let rest = same_class f g blocks c (suc i) n (λ k l m e. each k (omega (arith, l)) (omega (arith, m)) e) in
    elim (first_of_class blocks i == c) as (λ t. (first_of_class blocks i == c) ≡ t
    → cond t (f (suc i)) (pos 0) +ℤ over_class f blocks c (suc i) n ≡ cond t (g (suc i)) (pos 0) +ℤ over_class g blocks c (suc i) n) [
      | true ↦ λ e. ap₂ (λ (a b : ℤ). a +ℤ b) (each i (omega arith) (omega arith) (equal_from (first_of_class blocks i) c e)) rest
      | false ↦ λ e. ap (λ (b : ℤ). pos 0 +ℤ b) rest
    ] refl

-- ---- the sum over the classes is the sum over the periods
-- a number at one of n places, and 0 at the others
past_one : (x : ℤ) (a c n : ℕ) → a < c → sum_from (λ d. cond (a == d) x (pos 0)) c n ≡ pos 0
past_one x a c zero l = refl
past_one x a c (suc n) l =
    let apart : (a == c) ≡ false = grind (arith, nat_tests, l) in
    let here = ap (λ (t : Bool). cond t x (pos 0)) apart in
    let rest = past_one x a (suc c) n (omega (arith, l)) in
    omega (arith, ints, here, rest)

at_one : (x : ℤ) (a c n : ℕ) → c ≤ a → a < c + n → sum_from (λ d. cond (a == d) x (pos 0)) c n ≡ x
at_one x a c zero l m = absurd (omega (arith, l, m))
at_one x a c (suc n) l m = elim (cases_lt c a) [
  | inl less ↦
      (let apart : (a == c) ≡ false = grind (arith, nat_tests, less) in
      let here = ap (λ (t : Bool). cond t x (pos 0)) apart in
      let rest = at_one x a (suc c) n less (omega (arith, m)) in
      omega (arith, ints, here, rest))
  | inr more ↦
      (let same : (a == c) ≡ true = grind (arith, nat_tests, more, l) in
      let here = ap (λ (t : Bool). cond t x (pos 0)) same in
      let rest = past_one x a (suc c) n (omega (arith, more)) in
      omega (arith, ints, here, rest))
]

sum_plus : (f g : ℕ → ℤ) (c n : ℕ) → sum_from (λ d. f d +ℤ g d) c n ≡ sum_from f c n +ℤ sum_from g c n
sum_plus f g c zero = refl
sum_plus f g c (suc n) = let rest = sum_plus f g (suc c) n in omega (arith, ints, rest)

none_in : (c m : ℕ) → sum_from (λ d. pos 0) c m ≡ pos 0
none_in c zero = refl
none_in c (suc m) = let rest = none_in (suc c) m in omega (arith, ints, rest)

pub over_classes : (f : ℕ → ℤ) (blocks : List Block) (i n m : ℕ) → i + n ≤ m
    → sum_from (λ c. over_class f blocks c i n) 0 m ≡ sum_from f (suc i) n
over_classes f blocks i zero m l = none_in 0 m
over_classes f blocks i (suc n) m l =
    let first = first_most blocks i in
    let one = at_one (f (suc i)) (first_of_class blocks i) 0 m (omega arith) (omega (arith, first, l)) in
    let rest = over_classes f blocks (suc i) n m (omega (arith, l)) in
    let parts = sum_plus (λ c. cond (first_of_class blocks i == c) (f (suc i)) (pos 0)) (λ c. over_class f blocks c (suc i) n) 0 m in
    omega (arith, ints, one, rest, parts)
