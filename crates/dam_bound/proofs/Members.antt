-- The blocks that descend from one, place by place, and the sum of their gains.
use Rattle.dam_bound.proofs.Common.{◌≡◌, ℕ, zero, suc, ◌+◌, ◌<◌, ℤ, ◌+ℤ◌, Bool, true, false, Option, Some, List, [], ◌∷◌, length, ◌&&◌, None, drop, get_or, ap}
use Rattle.dam_bound.proofs.Common.{◌∙◌, sym, refl, arith, slice_get, ints, nat_tests, slice_get_read, BlockTerms, most_blocks, Block, accepts, over_accepted}
use Rattle.dam_bound.proofs.Common.{descends, surplus_of, surplus_at, IsFamily}
use Rattle.std.proofs.Common.{pos, nat_lt, IsTrue, option_map, unwrap_or}
use Rattle.dam_blocks.specs.Selection.{Meets}
use Rattle.dam_bound.specs.inside.Families.{AreFamilies}
use Rattle.dam_bound.proofs.Accepted.{if_accepted}

-- ---- the descendants among the first places
pub record AreDescendantsSoFar (blocks : List Block) (place count : ℕ) (descendants : List Bool) : Type 0 where
  pub long : length descendants ≡ most_blocks
  pub are : (at : ℕ) → accepts descendants at ≡ (nat_lt at count && descends blocks place at)

-- each block's acceptance in the set
pub all_read : (blocks : List Block) (place : ℕ) (family : List Bool)
    → ((at : ℕ) → accepts family at ≡ (nat_lt at (length blocks) && descends blocks place at)) → IsFamily blocks place (Some family)
all_read blocks place family are j l =
    let inside : nat_lt j (length blocks) ≡ true = grind (arith, nat_tests) in
    are j ∙ ap (λ (b : Bool). b && descends blocks place j) inside

unmet : (b met : Bool) → met ≡ false → (b ≡ true → IsTrue met) → b ≡ false
unmet false met e h = refl
unmet true true e h = absurd (cc)
unmet true false e h = absurd (let t = h refl in cc)

pub none_met : (blocks : List Block) (place : ℕ) (family : List Bool) (met : Bool)
    → ((at : ℕ) → accepts family at ≡ (nat_lt at (length blocks) && descends blocks place at)) → met ≡ false
    → (Meets family family → IsTrue met) → IsFamily blocks place None
none_met blocks place family met are e h j l =
    let is = all_read blocks place family are j l in
    unmet (descends blocks place j) met e (λ t. h (j, is ∙ t, is ∙ t))

-- ---- sums over accepted places
over_accepted-nil : (f : BlockTerms → ℤ) (bs : List Block) → over_accepted f bs [] ≡ pos 0
over_accepted-nil f [] = refl
over_accepted-nil f (b ∷ bs) = refl

first_apart : (f : BlockTerms → ℤ) (b : Block) (bs : List Block) (c : Bool) (sel : List Bool)
    → over_accepted f (b ∷ bs) (c ∷ sel) ≡ if_accepted c (f b.order) +ℤ over_accepted f bs sel
first_apart f b bs true sel = refl
first_apart f b bs false sel = omega (arith, ints)

-- a place, and the rest
from_place : (f : BlockTerms → ℤ) (i : ℕ) (bs : List Block) (b : Block) (sel : List Bool) → slice_get bs i ≡ Some b
    → over_accepted f (drop i bs) (drop i sel) ≡ if_accepted (accepts sel i) (f b.order) +ℤ over_accepted f (drop (suc i) bs)
    (drop (suc i) sel)
from_place f i [] b sel e = absurd (cc)
from_place f zero (c ∷ bs) b [] e = let none = over_accepted-nil f bs in omega (arith, ints, none)
from_place f (suc i) (c ∷ bs) b [] e =
    let here = over_accepted-nil f (drop i bs) in let next = over_accepted-nil f (drop (suc i) bs) in omega (arith, ints, here, next)
from_place f zero (c ∷ bs) b (a ∷ sel) e =
    let same : c ≡ b = cc in first_apart f c bs a sel ∙ ap (λ (d : Block). if_accepted a (f d.order) +ℤ over_accepted f bs sel) same
from_place f (suc i) (c ∷ bs) b (a ∷ sel) e = from_place f i bs b sel e

next_place : (i : ℕ) → suc i ≡ i + 1
next_place i = omega arith

pub stands : (bs : List Block) (i : ℕ) → i < length bs → (b : Block) × (slice_get bs i ≡ Some b)
stands [] i l = absurd (omega (arith, l))
stands (b ∷ bs) zero l = (b, refl)
stands (b ∷ bs) (suc i) l = stands bs i (omega (arith, l))

pub member_more : (prices : List ℤ) (blocks : List Block) (members : List Bool) (place : ℕ) (accepted : Bool) (total own after : ℤ)
    → place < length blocks → accepts members place ≡ accepted → own ≡ if_accepted accepted (surplus_at blocks prices place)
    → after ≡ total +ℤ own
    → total +ℤ over_accepted (surplus_of prices) (drop place blocks) (drop place members) ≡ over_accepted (surplus_of prices) blocks members
    → after +ℤ over_accepted (surplus_of prices) (drop (place + 1) blocks) (drop (place + 1) members) ≡ over_accepted (surplus_of prices)
    blocks members
member_more prices blocks members place accepted total own after inside is e f so_far =
    let found = stands blocks place inside in let b = found.0 in let at = found.1 in
    let step = from_place (surplus_of prices) place blocks b members at in
    let here = ap (λ (c : Bool). if_accepted c (surplus_of prices b.order)) is in
    let there = ap (λ (o : Option Block). if_accepted accepted (unwrap_or (option_map (λ (c : Block). surplus_of prices c.order) o) (pos 0)))
    at in
    let next = ap (λ (n : ℕ). over_accepted (surplus_of prices) (drop n blocks) (drop n members)) (next_place place) in
    omega (arith, ints, step, here, there, next, e, f, so_far)

pub no_members : (f : BlockTerms → ℤ) (blocks : List Block) (members : List Bool)
    → ((i : ℕ) → i < length blocks → accepts members i ≡ false)
    → over_accepted f blocks members ≡ pos 0
no_members f [] members h = refl
no_members f (b ∷ bs) [] h = refl
no_members f (b ∷ bs) (true ∷ members) h = absurd (let wrong = h 0 (omega arith) in cc)
no_members f (b ∷ bs) (false ∷ members) h = no_members f bs members (λ i l. h (suc i) (omega (arith, l)))

-- ---- the family that is kept
pub family_read : (blocks : List Block) (families read : List (Option (List Bool))) (place : ℕ) (family : Option (List Bool))
    → read ≡ families → AreFamilies blocks families → place < length blocks → family ≡ get_or read place family → IsFamily blocks place family
family_read blocks families read place family same are inside is =
    let many = are.as_many in
    are.each place family
    (ap (λ (fs : List (Option (List Bool))). slice_get fs place) (sym same)
    ∙ slice_get_read read (length families) place family (ap (λ (fs : List (Option (List Bool))). length fs) (sym same))
    (omega (arith, inside, many)) is)
