-- A place more of a loop over a selection, its blocks and its periods.
use Rattle.dam_blocks.proofs.Common.{◌≡◌, ℕ, zero, suc, ◌+◌, ◌*◌, ◌<◌, ℤ, pos, neg_ℤ, ◌+ℤ◌, ◌≤ℤ◌, Bool, true, false, Some, List, [], ◌∷◌, length, get_or, drop}
use Rattle.dam_blocks.proofs.Common.{ap, ap₂, ◌∙◌, sym, refl, arith, ints, BlockTerms, Block, greatest_gain, accepts, over_accepted, surplus_in, surplus_from}
use Rattle.std.specs.List.{slice_get}
use Rattle.std.proofs.Math.Seq.{drop-cons}
use Rattle.dam_blocks.proofs.Sums.{over_accepted-nil}

one_more : (i : ℕ) → suc i ≡ i + 1
one_more i = omega arith

-- an accepted block and the rest
sum-accepted : (f : BlockTerms → ℤ) (i : ℕ) (bs : List Block) (b : Block) (sel : List Bool) → slice_get bs i ≡ Some b → accepts sel i ≡ true
    → over_accepted f (drop i bs) (drop i sel) ≡ f b.order +ℤ over_accepted f (drop (suc i) bs) (drop (suc i) sel)
sum-accepted f i [] b sel e a = absurd (cc)
sum-accepted f i (c ∷ bs) b [] e a = absurd (cc)
sum-accepted f zero (c ∷ bs) b (true ∷ sel) e a = let same : c ≡ b = cc in ap (λ (d : Block). f d.order +ℤ over_accepted f bs sel) same
sum-accepted f zero (c ∷ bs) b (false ∷ sel) e a = absurd (cc)
sum-accepted f (suc i) (c ∷ bs) b (x ∷ sel) e a = sum-accepted f i bs b sel e a

nothing_left : (f : BlockTerms → ℤ) (i : ℕ) (sel : List Bool)
    → over_accepted f (drop i []) (drop i sel) ≡ over_accepted f (drop (suc i) []) (drop (suc i) sel)
nothing_left f zero sel = refl
nothing_left f (suc i) sel = refl

sum-rejected : (f : BlockTerms → ℤ) (i : ℕ) (bs : List Block) (sel : List Bool) → accepts sel i ≡ false
    → over_accepted f (drop i bs) (drop i sel) ≡ over_accepted f (drop (suc i) bs) (drop (suc i) sel)
sum-rejected f i [] sel e = nothing_left f i sel
sum-rejected f zero (b ∷ bs) [] e = sym (over_accepted-nil f bs)
sum-rejected f (suc i) (b ∷ bs) [] e = over_accepted-nil f (drop i bs) ∙ sym (over_accepted-nil f (drop (suc i) bs))
sum-rejected f zero (b ∷ bs) (true ∷ sel) e = absurd (cc)
sum-rejected f zero (b ∷ bs) (false ∷ sel) e = refl
sum-rejected f (suc i) (b ∷ bs) (x ∷ sel) e = sum-rejected f i bs sel e

-- the sum over the accepted blocks so far, each of which adds at most the limit, and the sum over the blocks that are
-- left
pub record IsSumSoFar (f : BlockTerms → ℤ) (limit : ℕ) (bs : List Block) (sel : List Bool) (place : ℕ) (total : ℤ) : Type 0 where
  pub sum : total +ℤ over_accepted f (drop place bs) (drop place sel) ≡ over_accepted f bs sel
  pub low : neg_ℤ (pos (place * limit)) ≤ℤ total
  pub high : total ≤ℤ pos (place * limit)

pub sum_more : (f : BlockTerms → ℤ) (limit : ℕ) (bs : List Block) (sel : List Bool) (place : ℕ) (total v after : ℤ) (b : Block)
    → slice_get bs place ≡ Some b → accepts sel place ≡ true → v ≡ f b.order → neg_ℤ (pos limit) ≤ℤ v → v ≤ℤ pos limit → after ≡ total +ℤ v
    → IsSumSoFar f limit bs sel place total → IsSumSoFar f limit bs sel (place + 1) after
sum_more f limit bs sel place total v after b at accepted is low high e so_far =
    let step = sum-accepted f place bs b sel at accepted in
    let next = ap (λ (n : ℕ). over_accepted f (drop n bs) (drop n sel)) (one_more place) in
    let sum = so_far.sum in let l = so_far.low in let h = so_far.high in
    record {
      sum = omega (arith, ints, step, next, sum, is, e);
      low = omega (arith, ints, l, low, e);
      high =
          omega (arith, ints, h, high, e);
    }

pub sum_same : (f : BlockTerms → ℤ) (limit : ℕ) (bs : List Block) (sel : List Bool) (place : ℕ) (total after : ℤ)
    → accepts sel place ≡ false → after ≡ total → IsSumSoFar f limit bs sel place total → IsSumSoFar f limit bs sel (place + 1) after
sum_same f limit bs sel place total after rejected e so_far =
    let step = sum-rejected f place bs sel rejected in
    let next = ap (λ (n : ℕ). over_accepted f (drop n bs) (drop n sel)) (one_more place) in
    let sum = so_far.sum in let l = so_far.low in let h = so_far.high in
    record { sum = omega (arith, ints, step, next, sum, e); low = omega (arith, ints, l, e); high = omega (arith, ints, h, e) }

-- ---- the surplus of a block, period by period
surplus_at_next : (t i : ℕ) (prices : List ℤ) (p : ℤ) (o : BlockTerms) → i < length prices → p ≡ get_or prices i p
    → surplus_from t (drop i prices) o ≡ surplus_in t p o +ℤ surplus_from (suc t) (drop (suc i) prices) o
surplus_at_next t i prices p o l e =
    ap (λ (ps : List ℤ). surplus_from t ps o) (drop-cons prices i p l ∙ ap (λ (q : ℤ). q ∷ drop (suc i) prices) (sym e))

-- the sum over the periods so far, each of which adds at most the limit, and the sum over the periods that are left
pub record IsSurplusSoFar (o : BlockTerms) (prices : List ℤ) (place : ℕ) (total : ℤ) : Type 0 where
  pub sum : total +ℤ surplus_from (place + 1) (drop place prices) o ≡ surplus_from 1 prices o
  pub low : neg_ℤ (pos (place * greatest_gain)) ≤ℤ total
  pub high : total ≤ℤ pos (place * greatest_gain)

pub surplus_more : (o : BlockTerms) (prices : List ℤ) (place t : ℕ) (p total v after : ℤ) → place < length prices
    → p ≡ get_or prices place p → t ≡ place + 1
    → v ≡ surplus_in t p o → neg_ℤ (pos greatest_gain) ≤ℤ v → v ≤ℤ pos greatest_gain → after ≡ total +ℤ v
    → IsSurplusSoFar o prices place total → IsSurplusSoFar o prices (place + 1) after
surplus_more o prices place t p total v after l at period is low high e so_far =
    let step = surplus_at_next (place + 1) place prices p o l at in
    let here = ap (λ (n : ℕ). surplus_in n p o) period in
    let next : surplus_from (suc (place + 1)) (drop (suc place) prices) o ≡ surplus_from ((place + 1) + 1) (drop (place + 1) prices) o =
    ap₂ (λ (m n : ℕ). surplus_from m (drop n prices) o) (one_more (place + 1)) (one_more place) in
    let sum = so_far.sum in let b = so_far.low in let h = so_far.high in
    record {
      sum = omega (arith, ints, step, here, next, sum, is, e);
      low = omega (arith, ints, b, low, e);
      high =
          omega (arith, ints, h, high, e);
    }
