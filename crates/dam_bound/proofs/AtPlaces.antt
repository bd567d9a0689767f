-- Numbers of the blocks at their places: how they are read, how large they are, and how they change.
use Rattle.dam_bound.proofs.Common.{◌≡◌, ℕ, zero, suc, ◌*◌, ◌<◌, ◌≤◌, ◌==◌, cond, true, false, ℤ, neg_ℤ, ◌+ℤ◌, ◌*ℤ◌, Some, List, [], ◌∷◌, length, take, get_or}
use Rattle.dam_bound.proofs.Common.{slice_set, ap, ap₂, ◌∙◌, sym, subst, refl, arith, slice_get, ints, BlockTerms, most_blocks, last_period, greatest_volume}
use Rattle.dam_bound.proofs.Common.{Side, Buy, Sell, greatest_price, greatest_value, signed, Block, AreBlocks, IsWithin, volume_in, net_volume_of_block}
use Rattle.dam_bound.proofs.Common.{value_in, over_periods, at_places, AreNumbersWithin, AreRaised}
use Rattle.std.proofs.Common.{pos}
use Rattle.dam_book.specs.Price.{IsPrice}
use Rattle.dam_book.specs.Terms.{IsBlockOrder}
use Rattle.dam_book.specs.Volumes.{Pair, ArePairs}
use Rattle.dam_bound.proofs.ClassPlaces.{periods_within}
use Rattle.dam_bound.proofs.PlaceSums.{times_within}

-- ---- reading
pub at_long : (n : ℕ) (f : BlockTerms → ℤ) (bs : List Block) → length (at_places n f bs) ≡ n
at_long zero f bs = refl
at_long (suc n) f [] = ap suc (at_long n f [])
at_long (suc n) f (b ∷ bs) = ap suc (at_long n f bs)

pub at_block : (n : ℕ) (f : BlockTerms → ℤ) (bs : List Block) (i : ℕ) (d : ℤ) (b : Block) → slice_get bs i ≡ Some b → length bs ≤ n
    → get_or (at_places n f bs) i d ≡ f b.order
at_block n f [] i d b at l = absurd (cc)
at_block zero f (x ∷ bs) i d b at l = absurd (omega (arith, l))
at_block (suc n) f (x ∷ bs) zero d b at l = let same : x ≡ b = cc in ap (λ (y : Block). f y.order) same
at_block (suc n) f (x ∷ bs) (suc i) d b at l = at_block n f bs i d b at (omega (arith, l))

pub at_within : (n : ℕ) (f : BlockTerms → ℤ) (bs : List Block) (most : ℕ) (i : ℕ) (d : ℤ)
    → ((k : ℕ) (b : Block) → slice_get bs k ≡ Some b → IsWithin most (f b.order)) → i < n → IsWithin most (get_or (at_places n f bs) i d)
at_within zero f bs most i d each l = absurd (omega (arith, l))
at_within (suc n) f [] most zero d each l = record { at_least = omega (arith, ints); at_most = omega (arith, ints) }
at_within (suc n) f [] most (suc i) d each l = at_within n f [] most i d each (omega (arith, l))
at_within (suc n) f (b ∷ bs) most zero d each l = each 0 b refl
at_within (suc n) f (b ∷ bs) most (suc i) d each l = at_within n f bs most i d (λ k x at. each (suc k) x at) (omega (arith, l))

pub all_within : (f : BlockTerms → ℤ) (bs : List Block) (most : ℕ) (xs : List ℤ) → xs ≡ at_places most_blocks f bs
    → ((k : ℕ) (b : Block) → slice_get bs k ≡ Some b → IsWithin most (f b.order)) → AreNumbersWithin most xs
all_within f bs most xs same each =
    subst (AreNumbersWithin most) (sym same) (record {
      long = at_long most_blocks f bs;
      each = λ i d l. at_within most_blocks f bs most i d each l;
    })

pub at_same : (n : ℕ) (f g : BlockTerms → ℤ) (bs : List Block) → ((k : ℕ) (b : Block) → slice_get bs k ≡ Some b → f b.order ≡ g b.order)
    → at_places n f bs ≡ at_places n g bs
at_same zero f g bs each = refl
at_same (suc n) f g [] each = ap (λ (xs : List ℤ). pos 0 ∷ xs) (at_same n f g [] (λ k b at. absurd (cc)))
at_same (suc n) f g (b ∷ bs) each = ap₂ (λ (x : ℤ) (xs : List ℤ). x ∷ xs) (each 0 b refl) (at_same n f g bs (λ k x at. each (suc k) x at))

-- ---- gains that are raised
raised_from : (n : ℕ) (f g : BlockTerms → ℤ) (p : ℤ) (bs : List Block) (after : List ℤ) → length after ≡ n
    → ((i : ℕ) (d : ℤ) → i < n → get_or after i d ≡ get_or (at_places n f bs) i d +ℤ p *ℤ get_or (at_places n g bs) i d)
    → after ≡ at_places n (λ o. f o +ℤ p *ℤ g o) bs
raised_from zero f g p bs [] long each = refl
raised_from zero f g p bs (x ∷ after) long each = absurd (omega (arith, long))
raised_from (suc n) f g p bs [] long each = absurd (omega (arith, long))
raised_from (suc n) f g p [] (x ∷ after) long each =
    let here = each 0 (pos 0) (omega arith) in
    let zero_is : x ≡ pos 0 = omega (arith, ints, here) in
    ap₂ (λ (y : ℤ) (ys : List ℤ). y ∷ ys) zero_is
    (raised_from n f g p [] after (omega (arith, long)) (λ i d l. each (suc i) d (omega (arith, l))))
raised_from (suc n) f g p (b ∷ bs) (x ∷ after) long each =
    ap₂ (λ (y : ℤ) (ys : List ℤ). y ∷ ys) (each 0 (pos 0) (omega arith))
    (raised_from n f g p bs after (omega (arith, long)) (λ i d l. each (suc i) d (omega (arith, l))))

pub raised_is : (f g : BlockTerms → ℤ) (p : ℤ) (bs : List Block) (nets before after : List ℤ) → nets ≡ at_places most_blocks g bs
    → before ≡ at_places most_blocks f bs → AreRaised p nets before after → after ≡ at_places most_blocks (λ o. f o +ℤ p *ℤ g o) bs
raised_is f g p bs nets before after nets_are before_is are =
    raised_from most_blocks f g p bs after are.long (λ i d l.
    are.each i d l ∙ ap₂ (λ (xs ys : List ℤ). get_or xs i d +ℤ p *ℤ get_or ys i d) before_is nets_are)

-- ---- a number that is written at its place
pub at_next : (n : ℕ) (f : BlockTerms → ℤ) (bs : List Block) (i : ℕ) (b : Block) → slice_get bs i ≡ Some b → length bs ≤ n
    → slice_set (at_places n f (take i bs)) i (f b.order) ≡ at_places n f (take (suc i) bs)
at_next n f [] i b at l = absurd (cc)
at_next zero f (x ∷ bs) i b at l = absurd (omega (arith, l))
at_next (suc n) f (x ∷ bs) zero b at l =
    let same : x ≡ b = cc in ap (λ (y : Block). f y.order ∷ at_places n f []) (sym same)
at_next (suc n) f (x ∷ bs) (suc i) b at l = ap (λ (xs : List ℤ). f x.order ∷ xs) (at_next n f bs i b at (omega (arith, l)))

-- ---- how large the numbers of a block are
volume_small : (ps : List Pair) (t : ℕ) → ArePairs ps → volume_in ps t ≤ greatest_volume
volume_small [] t are = omega arith
volume_small (p ∷ ps) t are =
    elim (p.0 == t) as (λ b. cond b p.1 (volume_in ps t) ≤ greatest_volume) [ true ↦ are.1.at_most | false ↦ volume_small ps t are.2 ]

one_net : (side : Side) (v : ℕ) → v ≤ greatest_volume → IsWithin greatest_volume (neg_ℤ (signed side (pos v)))
one_net Buy v l = record { at_least = omega (arith, ints, l); at_most = omega (arith, ints, l) }
one_net Sell v l = record { at_least = omega (arith, ints, l); at_most = omega (arith, ints, l) }

pub order_at : (periods : ℕ) (bs : List Block) (k : ℕ) (b : Block) → AreBlocks periods bs → slice_get bs k ≡ Some b → IsBlockOrder b.order
order_at periods [] k b are at = absurd (cc)
order_at periods (x ∷ bs) zero b are at = let same : x ≡ b = cc in subst (λ (y : Block). IsBlockOrder y.order) same are.0.order
order_at periods (x ∷ bs) (suc k) b are at = order_at periods bs k b are.1 at

pub net_small : (t : ℕ) (o : BlockTerms) → IsBlockOrder o → IsWithin greatest_volume (net_volume_of_block t o)
net_small t o is = one_net o.side (volume_in o.volumes t) (volume_small o.volumes t is.volumes.ranges)

one_value : (side : Side) (price : ℤ) (v : ℕ) → IsPrice price → v ≤ greatest_volume → IsWithin greatest_value (signed side (price *ℤ pos v))
one_value side price v is l = by_side side
  where
    product : IsWithin greatest_value (price *ℤ pos v)
    product =
        let low = is.at_least in let high = is.at_most in
        times_within greatest_price greatest_volume price (pos v)
        (record { at_least = omega (arith, ints, low); at_most = omega (arith, ints, high) })
        (record { at_least = omega (arith, ints); at_most = omega (arith, ints, l) })

    by_side : (side : Side) → IsWithin greatest_value (signed side (price *ℤ pos v))
    by_side Buy = product
    by_side Sell = let low = product.at_least in let high = product.at_most in
        record { at_least = omega (arith, ints, high); at_most = omega (arith, ints, low) }

pub value_small : (n : ℕ) (o : BlockTerms) → n ≤ last_period → IsBlockOrder o
    → IsWithin (last_period * greatest_value) (over_periods (λ t. value_in t o) 1 n)
value_small n o few is =
    let sum = periods_within (λ t. value_in t o) 1 n greatest_value (λ t. one_value o.side o.price (volume_in o.volumes t) is.price (volume_small o.volumes t is.volumes.ranges)) in
    let a = sum.at_least in let b = sum.at_most in
    record { at_least = omega (arith, ints, a, few); at_most = omega (arith, ints, b, few) }
