-- Sums over the accepted blocks.
use Rattle.dam_blocks.proofs.Common.{◌≡◌, ℕ, zero, suc, ◌+◌, ◌-◌, ◌*◌, ℤ, pos, neg_ℤ, ◌+ℤ◌, ◌-ℤ◌, ◌*ℤ◌, Bool, true, false, List, [], ◌∷◌, ◌++◌, length, drop}
use Rattle.dam_blocks.proofs.Common.{replicate, ap, ap₂, ◌∙◌, sym, refl, arith, ints, BlockTerms, most_blocks, Side, Buy, Sell, signed, Block, padded}
use Rattle.dam_blocks.proofs.Common.{over_accepted, volume_in, net_volume_of_block, value_in, net_volume, accepted_value, surplus_in}
use borrow.Author.Differences.{up, down}

pub over_accepted-plus : (f g : BlockTerms → ℤ) (bs : List Block) (sel : List Bool)
    → over_accepted (λ o. f o +ℤ g o) bs sel ≡ over_accepted f bs sel +ℤ over_accepted g bs sel
over_accepted-plus f g [] sel = refl
over_accepted-plus f g (b ∷ bs) [] = refl
over_accepted-plus f g (b ∷ bs) (true ∷ sel) = let rest = over_accepted-plus f g bs sel in omega (arith, ints, rest)
over_accepted-plus f g (b ∷ bs) (false ∷ sel) = over_accepted-plus f g bs sel

times_plus : (p a b c : ℤ) → a +ℤ b ≡ c → p *ℤ c ≡ p *ℤ a +ℤ p *ℤ b
times_plus p a b c e =
    let k : up a + up b + down c ≡ down a + down b + up c = omega (arith, ints) in
    let m = ap (λ (n : ℕ). up p * n) k in
    let n = ap (λ (n : ℕ). down p * n) k in
    omega (arith, ints, m, n)

times_zero : (p : ℤ) → p *ℤ pos 0 ≡ pos 0
times_zero p = omega (arith, ints)

pub over_accepted-times : (p : ℤ) (f : BlockTerms → ℤ) (bs : List Block) (sel : List Bool)
    → p *ℤ over_accepted f bs sel ≡ over_accepted (λ o. p *ℤ f o) bs sel
over_accepted-times p f [] sel = times_zero p
over_accepted-times p f (b ∷ bs) [] = times_zero p
over_accepted-times p f (b ∷ bs) (true ∷ sel) =
    times_plus p (f b.order) (over_accepted f bs sel) (f b.order +ℤ over_accepted f bs sel) refl
    ∙ ap (λ (z : ℤ). p *ℤ f b.order +ℤ z) (over_accepted-times p f bs sel)
over_accepted-times p f (b ∷ bs) (false ∷ sel) = over_accepted-times p f bs sel

pub over_accepted-same : (f g : BlockTerms → ℤ) (bs : List Block) (sel : List Bool) → ((o : BlockTerms) → f o ≡ g o)
    → over_accepted f bs sel ≡ over_accepted g bs sel
over_accepted-same f g [] sel h = refl
over_accepted-same f g (b ∷ bs) [] h = refl
over_accepted-same f g (b ∷ bs) (true ∷ sel) h = ap₂ (λ (x y : ℤ). x +ℤ y) (h b.order) (over_accepted-same f g bs sel h)
over_accepted-same f g (b ∷ bs) (false ∷ sel) h = over_accepted-same f g bs sel h

pub over_accepted-replicate : (f : BlockTerms → ℤ) (bs : List Block) (n : ℕ) → over_accepted f bs (replicate n false) ≡ pos 0
over_accepted-replicate f [] n = refl
over_accepted-replicate f (b ∷ bs) zero = refl
over_accepted-replicate f (b ∷ bs) (suc n) = over_accepted-replicate f bs n

pub over_accepted-nil : (f : BlockTerms → ℤ) (bs : List Block) → over_accepted f bs [] ≡ pos 0
over_accepted-nil f [] = refl
over_accepted-nil f (b ∷ bs) = refl

pub over_accepted-append : (f : BlockTerms → ℤ) (bs : List Block) (xs ys : List Bool)
    → over_accepted f bs (xs ++ ys) ≡ over_accepted f bs xs +ℤ over_accepted f (drop (length xs) bs) ys
over_accepted-append f bs [] ys = let none = over_accepted-nil f bs in omega (arith, ints, none)
over_accepted-append f [] (x ∷ xs) ys = omega (arith, ints)
over_accepted-append f (b ∷ bs) (true ∷ xs) ys = let rest = over_accepted-append f bs xs ys in omega (arith, ints, rest)
over_accepted-append f (b ∷ bs) (false ∷ xs) ys = over_accepted-append f bs xs ys

pub over_accepted-padded : (f : BlockTerms → ℤ) (bs : List Block) (xs : List Bool) → over_accepted f bs (padded xs) ≡ over_accepted f bs xs
over_accepted-padded f bs xs =
    let parts = over_accepted-append f bs xs (replicate (most_blocks - length xs) false) in
    let none = over_accepted-replicate f (drop (length xs) bs) (most_blocks - length xs) in
    omega (arith, ints, parts, none)

pub over_accepted-zero : (bs : List Block) (sel : List Bool) → over_accepted (λ o. pos 0) bs sel ≡ pos 0
over_accepted-zero [] sel = refl
over_accepted-zero (b ∷ bs) [] = refl
over_accepted-zero (b ∷ bs) (true ∷ sel) = let rest = over_accepted-zero bs sel in omega (arith, ints, rest)
over_accepted-zero (b ∷ bs) (false ∷ sel) = over_accepted-zero bs sel

-- ---- the gain of a block is its value and the price of its net volume
minus_times : (a b : ℤ) (x : ℕ) → (a -ℤ b) *ℤ pos x +ℤ b *ℤ pos x ≡ a *ℤ pos x
minus_times a b x =
    let e : up (a -ℤ b) + down a + up b ≡ down (a -ℤ b) + up a + down b = omega (arith, ints) in
    let m = ap (λ (n : ℕ). n * x) e in
    omega (arith, ints, m)

times_neg : (p z : ℤ) (x : ℕ) → z ≡ neg_ℤ (pos x) → p *ℤ z +ℤ p *ℤ pos x ≡ pos 0
times_neg p z x e = let s = times_plus p z (pos x) (pos 0) (omega (arith, ints)) in let n = times_zero p in omega (arith, ints, s, n)

gain_split : (side : Side) (limit p : ℤ) (x : ℕ)
    → p *ℤ neg_ℤ (signed side (pos x)) +ℤ signed side (limit *ℤ pos x) ≡ signed side ((limit -ℤ p) *ℤ pos x)
gain_split Buy limit p x =
    let m = minus_times limit p x in let n = times_neg p (neg_ℤ (pos x)) x refl in omega (arith, ints, m, n)
gain_split Sell limit p x =
    let twice : neg_ℤ (neg_ℤ (pos x)) ≡ pos x = omega (arith, ints) in
    let m = minus_times limit p x in let n = ap (λ (z : ℤ). p *ℤ z) twice in omega (arith, ints, m, n)

pub surplus_split : (t : ℕ) (p : ℤ) (o : BlockTerms) → p *ℤ net_volume_of_block t o +ℤ value_in t o ≡ surplus_in t p o
surplus_split t p o = gain_split o.side o.price p (volume_in o.volumes t)

pub accepted_surplus : (blocks : List Block) (sel : List Bool) (t : ℕ) (p : ℤ)
    → p *ℤ net_volume blocks sel t +ℤ accepted_value blocks sel t ≡ over_accepted (surplus_in t p) blocks sel
accepted_surplus blocks sel t p =
    ap (λ (z : ℤ). z +ℤ accepted_value blocks sel t) (over_accepted-times p (net_volume_of_block t) blocks sel)
    ∙ sym (over_accepted-plus (λ o. p *ℤ net_volume_of_block t o) (value_in t) blocks sel)
    ∙ over_accepted-same (λ o. p *ℤ net_volume_of_block t o +ℤ value_in t o) (surplus_in t p) blocks sel (surplus_split t p)
