-- The prices of a selection are the only ones.
use Rattle.dam_blocks.proofs.Common.{◌≡◌, ℕ, suc, ℤ, Bool, List, [], ◌∷◌, ap₂, ◌∙◌, sym, refl, arith, ints, Step, price_between, Block, net_volume}
use Rattle.dam_blocks.proofs.Common.{IsClearingPrice, ArePrices}

price_unique : (ss : List Step) (net p q : ℤ) → IsClearingPrice ss net p → IsClearingPrice ss net q → p ≡ q
price_unique ss net p q c d =
    let a = c.ends.least d.low d.ends.low_supports in let b = d.ends.least c.low c.ends.low_supports in
    let e = c.ends.greatest d.high d.ends.high_supports in let f = d.ends.greatest c.high c.ends.high_supports in
    let low : c.low ≡ d.low = omega (arith, ints, a, b) in
    let high : c.high ≡ d.high = omega (arith, ints, e, f) in
    c.between ∙ ap₂ price_between low high ∙ sym d.between

pub prices_unique : (blocks : List Block) (sel : List Bool) (t : ℕ) (hours : List (List Step)) (ps qs : List ℤ)
    → ArePrices blocks sel t hours ps → ArePrices blocks sel t hours qs → ps ≡ qs
prices_unique blocks sel t [] [] [] h g = refl
prices_unique blocks sel t [] (p ∷ ps) qs h g = absurd h
prices_unique blocks sel t [] [] (q ∷ qs) h g = absurd g
prices_unique blocks sel t (ss ∷ hours) [] qs h g = absurd h
prices_unique blocks sel t (ss ∷ hours) (p ∷ ps) [] h g = absurd g
prices_unique blocks sel t (ss ∷ hours) (p ∷ ps) (q ∷ qs) h g =
    ap₂ (λ (x : ℤ) (xs : List ℤ). x ∷ xs) (price_unique ss (net_volume blocks sel t) p q h.0 g.0)
    (prices_unique blocks sel (suc t) hours ps qs h.1 g.1)
