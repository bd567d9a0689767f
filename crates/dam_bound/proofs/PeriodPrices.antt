-- The prices of the periods of a day: the ends of each are unique, and there are prices if every period balances.
use Rattle.dam_bound.proofs.Common.{◌≡◌, ℕ, suc, ℤ, ◌+ℤ◌, Bool, Option, Some, None, List, [], ◌∷◌, refl, Step, welfare_of, greatest_welfare, AreInRange}
use Rattle.dam_bound.proofs.Common.{IsExecution, Block, net_volume, accepted_value, ArePrices, period_welfare, welfare_from}
use Rattle.std.specs.Option.{option_map}
use Rattle.dam_hour.specs.Price.{AreEnds, price_between}
use Rattle.dam_hour.specs.Execution.{Balances, IsWithinOffers}
use Rattle.dam_blocks.specs.Problem.{AreHoursInRange}
use Rattle.dam_blocks.specs.Eligible.{added}

-- the law of dam_hour on two pairs of ends
abbrev pub AreEndsUnique : Type 0
AreEndsUnique = (ss : List Step) (net low high other_low other_high : ℤ) → AreEnds ss net low high → AreEnds ss net other_low other_high
    → (low ≡ other_low) × (high ≡ other_high)

-- ---- if every period balances
pub record PriceLaws : Type 0 where
  pub reached : (ss : List Step) (net w : ℤ) → greatest_welfare ss net ≡ Some w
      → (xs : List ℕ) × IsExecution ss xs × Balances ss net xs × (welfare_of ss xs ≡ w)
  pub within : (ss : List Step) (net : ℤ) (xs : List ℕ) → IsExecution ss xs → Balances ss net xs → IsWithinOffers ss net
  pub ends : (ss : List Step) (net : ℤ) → AreInRange ss → IsWithinOffers ss net → (low : ℤ) × (high : ℤ) × AreEnds ss net low high

both : (x y : Option ℤ) (w : ℤ) → added x y ≡ Some w → ((u : ℤ) × (x ≡ Some u)) × ((v : ℤ) × (y ≡ Some v))
both None y w e = absurd (cc)
both (Some u) None w e = absurd (cc)
both (Some u) (Some v) w e = ((u, refl), (v, refl))

mapped : (f : ℤ → ℤ) (x : Option ℤ) (u : ℤ) → option_map f x ≡ Some u → (g : ℤ) × (x ≡ Some g)
mapped f None u e = absurd (cc)
mapped f (Some g) u e = (g, refl)

-- there are prices
pub some_prices : PriceLaws → (blocks : List Block) (sel : List Bool) (t : ℕ) (hours : List (List Step)) (w : ℤ) → AreHoursInRange hours
    → welfare_from blocks sel t hours ≡ Some w
    → (prices : List ℤ) × ArePrices blocks sel t hours prices
some_prices laws blocks sel t [] w are e = ([], tt)
some_prices laws blocks sel t (ss ∷ hours) w are e =
    let net = net_volume blocks sel t in
    let parts = both (period_welfare blocks sel t ss) (welfare_from blocks sel (suc t) hours) w e in
    let great = mapped (λ (z : ℤ). z +ℤ accepted_value blocks sel t) (greatest_welfare ss net) parts.0.0 parts.0.1 in
    let execution = laws.reached ss net great.0 great.1 in
    let ends = laws.ends ss net are.0 (laws.within ss net execution.0 execution.1 execution.2) in
    let rest = some_prices laws blocks sel (suc t) hours parts.1.0 are.1 parts.1.1 in
    (price_between ends.0 ends.1 ∷ rest.0, (record { low = ends.0; high = ends.1; ends = ends.2; between = refl }, rest.1))
