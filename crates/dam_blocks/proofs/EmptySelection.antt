-- The empty selection is eligible.
use Rattle.dam_blocks.proofs.Common.{◌≡◌, ℕ, suc, ℤ, pos, ◌+ℤ◌, Bool, true, Option, Some, List, [], ◌∷◌, refl, arith, ints, most_blocks, Step, AreInRange}
use Rattle.dam_blocks.proofs.Common.{AreEnds, price_between, IsBest, welfare_of, greatest_welfare, Block, ProblemState, AreHoursInRange, accepts}
use Rattle.dam_blocks.proofs.Common.{net_volume_of_block, net_volume, accepted_value, IsAdmissible, ArePrices, added, period_welfare, welfare_from, IsEligible}
use Rattle.dam_hour.specs.Execution.{IsWithinOffers}
use Rattle.dam_blocks.specs.Selection.{empty_selection}
use Rattle.dam_blocks.proofs.Sums.{over_accepted-replicate}
use Rattle.dam_blocks.proofs.Choices.{accepts-replicate}
use Rattle.dam_blocks.proofs.PeriodByPeriod.{raised_is}

-- the laws of one period on a net volume within its offers
pub record ExistenceLaws : Type 0 where
  pub ends : (ss : List Step) (net : ℤ) → AreInRange ss → IsWithinOffers ss net → (low : ℤ) × (high : ℤ) × AreEnds ss net low high
  pub best : (ss : List Step) (net : ℤ) → AreInRange ss → IsWithinOffers ss net → (xs : List ℕ) × IsBest ss net xs
  pub welfare : (ss : List Step) (net : ℤ) (xs : List ℕ) → IsBest ss net xs → greatest_welfare ss net ≡ Some (welfare_of ss xs)

within_offers : (ss : List Step) (net : ℤ) → net ≡ pos 0 → IsWithinOffers ss net
within_offers ss net e = record { at_least = omega (arith, ints, e); at_most = omega (arith, ints, e) }

pub empty_accepted : (i : ℕ) → accepts empty_selection i ≡ true → ⊥
empty_accepted i e = accepts-replicate most_blocks i e

empty_admissible : (blocks : List Block) → IsAdmissible blocks empty_selection
empty_admissible blocks = record { each = λ i e. absurd (empty_accepted i e) }

empty_net : (blocks : List Block) (t : ℕ) → net_volume blocks empty_selection t ≡ pos 0
empty_net blocks t = over_accepted-replicate (net_volume_of_block t) blocks most_blocks

-- each net volume is within the offers of its period, from period t on
abbrev pub AreWithin : List Block → List Bool → ℕ → List (List Step) → Type 0
AreWithin blocks sel t [] = Unit {0}
AreWithin blocks sel t (ss ∷ hours) = IsWithinOffers ss (net_volume blocks sel t) × AreWithin blocks sel (suc t) hours

empty_within : (blocks : List Block) (t : ℕ) (hours : List (List Step)) → AreWithin blocks empty_selection t hours
empty_within blocks t [] = tt
empty_within blocks t (ss ∷ hours) =
    (within_offers ss (net_volume blocks empty_selection t) (empty_net blocks t), empty_within blocks (suc t) hours)

-- a list of prices and a welfare
pub record Cleared (blocks : List Block) (sel : List Bool) (t : ℕ) (hours : List (List Step)) : Type 0 where
  pub prices : List ℤ
  pub are_prices : ArePrices blocks sel t hours prices
  pub welfare : ℤ
  pub welfare_is : welfare_from blocks sel t hours ≡ Some welfare

both : (x y : Option ℤ) (u v : ℤ) → x ≡ Some u → y ≡ Some v → added x y ≡ Some (u +ℤ v)
both x y u v e f = rw (e, f)

pub cleared : ExistenceLaws → (blocks : List Block) (sel : List Bool) (t : ℕ) (hours : List (List Step)) → AreHoursInRange hours
    → AreWithin blocks sel t hours
    → Cleared blocks sel t hours
cleared laws blocks sel t [] are within = record { prices = []; are_prices = tt; welfare = pos 0; welfare_is = refl }
cleared laws blocks sel t (ss ∷ hours) are within =
    let net = net_volume blocks sel t in
    let ends = laws.ends ss net are.0 within.0 in
    let best = laws.best ss net are.0 within.0 in
    let rest = cleared laws blocks sel (suc t) hours are.1 within.1 in
    record {
      prices = price_between ends.0 ends.1 ∷ rest.prices;
      are_prices = (record { low = ends.0; high = ends.1; ends = ends.2; between = refl }, rest.are_prices);
      welfare = (welfare_of ss best.0 +ℤ accepted_value blocks sel t) +ℤ rest.welfare;
      welfare_is = both (period_welfare blocks sel t ss) (welfare_from blocks sel (suc t) hours)
          (welfare_of ss best.0 +ℤ accepted_value blocks sel t) rest.welfare
          (raised_is (greatest_welfare ss net) (accepted_value blocks sel t) (welfare_of ss best.0) (laws.welfare ss net best.0 best.1))
          rest.welfare_is;
    }

pub empty_eligible : ExistenceLaws → (problem : ProblemState) → AreHoursInRange problem.hours → (w : ℤ) × IsEligible problem empty_selection w
empty_eligible laws problem are =
    let day = cleared laws problem.blocks empty_selection 1 problem.hours are (empty_within problem.blocks 1 problem.hours) in (
      day.welfare,
      record {
        as_long = refl;
        admissible = empty_admissible problem.blocks;
        prices = day.prices;
        are_prices = day.are_prices;
        no_loss = record { gains = λ i e. absurd (empty_accepted i e) };
        welfare_is = day.welfare_is;
      },
    )
