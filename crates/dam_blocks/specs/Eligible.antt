-- The prices and the welfare of a selection, surplus and no loss, and which selections are
-- eligible.
use Rattle.std.specs.Prelude.{◌≡◌, ℕ, suc, ℤ, pos, ◌+ℤ◌, ◌-ℤ◌, ◌*ℤ◌, ◌≤ℤ◌, Bool, true, Option, Some, None, option_map, unwrap_or, List, []}
use Rattle.std.specs.Prelude.{◌∷◌, length, slice_get}
use Rattle.dam_book.specs.Terms.{BlockTerms}
use Rattle.dam_book.specs.Limits.{most_blocks}
use Rattle.dam_hour.specs.Price.{AreEnds, price_between}
use Rattle.dam_hour.specs.Best.{signed, greatest_welfare}
use Rattle.dam_hour.specs.declared.step.Step.{Step}
use Rattle.dam_blocks.specs.declared.problem.Block.{Block}
use Rattle.dam_blocks.specs.Problem.{ProblemState}
use Rattle.dam_blocks.specs.Selection.{accepts, volume_in, over_accepted, net_volume, accepted_value, IsAdmissible}
use Rattle.dam_blocks.specs.Family.{accepted_descendants}

-- the price of a period at a net volume
pub record IsClearingPrice (steps : List Step) (net p : ℤ) : Type 0 where
  pub low : ℤ
  pub high : ℤ
  pub ends : AreEnds steps net low high
  pub between : p ≡ price_between low high

-- each price is the price of its period under the selection, from period t on
abbrev pub ArePrices : List Block → List Bool → ℕ → List (List Step) → List ℤ → Type 0
ArePrices blocks selection t [] [] = Unit {0}
ArePrices blocks selection t (steps ∷ hours) (p ∷ prices) =
    IsClearingPrice steps (net_volume blocks selection t) p × ArePrices blocks selection (suc t) hours prices
ArePrices blocks selection t [] (p ∷ prices) = ⊥
ArePrices blocks selection t (steps ∷ hours) [] = ⊥

-- the surplus of a block in a period at a price: limit less price, times volume, if it buys, and
-- the same with the other sign if it sells
abbrev pub surplus_in : ℕ → ℤ → BlockTerms → ℤ
surplus_in t p o = signed o.side ((o.price -ℤ p) *ℤ pos (volume_in o.volumes t))

-- the same, summed over the periods from t on
abbrev pub surplus_from : ℕ → List ℤ → BlockTerms → ℤ
surplus_from t [] o = pos 0
surplus_from t (p ∷ prices) o = surplus_in t p o +ℤ surplus_from (suc t) prices o

-- the surplus of a block at the prices of the day
abbrev pub surplus_of : List ℤ → BlockTerms → ℤ
surplus_of prices o = surplus_from 1 prices o

-- the surplus of the block at a place, 0 if there is none
abbrev pub surplus_at : List Block → List ℤ → ℕ → ℤ
surplus_at blocks prices i =
    unwrap_or (option_map (λ b. surplus_of prices b.order) (slice_get blocks i)) (pos 0)

-- the sum that must be at least 0 for the accepted block at a place: its own surplus and the
-- surpluses of its accepted descendants
abbrev pub family_surplus : List Block → List Bool → List ℤ → ℕ → ℤ
family_surplus blocks selection prices i =
    surplus_at blocks prices i
    +ℤ over_accepted (surplus_of prices) blocks (accepted_descendants blocks selection i)

-- no accepted block loses; a rejected one may have any surplus
pub record HasNoLoss (blocks : List Block) (selection : List Bool) (prices : List ℤ) : Type 0 where
  pub gains : (i : ℕ) → accepts selection i ≡ true → pos 0 ≤ℤ family_surplus blocks selection prices i

-- the sum, if there are both
abbrev pub added : Option ℤ → Option ℤ → Option ℤ
added (Some x) (Some y) = Some (x +ℤ y)
added _ _ = None

-- the welfare of a period's hourly orders with the value of the accepted blocks there; None if no
-- execution balances
abbrev pub period_welfare : List Block → List Bool → ℕ → List Step → Option ℤ
period_welfare blocks selection t steps =
    option_map (λ w. w +ℤ accepted_value blocks selection t) (greatest_welfare steps (net_volume blocks selection t))

-- the welfares of the periods from t on, summed; None if some period has none
abbrev pub welfare_from : List Block → List Bool → ℕ → List (List Step) → Option ℤ
welfare_from blocks selection t [] = Some (pos 0)
welfare_from blocks selection t (steps ∷ hours) =
    added (period_welfare blocks selection t steps) (welfare_from blocks selection (suc t) hours)

-- the welfare of a selection; None if no execution balances some period
abbrev pub selection_welfare : ProblemState → List Bool → Option ℤ
selection_welfare problem selection = welfare_from problem.blocks selection 1 problem.hours

-- a selection that the links and groups admit, with which every period balances and by which no
-- accepted block loses, and its welfare
pub record IsEligible (problem : ProblemState) (selection : List Bool) (welfare : ℤ) : Type 0 where
  pub as_long : length selection ≡ most_blocks
  pub admissible : IsAdmissible problem.blocks selection
  pub prices : List ℤ
  pub are_prices : ArePrices problem.blocks selection 1 problem.hours prices
  pub no_loss : HasNoLoss problem.blocks selection prices
  pub welfare_is : selection_welfare problem selection ≡ Some welfare
