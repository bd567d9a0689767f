-- The outcome of a selection: its prices and executions, the traded volumes and the payments, and the surplus of each
-- order and each participant.
use Rattle.std.specs.Prelude.{◌≡◌, ℕ, zero, suc, ◌-◌, ℤ, pos, ◌+ℤ◌, ◌*ℤ◌, Bool, true, ◌||◌, ◌==◌, None, Some, if◌then◌else◌, List, [], ◌∷◌, slice_get}
use Rattle.dam_book.specs.Name.{same_text}
use Rattle.dam_book.specs.Terms.{BlockTerms}
use Rattle.dam_book.specs.declared.order.Side.{Side}
use Rattle.dam_hour.specs.Execution.{executed_volume, volume_on}
use Rattle.dam_hour.specs.Best.{execution_surplus, IsBest}
use Rattle.dam_hour.specs.Market.{order_surplus}
use Rattle.dam_hour.specs.declared.step.Step.{Step}
use Rattle.dam_blocks.specs.declared.problem.Block.{Block}
use Rattle.dam_blocks.specs.declared.problem.Place.{Place}
use Rattle.dam_blocks.specs.declared.problem.Place.TheVariants.{Hour as AtHour, Block as AtBlock}
use Rattle.dam_blocks.specs.declared.problem.ProblemRow.{ProblemRow}
use Rattle.dam_blocks.specs.Problem.{ProblemState, IsParent}
use Rattle.dam_blocks.specs.Selection.{accepts, volume_in, over_accepted, net_volume}
use Rattle.dam_blocks.specs.Family.{parent_place, descends}
use Rattle.dam_blocks.specs.Eligible.{ArePrices, surplus_of, surplus_at}

-- each list of volumes is the best execution of its period under the selection, from period t on
abbrev pub AreBestExecutions : List Block → List Bool → ℕ → List (List Step) → List (List ℕ)
    → Type 0
AreBestExecutions blocks selection t [] [] = Unit {0}
AreBestExecutions blocks selection t (steps ∷ hours) (volumes ∷ executions) =
    IsBest steps (net_volume blocks selection t) volumes × AreBestExecutions blocks selection (suc t) hours executions
AreBestExecutions blocks selection t [] (volumes ∷ executions) = ⊥
AreBestExecutions blocks selection t (steps ∷ hours) [] = ⊥

-- the price and the best execution of each period under the selection
pub record IsOutcome (problem : ProblemState) (selection : List Bool) (prices : List ℤ)
    (executions : List (List ℕ)) : Type 0 where
  pub prices_are : ArePrices problem.blocks selection 1 problem.hours prices
  pub executions_are : AreBestExecutions problem.blocks selection 1 problem.hours executions

-- Traded volumes and payments.

-- a block's volume in a period if it is of that side, else 0
abbrev pub block_volume_of : Side → ℕ → BlockTerms → ℤ
block_volume_of side t o = pos (volume_on side o.side (volume_in o.volumes t))

-- the volume of one side in period t: of its hourly orders and of its accepted blocks
abbrev pub traded : Side → List Block → List Bool → ℕ → List Step → List ℕ → ℤ
traded side blocks selection t steps volumes =
    pos (executed_volume side steps volumes) +ℤ over_accepted (block_volume_of side t) blocks selection

-- the price times the volume of one side, summed over the periods from t on: the payments of the buyers, or the
-- receipts of the sellers
abbrev pub money_from : Side → List Block → List Bool → ℕ → List ℤ → List (List Step) → List (List ℕ)
    → ℤ
money_from side blocks selection t (p ∷ prices) (steps ∷ hours) (volumes ∷ executions) =
    (p *ℤ traded side blocks selection t steps volumes) +ℤ money_from side blocks selection (suc t) prices hours executions
money_from side blocks selection t _ _ _ = pos 0

-- Surpluses.

-- the surplus of the hourly orders of the day
abbrev pub hourly_surplus : List ℤ → List (List Step) → List (List ℕ) → ℤ
hourly_surplus (p ∷ prices) (steps ∷ hours) (volumes ∷ executions) =
    execution_surplus p steps volumes +ℤ hourly_surplus prices hours executions
hourly_surplus _ _ _ = pos 0

-- the surplus of the accepted blocks
abbrev pub accepted_surplus : List ℤ → List Block → List Bool → ℤ
accepted_surplus prices blocks selection = over_accepted (surplus_of prices) blocks selection

-- the surplus of the order at a place of one period, 0 if there is none
abbrev pub order_surplus_at : ℤ → List Step → List ℕ → ℕ → ℤ
order_surplus_at price (step ∷ steps) (x ∷ volumes) zero = order_surplus price step x
order_surplus_at price (step ∷ steps) (x ∷ volumes) (suc i) = order_surplus_at price steps volumes i
order_surplus_at price _ _ i = pos 0

-- the same in the period that k others precede
abbrev pub order_surplus_in : List ℤ → List (List Step) → List (List ℕ) → ℕ → ℕ → ℤ
order_surplus_in (p ∷ prices) (steps ∷ hours) (volumes ∷ executions) zero i =
    order_surplus_at p steps volumes i
order_surplus_in (p ∷ prices) (steps ∷ hours) (volumes ∷ executions) (suc k) i =
    order_surplus_in prices hours executions k i
order_surplus_in _ _ _ k i = pos 0

-- the surplus of the order at a place of the book: of an hourly one by its executed volume, of a block if it is
-- accepted
abbrev pub gain_of : ProblemState → List Bool → List ℤ → List (List ℕ) → Place → ℤ
gain_of problem selection prices executions (AtHour t i) =
    order_surplus_in prices problem.hours executions (t - 1) i
gain_of problem selection prices executions (AtBlock i) =
    if accepts selection i then surplus_at problem.blocks prices i else pos 0

-- the sum over the orders of one participant
abbrev pub over_orders_of : List ℕ → (Place → ℤ) → List ProblemRow → ℤ
over_orders_of who gain [] = pos 0
over_orders_of who gain (row ∷ rows) =
    (if same_text row.who who then gain row.at else pos 0) +ℤ over_orders_of who gain rows

-- the sum over these participants of the sums over their orders
abbrev pub over_participants : List (List ℕ) → (Place → ℤ) → List ProblemRow → ℤ
over_participants [] gain rows = pos 0
over_participants (who ∷ participants) gain rows = over_orders_of who gain rows +ℤ over_participants participants gain rows

-- the list has the participant of each row, and nobody twice
pub record AreParticipants (participants : List (List ℕ)) (rows : List ProblemRow) : Type 0 where
  pub every : (k : ℕ) (row : ProblemRow) → slice_get rows k ≡ Some row → (i : ℕ) × (slice_get participants i ≡ Some row.who)
  pub once : (i j : ℕ) (who : List ℕ) → slice_get participants i ≡ Some who → slice_get participants j ≡ Some who → i ≡ j

-- the sum over all orders of the book
abbrev pub over_orders : (Place → ℤ) → List ProblemRow → ℤ
over_orders gain [] = pos 0
over_orders gain (row ∷ rows) = gain row.at +ℤ over_orders gain rows

-- the block has no parent, no group and no child
pub record StandsAlone (blocks : List Block) (block : Block) : Type 0 where
  pub no_parent : block.order.parent ≡ None
  pub no_group : block.order.group ≡ None
  pub no_child : (k : ℕ) (other : Block) → slice_get blocks k ≡ Some other → ¬ (IsParent block other)

-- the block at place i is accepted and has no parent, and the one at place j is that block or descends from it
pub record IsRootOf (blocks : List Block) (selection : List Bool) (i j : ℕ) : Type 0 where
  pub accepted : accepts selection i ≡ true
  pub no_parent : parent_place blocks i ≡ None
  pub family : ((j == i) || descends blocks i j) ≡ true
