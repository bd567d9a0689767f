-- The problem of a closed book: the hourly orders of each period and the blocks, in book order.
use Rattle.std.specs.Prelude.{◌≡◌, ℕ, zero, suc, ◌+◌, ◌-◌, ◌<◌, ◌≤◌, true, false, ◌==◌, Option, Some, None, List, [], ◌∷◌, ◌++◌, length}
use Rattle.std.specs.Prelude.{slice_get, filter_map, if◌then◌else◌}
use Rattle.dam_book.specs.Name.{IsName, IsParticipant}
use Rattle.dam_book.specs.Terms.{IsBlockOrder}
use Rattle.dam_book.specs.Volumes.{have_beyond}
use Rattle.dam_book.specs.Book.{Row, BookState, is_day, IsBook}
use Rattle.dam_book.specs.declared.order.Order.{Order}
use Rattle.dam_book.specs.declared.order.Order.TheVariants.{Hour, Block as BlockVariant}
use Rattle.dam_book.specs.Limits.{most_hourly, most_blocks}
use Rattle.dam_hour.specs.Execution.{AreInRange}
use Rattle.dam_hour.specs.declared.step.Step.{Step}
use Rattle.dam_blocks.specs.declared.problem.Block.{Block}
use Rattle.dam_blocks.specs.declared.problem.Place.{Place}
use Rattle.dam_blocks.specs.declared.problem.Place.TheVariants.{Hour as AtHour, Block as AtBlock}
use Rattle.dam_blocks.specs.declared.problem.ProblemRow.{ProblemRow}

-- the steps of each period of the day, the blocks, and the rows of the book with their places among
-- these
pub record ProblemState : Type 0 where
  pub hours : List (List Step)
  pub blocks : List Block
  pub rows : List ProblemRow

-- the order as a step, if it is an hourly order of this period
abbrev pub step_in : ℕ → Order → Option Step
step_in t (Hour o) =
    if o.period == t then Some (record { side = o.side; price = o.price; qty = o.qty }) else None
step_in t (BlockVariant o) = None

-- the hourly orders of a period
abbrev pub steps_in : ℕ → List Row → List Step
steps_in t rows = filter_map (λ (r : Row). step_in t r.1) rows

-- the steps of `n` periods, from this one on
abbrev pub hours_from : ℕ → ℕ → List Row → List (List Step)
hours_from t zero rows = []
hours_from t (suc n) rows = steps_in t rows ∷ hours_from (suc t) n rows

-- the order with its participant and name, if it is a block
abbrev pub block_under : List ℕ → List ℕ → Order → Option Block
block_under who name (Hour o) = None
block_under who name (BlockVariant o) = Some (record { who = who; name = name; order = o })

-- the blocks, in book order
abbrev pub blocks_in : List Row → List Block
blocks_in rows = filter_map (λ (r : Row). block_under r.0.0 r.0.1 r.1) rows

-- the place of an order after the rows of `front`
abbrev pub place_after : List Row → Order → Place
place_after front (Hour o) = AtHour o.period (length (steps_in o.period front))
place_after front (BlockVariant o) = AtBlock (length (blocks_in front))

-- the rows with the places of their orders, after the rows of `front`
abbrev pub rows_after : List Row → List Row → List ProblemRow
rows_after front [] = []
rows_after front (r ∷ rs) =
    record { who = r.0.0; name = r.0.1; at = place_after front r.1 } ∷ rows_after (front ++ r ∷ []) rs

-- the problem of a book: each period's hourly orders, the blocks, and where each row stands among
-- these
abbrev pub problem_of : BookState → ProblemState
problem_of b = record {
  hours = hours_from 1 b.periods b.rows;
  blocks = blocks_in b.rows;
  rows = rows_after [] b.rows;
}

-- The problem invariant.

-- the number of hourly orders
abbrev pub hourly_orders : List (List Step) → ℕ
hourly_orders [] = 0
hourly_orders (steps ∷ hours) = length steps + hourly_orders hours

-- each period's limits and volumes are in range
abbrev pub AreHoursInRange : List (List Step) → Type 0
AreHoursInRange [] = Unit {0}
AreHoursInRange (steps ∷ hours) = AreInRange steps × AreHoursInRange hours

-- the block's names and parts are within their limits, and its periods are the day's
pub record IsBlock (periods : ℕ) (b : Block) : Type 0 where
  pub who : IsParticipant b.who
  pub name : IsName b.name
  pub order : IsBlockOrder b.order
  pub in_day : have_beyond periods b.order.volumes ≡ false

-- each block is one of a day of this number of periods
abbrev pub AreBlocks : ℕ → List Block → Type 0
AreBlocks periods [] = Unit {0}
AreBlocks periods (b ∷ bs) = IsBlock periods b × AreBlocks periods bs

-- p is the block that b names as its parent, a name of the same participant
pub record IsParent (p b : Block) : Type 0 where
  pub who : p.who ≡ b.who
  pub name : b.order.parent ≡ Some p.name

-- the parent of the block at place i is a block at a lesser place
pub record HasParentBefore (blocks : List Block) (i : ℕ) (b : Block) : Type 0 where
  pub place : ℕ
  pub parent : Block
  pub stands : slice_get blocks place ≡ Some parent
  pub is_parent : IsParent parent b
  pub lesser : place < i

-- the order stands at its place
abbrev pub StandsAt : ProblemState → ProblemRow → Place → Type 0
StandsAt p r (AtHour t i) =
    (hour : List Step) × (slice_get p.hours (t - 1) ≡ Some hour) × (1 ≤ t) × (i < length hour)
StandsAt p r (AtBlock i) =
    (b : Block) × (slice_get p.blocks i ≡ Some b) × (b.who ≡ r.who) × (b.name ≡ r.name)

-- the problem invariant: the problem is made from a closed book that satisfies the book invariant.
-- Its rows are the book's, each once, in book order, with unique keys
pub record IsProblem (p : ProblemState) : Type 0 where
  pub book : BookState
  pub is_book : IsBook book
  pub is_closed : book.closed ≡ true
  pub is_of_book : p ≡ problem_of book
  pub day : is_day (length p.hours) ≡ true
  pub hours : AreHoursInRange p.hours
  pub few_hourly : hourly_orders p.hours ≤ most_hourly
  pub blocks : AreBlocks (length p.hours) p.blocks
  pub few_blocks : length p.blocks ≤ most_blocks
  pub unique : (i j : ℕ) (a b : Block) → slice_get p.blocks i ≡ Some a → slice_get p.blocks j ≡ Some b
      → a.who ≡ b.who → a.name ≡ b.name → i ≡ j
  pub parents : (i : ℕ) (b : Block) (name : List ℕ) → slice_get p.blocks i ≡ Some b
      → b.order.parent ≡ Some name → HasParentBefore p.blocks i b
  pub rows : (i : ℕ) (r : ProblemRow) → slice_get p.rows i ≡ Some r → StandsAt p r r.at
