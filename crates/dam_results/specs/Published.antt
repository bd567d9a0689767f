-- The published results of a selection: the price and the volume of each period, and the result of
-- each order of the book.
use Rattle.std.specs.Prelude.{◌≡◌, ◌≤◌, ℕ, suc, ◌-◌, ℤ, pos, ◌+ℤ◌, Bool, true, false, Some, List, [], ◌∷◌, ◌++◌, length, map, slice_get}
use Rattle.std.specs.Prelude.{decimal, codes}
use Rattle.std.specs.List.{flat_map}
use Rattle.std.specs.Fmt.{signed_decimal}
use Rattle.dam_book.specs.Fields.{price_text}
use Rattle.dam_book.specs.declared.order.Side.TheVariants.{Buy}
use Rattle.dam_hour.specs.Execution.{executed_volume}
use Rattle.dam_hour.specs.Best.{IsBest}
use Rattle.dam_hour.specs.declared.step.Step.{Step}
use Rattle.dam_blocks.specs.declared.problem.Block.{Block}
use Rattle.dam_blocks.specs.declared.problem.Place.TheVariants.{Hour as AtHour, Block as AtBlock}
use Rattle.dam_blocks.specs.declared.problem.ProblemRow.{ProblemRow}
use Rattle.dam_blocks.specs.Problem.{ProblemState}
use Rattle.dam_blocks.specs.Selection.{accepts, net_volume, bought_volume}
use Rattle.dam_blocks.specs.Eligible.{IsClearingPrice, surplus_of, selection_welfare}
use Rattle.dam_results.specs.Replies.{day_line}
use Rattle.dam_results.specs.declared.published.PeriodResult.{PeriodResult}
use Rattle.dam_results.specs.declared.published.RowResult.{RowResult}
use Rattle.dam_results.specs.declared.published.RowResult.TheVariants.{Hour as HourResult, Block as BlockResult}

-- the published results of period t: its price, and the volume of its executed hourly buys and of the accepted
-- buy blocks
pub record IsPeriodResult (blocks : List Block) (sel : List Bool) (t : ℕ) (ss : List Step)
    (published : PeriodResult) : Type 0 where
  pub price : IsClearingPrice ss (net_volume blocks sel t) published.price
  pub executed : List ℕ
  pub best : IsBest ss (net_volume blocks sel t) executed
  pub volume : pos published.volume ≡ pos (executed_volume Buy ss executed)
      +ℤ bought_volume blocks sel t

-- one for each period, from period t on
abbrev pub ArePeriodResults : List Block → List Bool → ℕ → List (List Step) → List PeriodResult
    → Type 0
ArePeriodResults blocks sel t [] [] = Unit {0}
ArePeriodResults blocks sel t (ss ∷ hours) (r ∷ rs) =
    IsPeriodResult blocks sel t ss r × ArePeriodResults blocks sel (suc t) hours rs
ArePeriodResults blocks sel t [] (r ∷ rs) = ⊥
ArePeriodResults blocks sel t (ss ∷ hours) [] = ⊥

-- their prices
abbrev pub prices_of : List PeriodResult → List ℤ
prices_of periods = map (λ (r : PeriodResult). r.price) periods

-- the best execution of period t, counted from 1, gives the hourly order at place i, counted from
-- 0, this volume
pub record IsExecuted (problem : ProblemState) (sel : List Bool) (t i volume : ℕ) : Type 0 where
  pub from_one : 1 ≤ t
  pub hour : List Step
  pub stands : slice_get problem.hours (t - 1) ≡ Some hour
  pub executed : List ℕ
  pub best : IsBest hour (net_volume problem.blocks sel t) executed
  pub volume_is : slice_get executed i ≡ Some volume

-- the block at place i has this surplus at the prices
pub record HasSurplus (blocks : List Block) (prices : List ℤ) (i : ℕ) (surplus : ℤ) : Type 0 where
  pub block : Block
  pub stands : slice_get blocks i ≡ Some block
  pub surplus_is : surplus ≡ surplus_of prices block.order

-- the result of an order: the executed volume of an hourly order; for a block, whether it is
-- accepted, and its surplus at the prices, even if it is rejected
abbrev pub IsRowResult : ProblemState → List Bool → List ℤ → ProblemRow → RowResult → Type 0
IsRowResult problem sel prices row (HourResult who name executed) =
    (who ≡ row.who) × (name ≡ row.name)
    × ((t : ℕ) × (i : ℕ) × (row.at ≡ AtHour t i) × IsExecuted problem sel t i executed)
IsRowResult problem sel prices row (BlockResult who name accepted surplus) =
    (who ≡ row.who) × (name ≡ row.name)
    × ((i : ℕ) × (row.at ≡ AtBlock i) × (accepted ≡ accepts sel i)
    × HasSurplus problem.blocks prices i surplus)

-- one for each row of the book
abbrev pub AreRowResults : ProblemState → List Bool → List ℤ → List ProblemRow → List RowResult
    → Type 0
AreRowResults problem sel prices [] [] = Unit {0}
AreRowResults problem sel prices (row ∷ rows) (r ∷ rs) =
    IsRowResult problem sel prices row r × AreRowResults problem sel prices rows rs
AreRowResults problem sel prices [] (r ∷ rs) = ⊥
AreRowResults problem sel prices (row ∷ rows) [] = ⊥

-- the published results of a selection: its welfare, each period, and the result of each order
pub record ArePublished (problem : ProblemState) (sel : List Bool) (welfare : ℕ)
    (periods : List PeriodResult) (rows : List RowResult) : Type 0 where
  pub welfare_is : selection_welfare problem sel ≡ Some (pos welfare)
  pub periods_are : ArePeriodResults problem.blocks sel 1 problem.hours periods
  pub rows_are : AreRowResults problem sel (prices_of periods) problem.rows rows

-- The results text, line by line.

-- the line of the welfare
abbrev pub welfare_line : ℕ → List ℕ
welfare_line welfare = codes "welfare," ++ (decimal welfare ++ codes "\n")

-- the line of period t
abbrev pub period_line : ℕ → PeriodResult → List ℕ
period_line t r =
    codes "period," ++ (decimal t ++ (codes "," ++ (price_text r.price
    ++ (codes "," ++ (decimal r.volume ++ codes "\n")))))

-- the lines of the periods from t on
abbrev pub period_lines : ℕ → List PeriodResult → List ℕ
period_lines t [] = []
period_lines t (r ∷ rs) = period_line t r ++ period_lines (suc t) rs

-- the word for an accepted or a rejected block
abbrev pub acceptance_word : Bool → List ℕ
acceptance_word true = codes "accepted"
acceptance_word false = codes "rejected"

-- the line of an order
abbrev pub row_result_line : RowResult → List ℕ
row_result_line (HourResult who name executed) =
    codes "hour," ++ (who ++ (codes "," ++ (name ++ (codes "," ++ (decimal executed ++ codes "\n")))))
row_result_line (BlockResult who name accepted surplus) =
    codes "block," ++ (who ++ (codes "," ++ (name ++ (codes ","
    ++ (acceptance_word accepted ++ (codes "," ++ (signed_decimal surplus ++ codes "\n")))))))

-- the results text: the day, the welfare, a line for each period, and a line for each order
abbrev pub results_text : ℕ → List PeriodResult → List RowResult → List ℕ
results_text welfare periods rows =
    day_line (length periods)
    ++ (welfare_line welfare ++ (period_lines 1 periods ++ flat_map row_result_line rows))
