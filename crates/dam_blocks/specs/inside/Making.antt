-- An hourly order as a step, added to its period in the making of a problem.
use Rattle.std.specs.Prelude.{◌-◌, List, [], ◌∷◌, ◌++◌, slice_index_or, slice_set}
use Rattle.dam_book.specs.Terms.{HourTerms}
use Rattle.dam_hour.specs.declared.step.Step.{Step}

-- the order as a step
abbrev pub hourly_step : HourTerms → Step
hourly_step order = record { side = order.side; price = order.price; qty = order.qty }

-- the steps of each period, with the order after those of its own
abbrev pub with_step : List (List Step) → HourTerms → List (List Step)
with_step hours order = slice_set hours (order.period - 1) (slice_index_or hours (order.period - 1) [] ++ hourly_step order ∷ [])
