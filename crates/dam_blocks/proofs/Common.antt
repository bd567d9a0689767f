-- The names from outside these proofs that most of them cite, passed on from one place. Declares nothing.
pub use Rattle.std.proofs.Common.{Bool, List, None, Option, Some, Vec, [], ap, append_assoc, ap₂, arith, cond, drop, false, get_or, inl, inr, length}
pub use Rattle.std.proofs.Common.{length-append, map, nat_abs, nat_lt, neg_ℤ, negsuc, not, pos, refl, replicate, rules, slice_set, subst, suc, sym, take, true}
pub use Rattle.std.proofs.Common.{w64, zero, ℕ, ℤ, ◌%◌, ◌&&◌, ◌*ℤ◌, ◌*◌, ◌++◌, ◌+ℤ◌, ◌+◌, ◌-ℤ◌, ◌-◌, ◌<◌, ◌==◌, ◌^◌, ◌||◌, ◌↔◌, ◌∙◌, ◌∷◌, ◌≡◌, ◌≢◌, ◌≤ℤ◌, ◌≤◌}
pub use Rattle.std.proofs.Common.{◌⊎◌}
pub use Rattle.dam_blocks.specs.Changes.{IsWithLimit, with_limit}
pub use Rattle.dam_blocks.specs.Eligible.{ArePrices, HasNoLoss, IsClearingPrice, IsEligible, added, family_surplus, period_welfare, selection_welfare}
pub use Rattle.dam_blocks.specs.Eligible.{surplus_at, surplus_from, surplus_in, surplus_of, welfare_from}
pub use Rattle.dam_blocks.specs.Family.{Child, Descends, IsChildAt, OfChild, accepted_descendants, accepted_where, descends, leads_to, names, parent_among}
pub use Rattle.dam_blocks.specs.Family.{parent_place}
pub use Rattle.dam_blocks.specs.Magnitude.{IsWithin, greatest_gain}
pub use Rattle.dam_blocks.specs.Market.{AreBestExecutions, IsOutcome, gain_of}
pub use Rattle.dam_blocks.specs.Problem.{AreBlocks, AreHoursInRange, IsParent, IsProblem, ProblemState, block_under, blocks_in, hourly_orders, hours_from}
pub use Rattle.dam_blocks.specs.Problem.{problem_of, rows_after, step_in, steps_in}
pub use Rattle.dam_blocks.specs.Result.{IsResult, RanksAtOrBelow, accepts_first}
pub use Rattle.dam_blocks.specs.Selection.{IsAdmissible, IsAllowed, accepted_of_group, accepted_value, accepts, are_of_one_group, choice, net_volume}
pub use Rattle.dam_blocks.specs.Selection.{net_volume_of_block, over_accepted, padded, value_in, volume_in}
pub use Rattle.dam_blocks.specs.declared.hindrances.Hindrances.{Hindrances}
pub use Rattle.dam_blocks.specs.declared.problem.Block.{Block}
pub use Rattle.dam_blocks.specs.declared.problem.ProblemRow.{ProblemRow}
pub use Rattle.dam_blocks.specs.inside.Hindrances.{AreHindrances}
pub use Rattle.dam_book.specs.Book.{AreRows, BookState, Key, Row, is_day}
pub use Rattle.dam_book.specs.Limits.{greatest_volume, most_blocks, most_hourly, most_of_group}
pub use Rattle.dam_book.specs.Name.{same_text}
pub use Rattle.dam_book.specs.Terms.{BlockTerms, HourTerms}
pub use Rattle.dam_book.specs.declared.order.Order.{Order}
pub use Rattle.dam_book.specs.declared.order.Order.TheVariants.{Hour}
pub use Rattle.dam_book.specs.declared.order.Side.{Side}
pub use Rattle.dam_book.specs.declared.order.Side.TheVariants.{Buy, Sell}
pub use Rattle.dam_hour.specs.Best.{IsBest, execution_surplus, greatest_welfare, signed, welfare_of}
pub use Rattle.dam_hour.specs.Execution.{AreInRange, Balances, IsExecution}
pub use Rattle.dam_hour.specs.Limits.{greatest_value}
pub use Rattle.dam_hour.specs.Price.{AreEnds, IsBetter, price_between}
pub use Rattle.dam_hour.specs.declared.step.Step.{Step}
pub use Rattle.std.proofs.Math.Decide.{map_dec}
pub use Rattle.std.proofs.lemmas.Bool.{and_parts, cases_eq, cases_lt, eq-eqb, eqb-true, false_from_ne_true}
pub use Rattle.std.proofs.lemmas.Bool.Decides.{nat_tests}
pub use Rattle.std.proofs.lemmas.Grind.{common_steps}
pub use Rattle.std.proofs.lemmas.Int.{by_lt_z, ints}
pub use Rattle.std.proofs.lemmas.List.{append-nil, drop_all}
pub use Rattle.std.proofs.lemmas.List.Elements.{filter_map-append}
pub use Rattle.std.proofs.lemmas.Option.{get_or_from_slice_get, gets, slice_get_read, slice_get_within}
pub use Rattle.std.specs.Cmp.Lexicographic.{bytes_decides}
pub use Rattle.std.specs.List.{cons_option}
pub use Rattle.std.specs.List.Sorted.{IsPermutation}
pub use Rattle.std.specs.Option.{option_map, unwrap_or}
