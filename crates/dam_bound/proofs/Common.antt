-- The names from outside these proofs that most of them cite, passed on from one place. Declares nothing.
pub use Rattle.std.proofs.Common.{Bool, List, None, Option, Some, [], ap, ap₂, arith, cond, drop, false, get_or, inl, inr, length, map, neg_ℤ, refl, rules}
pub use Rattle.std.proofs.Common.{slice_index_or, slice_set, subst, suc, sym, take, true, zero, ℕ, ℤ, ◌&&◌, ◌*ℤ◌, ◌*◌, ◌++◌, ◌+ℤ◌, ◌+◌, ◌-ℤ◌, ◌-◌, ◌<◌, ◌==◌}
pub use Rattle.std.proofs.Common.{◌∙◌, ◌∷◌, ◌≡◌, ◌≢◌, ◌≤ℤ◌, ◌≤◌, ◌⊎◌}
pub use Rattle.dam_blocks.specs.Eligible.{ArePrices, family_surplus, period_welfare, selection_welfare, surplus_at, surplus_of, welfare_from}
pub use Rattle.dam_blocks.specs.Family.{accepted_descendants, descends}
pub use Rattle.dam_blocks.specs.Magnitude.{IsWithin}
pub use Rattle.dam_blocks.specs.Problem.{AreBlocks, ProblemState}
pub use Rattle.dam_blocks.specs.Selection.{accepted_value, accepts, net_volume, net_volume_of_block, over_accepted, value_in, volume_in}
pub use Rattle.dam_blocks.specs.declared.problem.Block.{Block}
pub use Rattle.dam_book.specs.Limits.{greatest_volume, last_period, most_blocks}
pub use Rattle.dam_book.specs.Terms.{BlockTerms}
pub use Rattle.dam_book.specs.declared.order.Side.{Side}
pub use Rattle.dam_book.specs.declared.order.Side.TheVariants.{Buy, Sell}
pub use Rattle.dam_bound.specs.ClassCurves.{AreClassCurves, IsClassIn, class_orders, day_value, least_net_in, most_net_in}
pub use Rattle.dam_bound.specs.Classes.{are_alike, first_from, members}
pub use Rattle.dam_bound.specs.NetLimits.{limit_in, most_limits, slack_taken}
pub use Rattle.dam_bound.specs.Prices.{IsByLines, greatest_priced_gain, line_in, over_gains, over_open}
pub use Rattle.dam_bound.specs.Relaxed.{as_steps, relaxed_hours, step_of}
pub use Rattle.dam_bound.specs.Sums.{at_places, class_places, over_periods, over_places}
pub use Rattle.dam_bound.specs.declared.class_curves.Class.{Class}
pub use Rattle.dam_bound.specs.declared.pricing.Pricing.{Pricing}
pub use Rattle.dam_bound.specs.inside.BlockNumbers.{AreNumbersWithin, AreRaised, negative_sum, weighted_sum}
pub use Rattle.dam_bound.specs.inside.Families.{IsFamily}
pub use Rattle.dam_bound.specs.inside.Levels.{last_steps}
pub use Rattle.dam_curve.specs.Curve.{CurvesState, joint_welfare}
pub use Rattle.dam_curve.specs.Line.{line_value}
pub use Rattle.dam_curve.specs.declared.line.Line.{Line}
pub use Rattle.dam_hour.specs.Best.{greatest_welfare, signed, welfare_of}
pub use Rattle.dam_hour.specs.Execution.{AreInRange, IsExecution}
pub use Rattle.dam_hour.specs.Limits.{greatest_price, greatest_value}
pub use Rattle.dam_hour.specs.declared.step.Step.{Step}
pub use Rattle.std.proofs.lemmas.Bool.{cases_eq, cases_lt}
pub use Rattle.std.proofs.lemmas.Bool.Decides.{nat_tests}
pub use Rattle.std.proofs.lemmas.Int.{int_max_is, int_min_is, ints, to_z-of_z}
pub use Rattle.std.proofs.lemmas.List.{drop_all, get_or-set_other, get_or-set_same, length-set, take_all}
pub use Rattle.std.proofs.lemmas.Option.{get_or_from_slice_get, slice_get-get_or, slice_get_read, slice_get_within}
pub use Rattle.std.specs.Int.{int_max, int_min}
pub use Rattle.std.specs.List.{slice_get}
pub use borrow.Author.Differences.{down, up}
pub use mir.Val.{SFits}
