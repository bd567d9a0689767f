-- The names from outside these proofs that most of them cite, passed on from one place. Declares nothing.
pub use Rattle.std.proofs.Common.{Bool, List, None, Some, [], ap, ap₂, arith, drop, false, get_or, inl, inr, length, min, neg_ℤ, negsuc, pos, refl, rules}
pub use Rattle.std.proofs.Common.{subst, suc, sym, take, true, zero, ℕ, ℤ, ◌*ℤ◌, ◌*◌, ◌++◌, ◌+ℤ◌, ◌+◌, ◌-ℤ◌, ◌-◌, ◌<ℤ◌, ◌<◌, ◌∙◌, ◌∷◌, ◌≡◌, ◌≤ℤ◌, ◌≤◌, ◌⊎◌}
pub use Rattle.dam_book.specs.Limits.{greatest_volume, highest_price, lowest_price}
pub use Rattle.dam_book.specs.Price.{IsPrice}
pub use Rattle.dam_book.specs.declared.order.Side.{Side}
pub use Rattle.dam_book.specs.declared.order.Side.TheVariants.{Buy, Sell}
pub use Rattle.dam_hour.specs.Best.{AreBestTotals, AtMostInOrder, IsBest, signed, welfare_of}
pub use Rattle.dam_hour.specs.Execution.{AreInRange, Balances, IsExecution, IsUnbalanced, IsWithinOffers, executed_volume, offered_volume, volume_on}
pub use Rattle.dam_hour.specs.Limits.{greatest_price, greatest_value, most_steps, price_span}
pub use Rattle.dam_hour.specs.Price.{AreEnds, IsBetter, IsSupporting, IsWorse, Supports, price_between}
pub use Rattle.dam_hour.specs.declared.ladder.PlacedStep.{PlacedStep}
pub use Rattle.dam_hour.specs.declared.ladder.Rung.{Rung}
pub use Rattle.dam_hour.specs.declared.step.Step.{Step}
pub use Rattle.dam_hour.specs.inside.Edge.{IsLimitOfSell}
pub use Rattle.dam_hour.specs.inside.Ladder.{AreOfSide, SplitsAt, placed_of, rank_of, rungs_from, side_total, sort_key_of, total, total_value}
pub use Rattle.dam_hour.specs.inside.Volumes.{AreTotals, IsGreatestLowEnough, IsHighEnough, IsLeastHighEnough, IsLowEnough, above_zero, at_volume}
pub use Rattle.dam_hour.specs.inside.Volumes.{better_volume, full_surplus, if_at, if_better, margin_of, share, total_on, volumes_in_turn}
pub use Rattle.std.proofs.Math.Dec.{ltb}
pub use Rattle.std.proofs.lemmas.Bool.{cases_lt}
pub use Rattle.std.proofs.lemmas.Int.{by_lt_z, ints, to_z-of_z}
pub use Rattle.std.proofs.lemmas.List.{drop_more, length-map}
pub use Rattle.std.proofs.lemmas.Nat.{mul-le}
pub use Rattle.std.proofs.lemmas.Option.{slice_get-get_or}
pub use Rattle.std.specs.List.{slice_get}
pub use Rattle.std.specs.List.Sorted.{IsNonDecreasingBy}
pub use borrow.Author.Differences.{down, up}
pub use mir.Syntax.{w64}
pub use mir.Val.{of_z, to_z}
