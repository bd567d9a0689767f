-- The names from outside these proofs that most of them cite, passed on from one place. Declares nothing.
pub use Rattle.std.proofs.Common.{Bool, List, MatchBool, None, Option, Some, [], ap, append_assoc, ap₂, arith, below_more, cond, drop, false, get_or}
pub use Rattle.std.proofs.Common.{if◌then◌else◌, inl, inr, length, length-append, map, max, min, nat_lt, neg_ℤ, negsuc, not, pos, refl, replicate, rules, set}
pub use Rattle.std.proofs.Common.{slice_index_or, slice_set, subst, suc, sym, take, true, vec_capacity, vec_len, zero, ℕ, ℤ, ◌%◌, ◌&&◌, ◌*◌, ◌++◌, ◌+ℤ◌, ◌+◌}
pub use Rattle.std.proofs.Common.{◌-ℤ◌, ◌-◌, ◌<ℤ◌, ◌<◌, ◌==◌, ◌^◌, ◌||◌, ◌↔◌, ◌∙◌, ◌∷◌, ◌≡◌, ◌≢◌, ◌≤ℤ◌, ◌≤◌, ◌⊎◌}
pub use Rattle.atomic_table.specs.Seated.{TableId}
pub use Rattle.dam_blocks.specs.Eligible.{IsEligible}
pub use Rattle.dam_blocks.specs.Problem.{IsProblem, ProblemState}
pub use Rattle.dam_blocks.specs.Result.{RanksAtOrBelow}
pub use Rattle.dam_blocks.specs.Selection.{IsAdmissible, accepts, choice, padded}
pub use Rattle.dam_blocks.specs.declared.problem.Block.{Block}
pub use Rattle.dam_blocks.specs.declared.selection.Solution.{Solution}
pub use Rattle.dam_book.specs.Limits.{most_blocks}
pub use Rattle.dam_bound.specs.NetLimits.{AreLimits, HasSlack, limit_in}
pub use Rattle.dam_bound.specs.Open.{AreFree, IsOpen, is_among}
pub use Rattle.dam_bound.specs.Prefix.{IsCompletion}
pub use Rattle.dam_bound.specs.declared.net_limits.NetLimit.{NetLimit}
pub use Rattle.dam_search.specs.Answer.{IsReached, greatest_found}
pub use Rattle.dam_search.specs.Piece.{IsFind, IsMatched, IsSound, IsSpent, Rises, node_count, welfare_found}
pub use Rattle.dam_search.specs.Words.{AreClosedWords, most_pieces, times}
pub use Rattle.dam_search.specs.declared.answer.PieceAnswer.{PieceAnswer}
pub use Rattle.dam_search.specs.declared.view.View.{View}
pub use Rattle.dam_search.specs.declared.worker_seat.WorkerSeat.{WorkerSeat}
pub use Rattle.dam_search.specs.declared.workers.WorkedSeat.{WorkedSeat}
pub use Rattle.dam_search.specs.inside.Collect.{AreOneEach, IsHighestFound, IsLong, IsWorked, answers_about}
pub use Rattle.dam_search.specs.inside.Conflicts.{Excludes}
pub use Rattle.dam_search.specs.inside.DecisionOrder.{total_volume}
pub use Rattle.dam_search.specs.inside.PriceWalk.{AreDecisions, with_all, with_place_if}
pub use Rattle.dam_search.specs.inside.Seats.{AreJoined, IsNewSeat, IsWorkedSeat}
pub use Rattle.dam_search.specs.inside.Work.{AreAnswersOf}
pub use Rattle.std.proofs.lemmas.Bool.{cases_eq, cases_lt, eq-eqb, eqb-true, false≢true, ne_eqb}
pub use Rattle.std.proofs.lemmas.Bool.Decides.{nat_tests}
pub use Rattle.std.proofs.lemmas.Int.{ints, to_z-of_z}
pub use Rattle.std.proofs.lemmas.List.{get_or-set_other, length-replicate, length-set}
pub use Rattle.std.proofs.lemmas.List.Elements.{All-push, All-weaker}
pub use Rattle.std.proofs.lemmas.Option.{slice_get_read}
pub use Rattle.std.specs.List.{All}
pub use mir.Syntax.{w64}
pub use mir.Val.{SFits}
