-- No accepted block so far loses.
use Rattle.dam_bound.proofs.Common.{◌≡◌, ◌<◌, ℕ, ℤ, ◌≤ℤ◌, true, List, accepts, ArePrices, family_surplus}
use Rattle.std.proofs.Common.{pos}
use Rattle.dam_bound.proofs.class_curves.ClassCurves.has_loss.Given as goal

abbrev pub invariant-loop-place : goal.invariant-loop-place
invariant-loop-place g l = (prices : List ℤ) → ArePrices l.self.blocks l.selection 1 l.self.hours prices
    → (i : ℕ) → i < l.place → accepts l.selection i ≡ true → pos 0 ≤ℤ family_surplus l.self.blocks l.selection prices i
