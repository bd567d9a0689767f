-- Each piece before has one answer.
use Rattle.dam_search.proofs.Common.{◌≡◌, ℕ, ◌<◌, answers_about}
use Rattle.dam_search.proofs.collect.first_faulty.Given as goal

abbrev pub invariant-loop-piece : goal.invariant-loop-piece
invariant-loop-piece l = (q : ℕ) → q < l.piece → answers_about l.answers q ≡ 1
