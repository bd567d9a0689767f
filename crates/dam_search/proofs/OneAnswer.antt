-- One answer, about the one piece of an uncut search.
use Rattle.dam_search.proofs.Common.{◌≡◌, ℕ, ◌≤◌, max, [], ◌∷◌, arith, All, nat_tests, All-push, ProblemState, PieceAnswer, welfare_found, IsReached}
use Rattle.dam_search.proofs.Common.{IsWorked, AreOneEach}
use Rattle.dam_search.specs.inside.Work.{IsWalkedPiece}
use Rattle.dam_search.proofs.Collecting.{reached_less, reached_greater, reached_found}

pub all_one : (P : PieceAnswer → Type 0) (a : PieceAnswer) → P a → All P (a ∷ [])
all_one P a h = All-push P [] a (λ k d l. absurd (omega arith)) h

pub one_alone : (a : PieceAnswer) → a.piece ≡ 0 → AreOneEach (a ∷ []) 1
one_alone a zero piece less = grind (arith, nat_tests, zero, less)

-- the answer about the whole
pub worked_is : (problem : ProblemState) (first node_limit : ℕ) (a : PieceAnswer) → IsWalkedPiece problem 0 node_limit a → IsReached problem first
    → a.incumbent_read ≤ max first (welfare_found a.best) → IsWorked problem 0 node_limit a
worked_is problem first node_limit a walked reached read = record {
  in_cutting = walked.in_cutting;
  sound = walked.sound;
  reached = reached_less problem (max first (welfare_found a.best)) a.incumbent_read read
      (reached_greater problem first (welfare_found a.best) reached
      (reached_found problem [] a.best (reached_less problem first 0 (omega arith) reached) walked.sound.found));
  spent = walked.spent;
  done = walked.done;
}
