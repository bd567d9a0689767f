-- The workers' seats before their work, after it, and joined.
use Rattle.std.specs.Prelude.{◌≡◌, ℕ, ◌+◌, ◌≤◌, ◌^◌, max, List, map, All, IfOk}
use Rattle.std.specs.declared.vec.Vec.{Vec}
use Rattle.std.specs.declared.alloc.Global.{Global}
use Rattle.atomic_table.specs.Seated.{TableId}
use Rattle.dam_blocks.specs.Problem.{ProblemState}
use Rattle.dam_search.specs.declared.answer.PieceAnswer.{PieceAnswer}
use Rattle.dam_search.specs.declared.worker_seat.WorkerSeat.{WorkerSeat}
use Rattle.dam_search.specs.declared.workers.WorkedSeat.{WorkedSeat}
use Rattle.dam_search.specs.declared.view.View.{View}
use Rattle.dam_search.specs.Answer.{greatest_found}
use Rattle.dam_search.specs.Words.{times, once_below, view_of, new_view}
use Rattle.dam_search.specs.inside.Work.{IsWalkedPiece, AreAnswersOf}

-- a seat for a worker, at the table of this identity
pub record IsNewSeat (table : TableId) (pieces : ℕ) (seat : WorkerSeat) : Type 0 where
  pub table_is : seat.seat.table_id ≡ table
  pub new : view_of seat.seat ≡ new_view pieces 0

-- a seat after the work at it: it stopped at its first draw past the end, and has the answers
pub record IsWorkedSeat (problem : ProblemState) (depth node_limit : ℕ) (table : TableId)
    (worked : WorkedSeat) : Type 0 where
  pub table_is : worked.seat.seat.table_id ≡ table
  pub one_seat : (view_of worked.seat.seat).seats ≡ 1
  pub none_left : (view_of worked.seat.seat).seats_left ≡ 0
  pub answers : IfOk worked.answers (λ (answers : Vec PieceAnswer Global).
      ((view_of worked.seat.seat).draws_past_the_end ≡ 1)
      × AreAnswersOf problem depth node_limit 0 (view_of worked.seat.seat) answers.items)

-- the seats of this number of workers were joined into one, whose view was `view` and is now `other`, and these
-- are their answers
pub record AreJoined (problem : ProblemState) (depth node_limit : ℕ) (view : View) (workers : ℕ) (other : View)
    (answers : List PieceAnswer) : Type 0 where
  pub are_answers : AreAnswersOf problem depth node_limit view.greatest_offer other answers
  pub seats : other.seats ≡ view.seats + workers
  pub seats_left : other.seats_left ≡ view.seats_left
  pub draws_past_the_end : other.draws_past_the_end ≡ view.draws_past_the_end + workers

-- the answers of a search whose words were closed: one about each piece and no others, each
-- sound, and none read more than the welfare offered first or the greatest that they found
pub record AreAllAnswers (problem : ProblemState) (depth node_limit first : ℕ) (answers : List PieceAnswer)
    : Type 0 where
  pub each : (x : ℕ)
      → times x (map (λ (answer : PieceAnswer). answer.piece) answers) ≡ once_below x (2 ^ depth)
  pub walked : All (λ (answer : PieceAnswer). IsWalkedPiece problem depth node_limit answer) answers
  pub greatest_read :
      All (λ (answer : PieceAnswer). answer.incumbent_read ≤ max first (greatest_found answers)) answers
