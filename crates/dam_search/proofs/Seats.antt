-- Answers of a seat that draws one piece more, and of two seats that are joined.
use Rattle.dam_search.proofs.Common.{◌≡◌, ℕ, pos, cond, ◌==◌, ◌+◌, ◌<◌, ◌≤◌, ◌^◌, max, List, [], ◌∷◌, ◌++◌, map, length, slice_index_or, ◌∙◌, ap, ap₂, sym}
use Rattle.dam_search.proofs.Common.{subst, refl, arith, length-append, All, ints, nat_tests, All-push, All-weaker, ProblemState, PieceAnswer, View}
use Rattle.dam_search.proofs.Common.{welfare_found, IsReached, greatest_found, IsWorked, answers_about, AreOneEach, Solution, IsEligible, times}
use Rattle.dam_search.proofs.Common.{AreClosedWords, AreAnswersOf, AreJoined}
use Rattle.std.proofs.lemmas.List.Sums.{sum_by-append}
use Rattle.std.proofs.lemmas.List.{map-append, length-map}
use Rattle.std.proofs.lemmas.List.Elements.{All-append}
use Rattle.dam_search.specs.Words.{once_below, first_view, joined_view, standing}
use Rattle.dam_search.specs.inside.Work.{IsWalkedPiece}
use Rattle.dam_search.specs.inside.Seats.{AreAllAnswers}
use Rattle.dam_search.proofs.Collecting.{reached_less, reached_greater, reached_greatest}

pub greatest_append : (xs ys : List PieceAnswer) → greatest_found (xs ++ ys) ≡ max (greatest_found xs) (greatest_found ys)
greatest_append [] ys = omega arith
greatest_append (x ∷ xs) ys = let rest = greatest_append xs ys in omega (arith, rest)

read_more : (answers : List PieceAnswer) (greatest_read later : ℕ) → greatest_read ≤ later → All (λ (a : PieceAnswer). a.incumbent_read ≤ greatest_read) answers
    → All (λ (a : PieceAnswer). a.incumbent_read ≤ later) answers
read_more answers greatest_read later le all = All-weaker (λ (a : PieceAnswer). a.incumbent_read ≤ greatest_read) (λ (a : PieceAnswer). a.incumbent_read ≤ later)
    (λ (a : PieceAnswer) (h : a.incumbent_read ≤ greatest_read). omega (arith, h, le)) answers all

-- a seat with the view `other`, which drew the piece of the answer after `view`
pub one_more : (problem : ProblemState) (depth node_limit besides : ℕ) (view other : View) (answers : List PieceAnswer) (a : PieceAnswer)
    → AreAnswersOf problem depth node_limit besides view answers
    → other.drawn ≡ view.drawn ++ a.piece ∷ [] → other.greatest_read ≡ max view.greatest_read a.incumbent_read
    → other.greatest_offer ≡ max view.greatest_offer (welfare_found a.best) → IsWalkedPiece problem depth node_limit a
    → AreAnswersOf problem depth node_limit besides other (answers ++ a ∷ [])
one_more problem depth node_limit besides view other answers a h drawn greatest_read greatest_offer walked = record {
  pieces = map-append (λ (a : PieceAnswer). a.piece) answers (a ∷ []) ∙ ap (λ (xs : List ℕ). xs ++ a.piece ∷ []) h.pieces ∙ sym drawn;
  walked = All-push (λ (a : PieceAnswer). IsWalkedPiece problem depth node_limit a) answers a h.walked walked;
  greatest_read = All-push (λ (a : PieceAnswer). a.incumbent_read ≤ other.greatest_read) answers a
      (read_more answers view.greatest_read other.greatest_read (omega (arith, greatest_read)) h.greatest_read) (omega (arith, greatest_read));
  offered = (let before = h.offered in let more = greatest_append answers (a ∷ []) in omega (arith, before, more, greatest_offer));
}

pub both_answers : (problem : ProblemState) (depth node_limit besides : ℕ) (view other : View) (xs ys : List PieceAnswer)
    → AreAnswersOf problem depth node_limit besides view xs → AreAnswersOf problem depth node_limit 0 other ys
    → AreAnswersOf problem depth node_limit besides (joined_view view other) (xs ++ ys)
both_answers problem depth node_limit besides view other xs ys g h = record {
  pieces = map-append (λ (a : PieceAnswer). a.piece) xs ys ∙ ap₂ (λ (m n : List ℕ). m ++ n) g.pieces h.pieces;
  walked = All-append (λ (a : PieceAnswer). IsWalkedPiece problem depth node_limit a) xs ys g.walked h.walked;
  greatest_read = All-append (λ (a : PieceAnswer). a.incumbent_read ≤ max view.greatest_read other.greatest_read) xs ys
      (read_more xs view.greatest_read (max view.greatest_read other.greatest_read) (omega arith) g.greatest_read)
      (read_more ys other.greatest_read (max view.greatest_read other.greatest_read) (omega arith) h.greatest_read);
  offered = (let left = g.offered in let right = h.offered in let more = greatest_append xs ys in omega (arith, left, right, more));
}

pub none_yet : (problem : ProblemState) (depth node_limit : ℕ) (view : View) → view.drawn ≡ [] → view.greatest_offer ≡ 0
    → AreAnswersOf problem depth node_limit 0 view []
none_yet problem depth node_limit view undrawn unoffered = record {
  pieces = sym undrawn;
  walked = λ k d l. absurd (omega arith);
  greatest_read = λ k d l. absurd (omega arith);
  offered = omega (arith, unoffered);
}

-- the answers are as many as the pieces drawn
pub as_many : (problem : ProblemState) (depth node_limit besides : ℕ) (view : View) (answers : List PieceAnswer)
    → AreAnswersOf problem depth node_limit besides view answers → length answers ≡ length view.drawn
as_many problem depth node_limit besides view answers h =
    sym (length-map answers (λ (a : PieceAnswer). a.piece)) ∙ ap (λ (xs : List ℕ). length xs) h.pieces

-- a draw past the end changes nothing of the answers
pub past_end : (problem : ProblemState) (depth node_limit besides past : ℕ) (view other : View) (answers : List PieceAnswer)
    → other ≡ record view { draws_past_the_end = past } → AreAnswersOf problem depth node_limit besides view answers
    → AreAnswersOf problem depth node_limit besides other answers
past_end problem depth node_limit besides past view other answers e h = record {
  pieces = h.pieces ∙ sym (ap (λ (another : View). another.drawn) e);
  walked = h.walked;
  greatest_read = (let same = ap (λ (another : View). another.greatest_read) e in read_more answers view.greatest_read other.greatest_read
      (omega (arith, same)) h.greatest_read);
  offered = ap (λ (another : View). another.greatest_offer) e ∙ h.offered;
}

-- a seat with the view v that drew a piece, and then w, and then walked the piece
pub record IsNext (view another : View) (piece : ℕ) : Type 0 where
  pub drawn : another.drawn ≡ view.drawn ++ piece ∷ []
  pub draws_past_the_end : another.draws_past_the_end ≡ view.draws_past_the_end
  pub pieces : another.pieces ≡ view.pieces
  pub seats : another.seats ≡ view.seats
  pub seats_left : another.seats_left ≡ view.seats_left

pub next_view : (view other another : View) (piece : ℕ) → other ≡ record view { drawn = view.drawn ++ piece ∷ [] } → standing another ≡ standing other → IsNext view another piece
next_view view other another piece e f = record {
  drawn = ap (λ (x : View). x.drawn) f ∙ ap (λ (x : View). x.drawn) e;
  draws_past_the_end = ap (λ (x : View). x.draws_past_the_end) f ∙ ap (λ (x : View). x.draws_past_the_end) e;
  pieces = ap (λ (x : View). x.pieces) f ∙ ap (λ (x : View). x.pieces) e;
  seats = ap (λ (x : View). x.seats) f ∙ ap (λ (x : View). x.seats) e;
  seats_left = ap (λ (x : View). x.seats_left) f ∙ ap (λ (x : View). x.seats_left) e;
}

-- a piece was drawn, and no more than there are
pub one_drawn : (view other : View) (piece : ℕ) → other ≡ record view { drawn = view.drawn ++ piece ∷ [] } → length other.drawn ≤ other.pieces
    → length view.drawn + 1 ≤ view.pieces
one_drawn view other piece e few =
    let long = ap (λ (x : View). length x.drawn) e in let more = length-append view.drawn (piece ∷ []) in
    let pieces = ap (λ (x : View). x.pieces) e in omega (arith, few, long, more, pieces)

pub none_joined : (problem : ProblemState) (depth node_limit : ℕ) (view : View) → view.drawn ≡ [] → AreJoined problem depth node_limit view 0 view []
none_joined problem depth node_limit view undrawn = record {
  are_answers = record {
    pieces = sym undrawn;
    walked = λ k d l. absurd (omega arith);
    greatest_read = λ k d l. absurd (omega arith);
    offered = omega arith;
  };
  seats = omega arith;
  seats_left = refl;
  draws_past_the_end = omega arith;
}

pub one_joined : (problem : ProblemState) (depth node_limit : ℕ) (view : View) (workers : ℕ) (other another x : View) (xs ys : List PieceAnswer)
    → AreJoined problem depth node_limit view workers other xs → another.seats ≡ 1 → another.seats_left ≡ 0 → another.draws_past_the_end ≡ 1
    → AreAnswersOf problem depth node_limit 0 another ys → x ≡ joined_view other another → AreJoined problem depth node_limit view (workers + 1) x (xs ++ ys)
one_joined problem depth node_limit view workers other another x xs ys h one none past are e =
    let seats = h.seats in let left = h.seats_left in let pasts = h.draws_past_the_end in
    subst (λ (y : View). AreJoined problem depth node_limit view (workers + 1) y (xs ++ ys)) (sym e)
    (record {
      are_answers = both_answers problem depth node_limit view.greatest_offer other another xs ys h.are_answers are;
      seats = omega (arith, seats, one);
      seats_left = omega (arith, left, none);
      draws_past_the_end = omega (arith, pasts, past);
    })

-- the first seat, which has offered at most
pub record IsBegun (pieces : ℕ) (view : View) : Type 0 where
  pub pieces_are : view.pieces ≡ pieces
  pub undrawn : view.drawn ≡ []
  pub going : view.draws_past_the_end ≡ 0
  pub seats : view.seats ≡ 1
  pub seats_left : view.seats_left ≡ 8

pub begun : (pieces : ℕ) (view other : View) → view ≡ first_view pieces → standing other ≡ standing view → IsBegun pieces other
begun pieces view other e f = record {
  pieces_are = ap (λ (x : View). x.pieces) f ∙ ap (λ (x : View). x.pieces) e;
  undrawn = ap (λ (x : View). x.drawn) f ∙ ap (λ (x : View). x.drawn) e;
  going = ap (λ (x : View). x.draws_past_the_end) f ∙ ap (λ (x : View). x.draws_past_the_end) e;
  seats = ap (λ (x : View). x.seats) f ∙ ap (λ (x : View). x.seats) e;
  seats_left = ap (λ (x : View). x.seats_left) f ∙ ap (λ (x : View). x.seats_left) e;
}

-- at the close the answers are about every piece
pub whole : (problem : ProblemState) (depth node_limit first workers pieces : ℕ) (words : List ℕ) (view other : View) (answers : List PieceAnswer)
    → AreJoined problem depth node_limit view workers other answers → view.draws_past_the_end ≡ 0 → view.greatest_offer ≡ first → 1 ≤ workers
    → pieces ≡ 2 ^ depth
    → AreClosedWords pieces words other → AreAllAnswers problem depth node_limit first answers
whole problem depth node_limit first workers pieces words view other answers h going greatest_offer some e closed =
    let past = h.draws_past_the_end in let greatest_read = closed.greatest_read in let offered = h.are_answers.offered in
    record {
      each = λ x. ap (λ (xs : List ℕ). times x xs) h.are_answers.pieces ∙ closed.each (omega (arith, past, some)) x
          ∙ ap (λ (n : ℕ). once_below x n) e;
      walked = h.are_answers.walked;
      greatest_read = read_more answers other.greatest_read (max first (greatest_found answers)) (omega (arith, greatest_read, offered, greatest_offer))
          h.are_answers.greatest_read;
    }

-- the value read is at most the welfare of some eligible selection
pub all_worked : (problem : ProblemState) (depth node_limit first : ℕ) (answers : List PieceAnswer) → IsReached problem first
    → AreAllAnswers problem depth node_limit first answers → All (λ (a : PieceAnswer). IsWorked problem depth node_limit a) answers
all_worked problem depth node_limit first answers reached h =
    let greatest = reached_greatest problem depth answers (reached_less problem first 0 (omega arith) reached)
    (λ k d l. (h.walked k d l).sound) in
    let both = reached_greater problem first (greatest_found answers) reached greatest in
    λ k d l. (let walked = h.walked k d l in record {
      in_cutting = walked.in_cutting;
      sound = walked.sound;
      reached = reached_less problem (max first (greatest_found answers)) (slice_index_or answers k d).incumbent_read (h.greatest_read k d l) both;
      spent = walked.spent;
      done = walked.done;
    })

pub first_reached : (problem : ProblemState) (b : Solution) → IsEligible problem b.selection (pos b.welfare) → IsReached problem b.welfare
first_reached problem b e = record { selection = b.selection; welfare = pos b.welfare; eligible = e; reaches = omega (arith, ints) }

-- ---- one answer about each piece

about_times : (answers : List PieceAnswer) (piece : ℕ)
    → answers_about answers piece ≡ times piece (map (λ (a : PieceAnswer). a.piece) answers)
about_times [] piece = refl
about_times (a ∷ answers) piece =
    let f : PieceAnswer → ℕ = λ x. cond (x.piece == piece) 1 0 in let first = sum_by-append f (a ∷ []) answers in
    let rest = about_times answers piece in omega (arith, first, rest)

below_once : (x bound : ℕ) → x < bound → once_below x bound ≡ 1
below_once x bound less = grind (arith, nat_tests, less)

pub one_each : (problem : ProblemState) (depth node_limit first : ℕ) (answers : List PieceAnswer) → AreAllAnswers problem depth node_limit first answers
    → AreOneEach answers (2 ^ depth)
one_each problem depth node_limit first answers h piece less = about_times answers piece ∙ h.each piece ∙ below_once piece (2 ^ depth) less
