-- The rule of the two words that the workers of a search share: the claim word and the
-- incumbent word.
use Rattle.std.specs.Prelude.{◌≡◌, ℕ, ◌+◌, ◌-◌, ◌^◌, ◌<◌, ◌≤◌, min, max, nat_lt, ◌==◌, if◌then◌else◌, List, [], ◌∷◌, ◌++◌, length}
use Rattle.std.specs.Prelude.{slice_index}
use mathlib.Core.Option.{some}
use lib.ListN.{get_elem?}
use Rattle.atomic_table.specs.Table.{State, Me, Step}
use Rattle.atomic_table.specs.declared.shared.Seat.{Seat}
use Rattle.dam_search.specs.declared.view.View.{View}
use Rattle.dam_plan.specs.Limits.{most_workers, most_cut}

-- a number of each view, added up
abbrev pub sum_of : (View → ℕ) → List View → ℕ
sum_of f [] = 0
sum_of f (view ∷ views) = f view + sum_of f views

-- a number of each view, the greatest of them, 0 if there is none
abbrev pub greatest : (View → ℕ) → List View → ℕ
greatest f [] = 0
greatest f (view ∷ views) = max (f view) (greatest f views)

-- how often a number stands in a list
abbrev pub times : ℕ → List ℕ → ℕ
times x [] = 0
times x (y ∷ ys) = (if y == x then 1 else 0) + times x ys

-- 1 if the number is under the bound, and otherwise 0
abbrev pub once_below : ℕ → ℕ → ℕ
once_below x bound = if nat_lt x bound then 1 else 0

-- the most pieces, and the most seats
abbrev pub most_pieces : ℕ
most_pieces = 2 ^ most_cut

-- the most seats: one for each worker, and one more
abbrev pub most_seats : ℕ
most_seats = most_workers + 1

-- ---- the views

-- the view of a seat
abbrev pub view_of : Seat (Unit {0}) View → View
view_of seat = seat.me.0

-- a new seat, off which this number of others may be split
abbrev pub new_view : ℕ → ℕ → View
new_view pieces seats_left = record {
  pieces = pieces;
  drawn = [];
  draws_past_the_end = 0;
  seats = 1;
  seats_left = seats_left;
  greatest_offer = 0;
  greatest_read = 0;
}

-- the first seat
abbrev pub first_view : ℕ → View
first_view pieces = new_view pieces most_workers

-- a seat that was joined into another
abbrev pub spent_view : View
spent_view = record (new_view 0 0) { seats = 0 }

-- a draw that found this number in the claim word
abbrev pub drawn_after : View → ℕ → View
drawn_after view found =
    if nat_lt found view.pieces then record view { drawn = view.drawn ++ found ∷ [] }
    else record view { draws_past_the_end = view.draws_past_the_end + 1 }

-- a seat after another was split off it
abbrev pub view_after_split : View → View
view_after_split view = record view { seats_left = view.seats_left - 1 }

-- the seat that was split off
abbrev pub split_off_view : View → View
split_off_view view = new_view view.pieces 0

-- a seat with another joined into it
abbrev pub joined_view : View → View → View
joined_view view other = record {
  pieces = view.pieces;
  drawn = view.drawn ++ other.drawn;
  draws_past_the_end = view.draws_past_the_end + other.draws_past_the_end;
  seats = view.seats + other.seats;
  seats_left = view.seats_left + other.seats_left;
  greatest_offer = max view.greatest_offer other.greatest_offer;
  greatest_read = max view.greatest_read other.greatest_read;
}

-- the parts of a view that neither a read nor an offer changes
abbrev pub standing : View → View
standing view = record view { greatest_offer = 0; greatest_read = 0 }

-- ---- the rule

-- a view at any time: the spent one, or one of a seat that knows the number of pieces; no seat
-- drew past the end more often than the seats in it
pub record IsFit (pieces : ℕ) (view : View) : Type 0 where
  pub spent : view.seats ≡ 0 → view ≡ spent_view
  pub knows_pieces : 0 < view.seats → view.pieces ≡ pieces
  pub few_past : view.draws_past_the_end ≤ view.seats

-- the two words, and all views
pub record AreWordsOf (pieces claim incumbent : ℕ) (views : List View) : Type 0 where
  -- the draws: each piece under the claim word once, and nothing else
  pub once : (x : ℕ)
      → sum_of (λ (view : View). times x view.drawn) views ≡ once_below x (min claim pieces)
  pub as_many : sum_of (λ (view : View). length view.drawn) views ≡ min claim pieces
  -- the claim word counts the draws
  pub counted : claim
      ≡ sum_of (λ (view : View). length view.drawn) views
      + sum_of (λ (view : View). view.draws_past_the_end) views
  pub fit : (i : ℕ) (view : View) → get_elem? views i ≡ some view → IsFit pieces view
  pub few_seats : sum_of (λ (view : View). view.seats + view.seats_left) views ≤ most_seats
  -- the incumbent word is the greatest offer, and nothing that was read exceeds it
  pub greatest_offer : incumbent ≡ greatest (λ (view : View). view.greatest_offer) views
  pub none_above : (i : ℕ) (view : View) → get_elem? views i ≡ some view → view.greatest_read ≤ incumbent

-- the rule of the two words, at any time: each piece under the claim word was drawn once, and the incumbent word is the
-- greatest offer
pub record AreWords (pieces : ℕ) (state : State (Unit {0}) View) : Type 0 where
  pub few_pieces : pieces ≤ most_pieces
  pub claim : ℕ
  pub incumbent : ℕ
  pub words : state.words ≡ claim ∷ incumbent ∷ []
  pub kept : AreWordsOf pieces claim incumbent state.views

-- ---- a seat's own operation: its view before, the number found, its view after

-- the number found is a piece that joins those drawn, or a draw past the last one
abbrev pub IsDrawn : Me (Unit {0}) View → ℕ → Me (Unit {0}) View → Type 0
IsDrawn before found after =
    (after.0 ≡ drawn_after before.0 found) × (after.1 ≡ before.1)
    × (length after.0.drawn ≤ after.0.pieces)

-- the value found is the greatest read so far
abbrev pub IsIncumbentRead : Me (Unit {0}) View → ℕ → Me (Unit {0}) View → Type 0
IsIncumbentRead before found after =
    (before.0.greatest_read ≤ found) × (after.0 ≡ record before.0 { greatest_read = found })
    × (after.1 ≡ before.1)

-- the offer is among those made
abbrev pub IsOffered : Step (Unit {0}) → Me (Unit {0}) View → ℕ → Me (Unit {0}) View → Type 0
IsOffered step before found after =
    (after.0 ≡ record before.0 { greatest_offer = max before.0.greatest_offer step.first })
    × (after.1 ≡ before.1)

-- ---- the close

-- the words at the close, if all seats were joined into the one of this view: the claim word counts
-- its draws, which were each piece once if one was past the end; the incumbent word is its greatest
-- offer, and it never read more than that
pub record AreClosedWords (pieces : ℕ) (words : List ℕ) (view : View) : Type 0 where
  pub claim : slice_index words 0 ≡ length view.drawn + view.draws_past_the_end
  pub each : 0 < view.draws_past_the_end → (x : ℕ) → times x view.drawn ≡ once_below x pieces
  pub incumbent : slice_index words 1 ≡ view.greatest_offer
  pub greatest_read : view.greatest_read ≤ view.greatest_offer
