-- A list of places, each with an order or with none: a gap, from which an order was taken out.
use Rattle.std.specs.Prelude.{◌≡◌, ◌<◌, ℕ, suc, ◌+◌, Bool, false, ◌&&◌, nat_eq, List, [], ◌∷◌, Option, Some}
use Rattle.std.specs.Prelude.{None, ⊤, slice_get}
use Rattle.dam_book.specs.Name.{same_text}
use Rattle.dam_book.specs.Order.{is_parent, parent_of}
use Rattle.dam_book.specs.Book.{Key, Row, same_key}
use Rattle.dam_book.specs.declared.order.Order.{Order}

-- the label by which a place is found: its row's key with the number 0, or a filler's
abbrev pub Label : Type 0
Label = Key × ℕ

abbrev pub same_label : Label → Label → Bool
same_label l m = same_key l.0 m.0 && nat_eq l.1 m.1

abbrev pub MapPlace : Type 0
MapPlace = Label × Option Order

-- the rows with the place's before them, if it has one
abbrev pub with_place : Key → Option Order → List Row → List Row
with_place k None rows = rows
with_place k (Some o) rows = (k, o) ∷ rows

-- the rows of the places that have one, in their order
abbrev pub rows_of : List MapPlace → List Row
rows_of [] = []
rows_of (p ∷ ps) = with_place p.0.0 p.1 (rows_of ps)

abbrev pub one_if_gap : Option Order → ℕ
one_if_gap None = 1
one_if_gap (Some o) = 0

abbrev pub gap_count : List MapPlace → ℕ
gap_count [] = 0
gap_count (p ∷ ps) = one_if_gap p.1 + gap_count ps

-- a row is labelled by 0, and the gap at the n-th place, counted from 1, by 0 or by n
abbrev pub IsNumbered : ℕ → ℕ → Option Order → Type 0
IsNumbered n number None = 0 < number → number ≡ n
IsNumbered n number (Some o) = number ≡ 0

-- so are all places, of which the first is the n-th
abbrev pub AreNumbered : ℕ → List MapPlace → Type 0
AreNumbered n [] = ⊤
AreNumbered n (p ∷ ps) = IsNumbered n p.0.1 p.1 × AreNumbered (suc n) ps

-- whether the owner's place has a block that names this order as its parent
abbrev pub child_at : Key → List ℕ → Option Order → Bool
child_at k owner None = false
child_at k owner (Some o) = is_parent k.1 (parent_of o) && same_text k.0 owner

abbrev pub is_child_place : Key → MapPlace → Bool
is_child_place k p = child_at k p.0.0.0 p.1

-- the place is the label's
abbrev pub IsLabelledAt : Label → List MapPlace → ℕ → Type 0
IsLabelledAt l ps at = (o : Option Order) × (slice_get ps at ≡ Some (l, o))
