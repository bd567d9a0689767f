-- The segments of one period, from its demand and the supply under each step.
use Rattle.std.specs.Prelude.{◌≡◌, ◌⊎◌, ℕ, ◌+◌, ◌*◌, ℤ, pos, ◌+ℤ◌, ◌-ℤ◌, ◌*ℤ◌, List, [], ◌∷◌, slice_index_or}
use Rattle.std.specs.Prelude.{if◌then◌else◌}
use Rattle.std.specs.Ordering.{int_eq}
use Rattle.dam_book.specs.Limits.{highest_price}
use Rattle.dam_hour.specs.Price.{price_between}
use Rattle.dam_hour.specs.declared.step.Step.{Step}
use Rattle.dam_curve.specs.Supply.{height_of}
use Rattle.dam_curve.specs.declared.segment.Segment.{Segment}

-- the segment at a price, after one at the previous price, from the net volume at which this volume is taken of the
-- supply, at this cost
abbrev pub segment_at_price : ℕ → ℕ → ℤ → ℤ → ℕ → ℕ → Segment
segment_at_price volume worth previous price before cost = record {
  most = pos volume -ℤ pos before;
  price = price;
  end_price = price_between previous price;
  surplus = (pos worth -ℤ pos cost) -ℤ pos (height_of price) *ℤ (pos volume -ℤ pos before);
}

-- a segment for each step, and a last one with all volume taken
abbrev pub segments_from : ℕ → ℕ → ℤ → ℕ → ℕ → List Step → List Segment
segments_from volume worth previous before cost [] = segment_at_price volume worth previous highest_price before cost ∷ []
segments_from volume worth previous before cost (step ∷ steps) =
    segment_at_price volume worth previous step.price before cost
    ∷ segments_from volume worth step.price (before + step.qty) (cost + height_of step.price * step.qty) steps

-- the clearing prices, added up, at a net volume at which no later segment holds
abbrev pub price_at : Segment → ℤ → ℤ
price_at segment net = if int_eq segment.most net then segment.end_price else segment.price

-- the sum of two segments, at the net volumes at which both hold, up to this one
abbrev pub joint_segment : Segment → Segment → ℤ → Segment
joint_segment a b most = record {
  most = most;
  price = a.price +ℤ b.price;
  end_price = price_at a most +ℤ price_at b most;
  surplus = a.surplus +ℤ b.surplus;
}

-- the next place, if the segment there holds up to this net volume, and else the same
abbrev pub IsPast : List Segment → ℕ → ℤ → ℕ → Type 0
IsPast segments place net next = ((next ≡ place + 1) × ((d : Segment) → (slice_index_or segments next d).most ≡ net))
    ⊎ ((next ≡ place) × ((d : Segment) → ¬ ((slice_index_or segments (place + 1) d).most ≡ net)))
