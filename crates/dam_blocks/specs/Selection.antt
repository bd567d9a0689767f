-- Selections of blocks: their volumes and values, and which of them the links and the groups admit.
use Rattle.std.specs.Prelude.{◌≡◌, ℕ, zero, suc, ◌+◌, ◌-◌, ◌^◌, ◌≤◌, ℤ, pos, neg_ℤ, ◌+ℤ◌, ◌*ℤ◌, Bool, true, false, ◌&&◌, nat_lt, ◌==◌}
use Rattle.std.specs.Prelude.{Option, Some, List, [], ◌∷◌, ◌++◌, length, replicate, slice_get, slice_index_or, if◌then◌else◌}
use Rattle.dam_book.specs.Name.{same_text}
use Rattle.dam_book.specs.Terms.{BlockTerms}
use Rattle.dam_book.specs.Volumes.{Pair}
use Rattle.dam_book.specs.Limits.{most_blocks, most_of_group}
use Rattle.dam_book.specs.declared.order.Side.TheVariants.{Buy}
use Rattle.dam_hour.specs.Execution.{volume_on}
use Rattle.dam_hour.specs.Best.{signed}
use Rattle.dam_blocks.specs.declared.problem.Block.{Block}
use Rattle.dam_blocks.specs.Problem.{IsParent}

-- A selection is the list of its acceptances, one for each place that a block of a book may have.

-- whether the place is accepted
abbrev pub accepts : List Bool → ℕ → Bool
accepts selection i = slice_index_or selection i false

-- both accept some place
abbrev pub Meets : List Bool → List Bool → Type 0
Meets selection other = (i : ℕ) × (accepts selection i ≡ true) × (accepts other i ≡ true)

-- the acceptances of the first places, with no other place accepted
abbrev pub padded : List Bool → List Bool
padded decided = decided ++ replicate (most_blocks - length decided) false

-- the empty selection
abbrev pub empty_selection : List Bool
empty_selection = replicate most_blocks false

-- the k-th choice over n places: the first of them is accepted by the first half of the choices, and
-- so on
abbrev pub choice : ℕ → ℕ → List Bool
choice zero k = []
choice (suc n) k = if nat_lt k (2 ^ n) then true ∷ choice n k else false ∷ choice n (k - 2 ^ n)

-- the volume in a period, 0 if there is none
abbrev pub volume_in : List Pair → ℕ → ℕ
volume_in [] t = 0
volume_in (p ∷ ps) t = if p.0 == t then p.1 else volume_in ps t

-- the sum over the accepted blocks
abbrev pub over_accepted : (BlockTerms → ℤ) → List Block → List Bool → ℤ
over_accepted f (b ∷ bs) (true ∷ selection) = f b.order +ℤ over_accepted f bs selection
over_accepted f (b ∷ bs) (false ∷ selection) = over_accepted f bs selection
over_accepted f _ _ = pos 0

-- the net volume of a block in a period: its volume if it sells, and minus its volume if it buys
abbrev pub net_volume_of_block : ℕ → BlockTerms → ℤ
net_volume_of_block t o = neg_ℤ (signed o.side (pos (volume_in o.volumes t)))

-- a block's volume in a period if it buys, 0 if it sells
abbrev pub bought_volume_of_block : ℕ → BlockTerms → ℤ
bought_volume_of_block t o = pos (volume_on Buy o.side (volume_in o.volumes t))

-- limit times volume in a period of a block that buys, and the same with the other sign of one that
-- sells
abbrev pub value_in : ℕ → BlockTerms → ℤ
value_in t o = signed o.side (o.price *ℤ pos (volume_in o.volumes t))

-- the accepted sell blocks' volume in a period less the accepted buy blocks'
abbrev pub net_volume : List Block → List Bool → ℕ → ℤ
net_volume blocks selection t = over_accepted (net_volume_of_block t) blocks selection

-- the accepted buy blocks' volume in a period
abbrev pub bought_volume : List Block → List Bool → ℕ → ℤ
bought_volume blocks selection t = over_accepted (bought_volume_of_block t) blocks selection

-- the accepted buy blocks' limit times volume in a period less the accepted sell blocks'
abbrev pub accepted_value : List Block → List Bool → ℕ → ℤ
accepted_value blocks selection t = over_accepted (value_in t) blocks selection

-- whether both name one group
abbrev pub same_group : Option (List ℕ) → Option (List ℕ) → Bool
same_group (Some group) (Some other) = same_text group other
same_group _ _ = false

-- whether both are in one exclusive group of one participant
abbrev pub are_of_one_group : Block → Block → Bool
are_of_one_group a b = same_text a.who b.who && same_group a.order.group b.order.group

-- how many accepted blocks are of this one's group, itself too if it is accepted; 0 if it has no group
abbrev pub accepted_of_group : Block → List Block → List Bool → ℕ
accepted_of_group block (b ∷ bs) (true ∷ selection) =
    (if are_of_one_group block b then 1 else 0) + accepted_of_group block bs selection
accepted_of_group block (b ∷ bs) (false ∷ selection) = accepted_of_group block bs selection
accepted_of_group block _ _ = 0

-- a block stands at the place, its parent is accepted if it has one, and at most `most_of_group` blocks
-- of its group are accepted
pub record IsAllowed (blocks : List Block) (selection : List Bool) (i : ℕ) : Type 0 where
  pub block : Block
  pub stands : slice_get blocks i ≡ Some block
  pub parent : (j : ℕ) (other : Block) → slice_get blocks j ≡ Some other → IsParent other block
      → accepts selection j ≡ true
  pub group : accepted_of_group block blocks selection ≤ most_of_group

-- only blocks are accepted, each with its parent, and at most `most_of_group` of each group;
-- every parent in a problem is one of its blocks
pub record IsAdmissible (blocks : List Block) (selection : List Bool) : Type 0 where
  pub each : (i : ℕ) → accepts selection i ≡ true → IsAllowed blocks selection i
