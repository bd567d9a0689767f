-- Pieces of a search, the finds in them, and their costs.
use Rattle.std.specs.Prelude.{◌≡◌, ℕ, zero, suc, ◌+◌, ◌-◌, ◌*◌, ◌^◌, ◌≤◌, ℤ, pos, ◌<ℤ◌, ◌⊎◌, Bool, true, false, if◌then◌else◌}
use Rattle.std.specs.Prelude.{Option, Some, None, List, [], ◌∷◌, ◌++◌}
use Rattle.dam_blocks.specs.declared.selection.Solution.{Solution}
use Rattle.dam_blocks.specs.Problem.{ProblemState}
use Rattle.dam_blocks.specs.Selection.{padded, IsAdmissible}
use Rattle.dam_blocks.specs.Eligible.{IsEligible}
use Rattle.dam_blocks.specs.Result.{RanksAtOrBelow}
use Rattle.dam_bound.specs.Prefix.{IsCompletion}
use Rattle.dam_bound.specs.Relaxed.{relaxed_welfare, reaches, live_count}

-- A cutting of depth k decides the first k blocks. Its pieces are the completions of the prefixes of
-- that length; the prefix of piece j is `choice depth j`.

-- a find: none, or an eligible completion of the prefix with its welfare
abbrev pub IsFind : ProblemState → List Bool → Option Solution → Type 0
IsFind problem prefix None = Unit {0}
IsFind problem prefix (Some best) =
    IsCompletion prefix best.selection × IsEligible problem best.selection (pos best.welfare)

-- the selection ranks at or below the one that was found
abbrev pub IsMatched : ℤ → List Bool → Option Solution → Type 0
IsMatched welfare selection None = ⊥
IsMatched welfare selection (Some best) = RanksAtOrBelow welfare selection (pos best.welfare) best.selection

-- the find rises: there was none before, or it ranks at or below the next one
abbrev pub Rises : Option Solution → Option Solution → Type 0
Rises None next = Unit {0}
Rises (Some best) next = IsMatched (pos best.welfare) best.selection next

-- the welfare of the selection that was found, 0 if there was none
abbrev pub welfare_found : Option Solution → ℕ
welfare_found None = 0
welfare_found (Some best) = best.welfare

-- a sound answer about the completions of this prefix: the selection that was found is one of them,
-- and if the answer is done, each eligible one ranks at or below it or has less welfare than the
-- value read
pub record IsSound (problem : ProblemState) (prefix : List Bool) (best : Option Solution) (read : ℕ)
    (done : Bool) : Type 0 where
  pub found : IsFind problem prefix best
  pub others : done ≡ true → (selection : List Bool) (welfare : ℤ) → IsCompletion prefix selection
      → IsEligible problem selection welfare
      → (welfare <ℤ pos read) ⊎ IsMatched welfare selection best

-- how many nodes there are at most if this number of blocks is undecided
abbrev pub node_count : ℕ → ℕ
node_count undecided_count = 2 ^ (undecided_count + 1) - 1

-- how many nodes are visited at most if this number of blocks is undecided and the value was read
-- before
abbrev pub live_nodes : ProblemState → ℕ → List Bool → ℕ → ℕ
live_nodes problem value prefix undecided_count = 1 + 2 * live_count problem value prefix undecided_count

-- the number of nodes that a walk from an admissible prefix visits at least, with this number of blocks
-- undecided, if it never reads a greater value: the prefix, and if its relaxed welfare reaches the
-- value, the nodes from the extension that rejects the next block, and those from the one that accepts
-- it, if the test admits that one
abbrev pub needed_nodes : ProblemState → (List Bool → Bool) → ℕ → List Bool → ℕ → ℕ
needed_nodes problem admits value prefix zero = 1
needed_nodes problem admits value prefix (suc undecided_count) =
    1 + (if reaches (relaxed_welfare problem prefix) value
    then needed_nodes problem admits value (prefix ++ false ∷ []) undecided_count
    + (if admits (padded (prefix ++ true ∷ []))
    then needed_nodes problem admits value (prefix ++ true ∷ []) undecided_count else 0)
    else 0)

-- the test admits only selections that the links and the groups admit
abbrev pub AdmitsOnly : ProblemState → (List Bool → Bool) → Type 0
AdmitsOnly problem admits = (selection : List Bool) → admits selection ≡ true → IsAdmissible problem.blocks selection

-- the number of nodes is at least the number needed: the number that a walk over the completions of the
-- prefix visits even if it reads this value from the start and never a greater one. This is a necessary
-- number, not a sufficient one
abbrev pub HasNeeded : ProblemState → List Bool → ℕ → ℕ → ℕ → Type 0
HasNeeded problem prefix undecided_count read nodes = IsAdmissible problem.blocks (padded prefix)
    → (admits : List Bool → Bool) (value : ℕ) → AdmitsOnly problem admits → read ≤ value
    → needed_nodes problem admits value prefix undecided_count ≤ nodes

-- the cost of a walk over the completions of this prefix, if the greatest value read before it is
-- this, it may visit this number of nodes, and the greatest value read on the way is that one
pub record IsSpent (problem : ProblemState) (prefix : List Bool)
    (undecided_count greatest_read node_limit visited read : ℕ) (done : Bool) : Type 0 where
  pub within : visited ≤ node_limit
  pub all : visited ≤ node_count undecided_count
  pub live : (value : ℕ) → value ≤ greatest_read → visited ≤ live_nodes problem value prefix undecided_count
  pub unfinished : done ≡ false → visited ≡ node_limit
  pub done_by_all : node_count undecided_count ≤ node_limit → done ≡ true
  pub done_by_live : (value : ℕ) → value ≤ greatest_read
      → live_nodes problem value prefix undecided_count ≤ node_limit → done ≡ true
  pub needed : done ≡ true → HasNeeded problem prefix undecided_count read visited
