-- The relaxed welfare of a prefix, and how many prefixes reach a value.
use Rattle.std.specs.Prelude.{ℕ, zero, suc, ◌+◌, ℤ, pos, int_le, Bool, true, false, ◌==◌, if◌then◌else◌}
use Rattle.std.specs.Prelude.{Option, Some, None, List, [], ◌∷◌, ◌++◌, length, drop}
use Rattle.dam_book.specs.Terms.{BlockTerms}
use Rattle.dam_hour.specs.declared.step.Step.{Step}
use Rattle.dam_blocks.specs.declared.problem.Block.{Block}
use Rattle.dam_blocks.specs.Problem.{ProblemState}
use Rattle.dam_blocks.specs.Selection.{volume_in}
use Rattle.dam_blocks.specs.Eligible.{welfare_from}

-- a block as an order of one period: its side, its limit, and the volume that it has there
abbrev pub step_of : ℕ → BlockTerms → Step
step_of t o = record { side = o.side; price = o.price; qty = volume_in o.volumes t }

-- a step for each of the blocks that have a volume in the period
abbrev pub as_steps : ℕ → List Block → List Step
as_steps t [] = []
as_steps t (b ∷ bs) =
    if volume_in b.order.volumes t == 0 then as_steps t bs else step_of t b.order ∷ as_steps t bs

-- the steps of each period from t on, and after them the blocks as steps of that period
abbrev pub relaxed_hours : List Block → ℕ → List (List Step) → List (List Step)
relaxed_hours undecided t [] = []
relaxed_hours undecided t (ss ∷ hours) =
    (ss ++ as_steps t undecided) ∷ relaxed_hours undecided (suc t) hours

-- the welfare of the prefix if each undecided block stands as a step of its own in each of its
-- periods; None if some period so relaxed has no execution that balances
abbrev pub relaxed_welfare : ProblemState → List Bool → Option ℤ
relaxed_welfare problem prefix =
    welfare_from problem.blocks prefix 1
    (relaxed_hours (drop (length prefix) problem.blocks) 1 problem.hours)

-- the problem without the places of its rows, on which no bound depends
abbrev pub without_rows : ProblemState → ProblemState
without_rows problem = record problem { rows = [] }

-- whether there is a welfare, and it is at least the value
abbrev pub reaches : Option ℤ → ℕ → Bool
reaches None value = false
reaches (Some w) value = int_le (pos value) w

-- among a prefix that leaves that many blocks undecided and all prefixes that extend it, the number of
-- those that leave some block undecided and whose relaxed welfare reaches the value
abbrev pub live_count : ProblemState → ℕ → List Bool → ℕ → ℕ
live_count problem value prefix zero = 0
live_count problem value prefix (suc left) =
    live_count problem value (prefix ++ true ∷ []) left
    + live_count problem value (prefix ++ false ∷ []) left
    + (if reaches (relaxed_welfare problem prefix) value then 1 else 0)
