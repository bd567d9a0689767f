-- Sums over the periods of a day and over its classes, and numbers of the blocks at their places.
use Rattle.std.specs.Prelude.{ℕ, zero, suc, ◌==◌, if◌then◌else◌, ℤ, pos, ◌+ℤ◌, List, [], ◌∷◌, length}
use Rattle.dam_book.specs.Terms.{BlockTerms}
use Rattle.dam_blocks.specs.declared.problem.Block.{Block}
use Rattle.dam_blocks.specs.Problem.{ProblemState}
use Rattle.dam_bound.specs.Classes.{first_of_class}

-- a number of each of n periods from t on, added up
abbrev pub over_periods : (ℕ → ℤ) → ℕ → ℕ → ℤ
over_periods f t zero = pos 0
over_periods f t (suc n) = f t +ℤ over_periods f (suc t) n

-- of n places from c on, those at which a class begins
abbrev pub firsts_from : List Block → ℕ → ℕ → List ℕ
firsts_from blocks c zero = []
firsts_from blocks c (suc n) = if first_of_class blocks c == c then c ∷ firsts_from blocks (suc c) n else firsts_from blocks (suc c) n

-- the places at which the classes of the problem's periods begin
abbrev pub class_places : ProblemState → List ℕ
class_places problem = firsts_from problem.blocks 0 (length problem.hours)

-- a number of each of these places, added up
abbrev pub over_places : (ℕ → ℤ) → List ℕ → ℤ
over_places f [] = pos 0
over_places f (c ∷ places) = f c +ℤ over_places f places

-- of n places, a number of each block at its own, and 0 at the others
abbrev pub at_places : ℕ → (BlockTerms → ℤ) → List Block → List ℤ
at_places zero f blocks = []
at_places (suc n) f [] = pos 0 ∷ at_places n f []
at_places (suc n) f (b ∷ blocks) = f b.order ∷ at_places n f blocks
