-- Conclusive answers give the result.
use Rattle.dam_search.proofs.Common.{◌≡◌, ℕ, ◌^◌, ◌-◌, ◌<◌, ◌≤◌, max, ◌⊎◌, inl, inr, ℤ, pos, ◌≤ℤ◌, Bool, true, Option, Some, None, List, [], ◌∷◌, ◌++◌}
use Rattle.dam_search.proofs.Common.{length, take, drop, ◌∙◌, ap, sym, subst, refl, arith, All, cases_lt, ints, All-weaker, most_blocks, Solution}
use Rattle.dam_search.proofs.Common.{ProblemState, IsProblem, choice, IsEligible, RanksAtOrBelow, IsCompletion, PieceAnswer, IsFind, IsMatched, Rises}
use Rattle.dam_search.proofs.Common.{welfare_found, node_count, IsSpent, IsWorked, IsReached, greatest_found}
use Rattle.std.specs.List.{Contains}
use Rattle.std.proofs.lemmas.List.{length-take-le, take-append-drop}
use Rattle.std.proofs.lemmas.List.Elements.{All-contains, All-head, All-tail}
use Rattle.dam_blocks.specs.Result.{IsResult}
use Rattle.dam_search.specs.Piece.{HasNeeded}
use Rattle.dam_search.specs.Search.{LimitHasNeeded}
use Rattle.dam_search.specs.Answer.{IsSoundAnswer, AreAnswered, IsHighest}
use Rattle.dam_search.proofs.Walks.{needed_more, all_needed}
use Rattle.dam_search.proofs.Ranks.{IsTransitive}

-- the laws of dam_blocks that a problem has a result, and that each list of acceptances is a choice
abbrev pub IsSolvable : Type 0
IsSolvable = (problem : ProblemState) → IsProblem problem → (selection : List Bool) × ((welfare : ℤ) × IsResult problem selection welfare)

abbrev pub AreChoices : Type 0
AreChoices = (xs : List Bool) → (k : ℕ) × (k < 2 ^ length xs) × (choice (length xs) k ≡ xs)

-- none of the answers read more than some eligible selection has
abbrev pub AreReached : ProblemState → List PieceAnswer → Type 0
AreReached problem answers = All (λ (a : PieceAnswer). IsReached problem a.incumbent_read) answers

-- one of several sound answers
sound_one : (problem : ProblemState) (depth : ℕ) (answers : List PieceAnswer) (a : PieceAnswer) → AreAnswered problem depth answers
    → Contains answers a → IsSoundAnswer problem depth a
sound_one problem depth answers a are here =
    All-contains (λ (x : PieceAnswer). IsSoundAnswer problem depth x) answers a are.sound here

-- each selection is a completion of some piece
pub some_piece : AreChoices → (depth : ℕ) (selection : List Bool) → depth ≤ most_blocks → length selection ≡ most_blocks
    → (k : ℕ) × (k < 2 ^ depth) × IsCompletion (choice depth k) selection
some_piece choices depth selection few long =
    let prefix : length (take depth selection) ≡ depth = length-take-le depth selection (omega (arith, few, long)) in
    let found = choices (take depth selection) in
    let is : choice depth found.0 ≡ take depth selection = subst (λ (n : ℕ). choice n found.0 ≡ take depth selection) prefix found.2 in (
      found.0,
      subst (λ (n : ℕ). found.0 < 2 ^ n) prefix found.1,
      record {
        as_long = long;
        rest = drop depth selection;
        agrees = sym (take-append-drop depth selection) ∙ ap (λ (xs : List Bool). xs ++ drop depth selection) (sym is);
      },
    )

-- the result is matched by the selection that the answer about its piece found
pub result_matched : (problem : ProblemState) (depth : ℕ) (answers : List PieceAnswer) (selection : List Bool) (welfare : ℤ) → AreChoices
    → depth ≤ most_blocks → AreAnswered problem depth answers
    → AreReached problem answers → IsResult problem selection welfare
    → (a : PieceAnswer) × Contains answers a × IsMatched welfare selection a.best
result_matched problem depth answers selection welfare choices few are reached result =
    let piece = some_piece choices depth selection few result.eligible.as_long in
    let answer = are.each piece.0 piece.1 in
    let a = answer.0 in
    let sound = sound_one problem depth answers a are answer.1 in
    let done = All-contains (λ (x : PieceAnswer). x.done ≡ true) answers a are.done answer.1 in
    let read = All-contains (λ (x : PieceAnswer). IsReached problem x.incumbent_read) answers a reached answer.1 in
    let here = subst (λ (k : ℕ). IsCompletion (choice depth k) selection) (sym answer.2) piece.2 in
    let ranks = (result.others read.selection read.welfare read.eligible).by_welfare in
    let most = read.reaches in
    elim (sound.others done selection welfare here result.eligible) [
      | inl less ↦ absurd (let no : 0 < 0 = omega (arith, ints, less, ranks, most) in omega (arith, no))
      | inr matched ↦ (a, answer.1, matched)
    ]

matched_found : (welfare : ℤ) (selection : List Bool) (best : Option Solution) → IsMatched welfare selection best
    → (c : Solution) × (best ≡ Some c) × RanksAtOrBelow welfare selection (pos c.welfare) c.selection
matched_found welfare selection None h = absurd h
matched_found welfare selection (Some c) h = (c, refl, h)

found_eligible : (problem : ProblemState) (prefix : List Bool) (best : Option Solution) (b : Solution) → best ≡ Some b → IsFind problem prefix best
    → IsEligible problem b.selection (pos b.welfare)
found_eligible problem prefix best b e h = (subst (λ (o : Option Solution). IsFind problem prefix o) e h).1

pub collected : (problem : ProblemState) (depth : ℕ) (answers : List PieceAnswer) (b : Solution) → IsSolvable → AreChoices → IsTransitive
    → IsProblem problem → depth ≤ length problem.blocks
    → AreAnswered problem depth answers → AreReached problem answers → IsHighest answers b
    → IsResult problem b.selection (pos b.welfare)
collected problem depth answers b solvable choices transitive is deep are reached highest =
    let few : depth ≤ most_blocks = omega (arith, deep, is.few_blocks) in
    let best = solvable problem is in
    let selection = best.0 in let welfare = best.1.0 in let result = best.1.1 in
    let answer = result_matched problem depth answers selection welfare choices few are reached result in
    let found = matched_found welfare selection answer.0.best answer.2 in
    let c = found.0 in
    let rises = All-contains (λ (x : PieceAnswer). Rises x.best (Some b)) answers answer.0 highest.others answer.1 in
    let c_below = subst (λ (o : Option Solution). Rises o (Some b)) found.1 rises in
    let sound = sound_one problem depth answers answer.0 are answer.1 in
    let c_eligible = found_eligible problem (choice depth answer.0.piece) answer.0.best c found.1 sound.found in
    let found_by = highest.among in
    let sound_answer = sound_one problem depth answers found_by.0 are found_by.1 in
    let eligible = found_eligible problem (choice depth found_by.0.piece) found_by.0.best b found_by.2 sound_answer.found in
    let below = transitive welfare (pos c.welfare) (pos b.welfare) selection c.selection b.selection result.eligible.as_long c_eligible.as_long
    eligible.as_long found.2 c_below in
    record {
      eligible = eligible;
      others = λ ys v e. transitive v welfare (pos b.welfare) ys selection b.selection e.as_long result.eligible.as_long eligible.as_long
          (result.others ys v e) below;
    }

-- something was found
pub some_found : (problem : ProblemState) (depth : ℕ) (answers : List PieceAnswer) → IsSolvable → AreChoices → IsProblem problem
    → depth ≤ length problem.blocks
    → AreAnswered problem depth answers → AreReached problem answers
    → All (λ (a : PieceAnswer). a.best ≡ None) answers → ⊥
some_found problem depth answers solvable choices is deep are reached none =
    let few : depth ≤ most_blocks = omega (arith, deep, is.few_blocks) in
    let best = solvable problem is in
    let answer = result_matched problem depth answers best.0 best.1.0 choices few are reached best.1.1 in
    let nothing = All-contains (λ (x : PieceAnswer). x.best ≡ None) answers answer.0 none answer.1 in
    subst (λ (o : Option Solution). IsMatched best.1.0 best.0 o) nothing answer.2

-- ---- values that are reached

pub reached_less : (problem : ProblemState) (value less : ℕ) → less ≤ value → IsReached problem value → IsReached problem less
reached_less problem value less h r = let most = r.reaches in record {
  selection = r.selection;
  welfare = r.welfare;
  eligible = r.eligible;
  reaches = omega (arith, ints, h, most);
}

pub reached_greater : (problem : ProblemState) (a b : ℕ) → IsReached problem a → IsReached problem b → IsReached problem (max a b)
reached_greater problem a b r s = either (le_or_gt a b)
  where
    le_or_gt : (x y : ℕ) → (max x y ≤ x) ⊎ (max x y ≤ y)
    le_or_gt x y = grind arith

    either : (max a b ≤ a) ⊎ (max a b ≤ b) → IsReached problem (max a b)
    either (inl h) = reached_less problem a (max a b) h r
    either (inr h) = reached_less problem b (max a b) h s

pub reached_found : (problem : ProblemState) (prefix : List Bool) (best : Option Solution) → IsReached problem 0 → IsFind problem prefix best
    → IsReached problem (welfare_found best)
reached_found problem prefix None zero_reached h = zero_reached
reached_found problem prefix (Some b) zero_reached h =
    record { selection = b.selection; welfare = pos b.welfare; eligible = h.1; reaches = omega (arith, ints) }

pub reached_greatest : (problem : ProblemState) (depth : ℕ) (answers : List PieceAnswer) → IsReached problem 0
    → All (λ (a : PieceAnswer). IsSoundAnswer problem depth a) answers
    → IsReached problem (greatest_found answers)
reached_greatest problem depth [] zero_reached sound = zero_reached
reached_greatest problem depth (a ∷ answers) zero_reached sound =
    reached_greater problem (welfare_found a.best) (greatest_found answers)
    (reached_found problem (choice depth a.piece) a.best zero_reached
    (All-head (λ (x : PieceAnswer). IsSoundAnswer problem depth x) a answers sound).found)
    (reached_greatest problem depth answers zero_reached (All-tail (λ (x : PieceAnswer). IsSoundAnswer problem depth x) a answers sound))

pub reached_zero : (problem : ProblemState) (selection : List Bool) (welfare : ℤ) → IsEligible problem selection welfare → pos 0 ≤ℤ welfare → IsReached problem 0
reached_zero problem selection welfare e h = record { selection = selection; welfare = welfare; eligible = e; reaches = h }

-- no value read above a value that is reached
pub all_reached : (problem : ProblemState) (answers : List PieceAnswer) (value : ℕ) → IsReached problem value
    → All (λ (a : PieceAnswer). a.incumbent_read ≤ value) answers → AreReached problem answers
all_reached problem answers value r all =
    All-weaker (λ (a : PieceAnswer). a.incumbent_read ≤ value) (λ (a : PieceAnswer). IsReached problem a.incumbent_read)
    (λ (a : PieceAnswer) (h : a.incumbent_read ≤ value). reached_less problem value a.incumbent_read h r) answers all

-- ---- the limit on nodes

-- a value that is reached is no greater than the result's welfare
reached_at_most : (problem : ProblemState) (value : ℕ) (b : Solution) → IsReached problem value → IsResult problem b.selection (pos b.welfare)
    → value ≤ b.welfare
reached_at_most problem value b r result =
    let reaches = r.reaches in let below = result.others r.selection r.welfare r.eligible in let most = below.by_welfare in
    omega (arith, ints, reaches, most)

-- the limit allows as many nodes as the piece of an answer that is done needs
pub answer_needed : (problem : ProblemState) (prefix : List Bool) (undecided_count node_limit visited read : ℕ) (done : Bool) (b : Solution)
    → (node_limit < node_count undecided_count → IsSpent problem prefix undecided_count 0 node_limit visited read done) → done ≡ true → IsReached problem read
    → IsResult problem b.selection (pos b.welfare) → HasNeeded problem prefix undecided_count b.welfare node_limit
answer_needed problem prefix undecided_count node_limit visited read done b spent is reached result = elim (cases_lt node_limit (node_count undecided_count)) [
  | inl few ↦
      (let s = spent few in
      needed_more problem prefix undecided_count read b.welfare visited node_limit (reached_at_most problem read b reached result) s.within (s.needed is))
  | inr many ↦ all_needed problem prefix undecided_count b.welfare node_limit (omega (arith, many))
]

pub limit_needed : (problem : ProblemState) (depth node_limit : ℕ) (answers : List PieceAnswer) (b : Solution)
    → All (λ (a : PieceAnswer). IsWorked problem depth node_limit a) answers → AreAnswered problem depth answers
    → IsResult problem b.selection (pos b.welfare) → LimitHasNeeded problem depth node_limit b.welfare
limit_needed problem depth node_limit answers b worked are result piece less =
    let found = are.each piece less in let undecided_count = length problem.blocks - depth in
    let work = All-contains (λ (a : PieceAnswer). IsWorked problem depth node_limit a) answers found.0 worked found.1 in
    let done = All-contains (λ (a : PieceAnswer). a.done ≡ true) answers found.0 are.done found.1 in
    subst (λ (n : ℕ). HasNeeded problem (choice depth n) undecided_count b.welfare node_limit) found.2
    (answer_needed problem (choice depth found.0.piece) undecided_count node_limit found.0.visited found.0.incumbent_read found.0.done b work.spent done work.reached result)
