-- What accepting or rejecting a block rules out, block by block.
use Rattle.dam_search.proofs.Common.{◌≡◌, ◌≢◌, ◌⊎◌, ℕ, zero, suc, ℤ, ◌==◌, Bool, true, false, not, Option, Some, None, List, [], ◌∷◌, length, replicate}
use Rattle.dam_search.proofs.Common.{slice_set, ap, ◌∙◌, sym, subst, refl, inl, inr, cases_eq, eq-eqb, get_or-set_other, most_blocks, Block, ProblemState}
use Rattle.dam_search.proofs.Common.{IsProblem, accepts, IsAdmissible, IsEligible, AreLimits, NetLimit, Excludes}
use Rattle.std.specs.List.{slice_get}
use Rattle.std.proofs.lemmas.Bool.{and_parts}
use Rattle.dam_blocks.specs.Selection.{empty_selection, are_of_one_group}
use Rattle.dam_blocks.specs.Family.{descends}
use Rattle.dam_bound.specs.Relaxed.{without_rows}
use Rattle.dam_search.specs.declared.conflicts.Conflicts.{Conflicts}
use Rattle.dam_search.specs.inside.Conflicts.{AcceptsAll, AcceptsNone, Needs, IsNeededBy, AreConflicts, IsSetOf, are_two_of_group, is_other_of_group}
use Rattle.dam_search.proofs.Sets.{accepts-none, passes_test}

-- what the laws of admissible selections say
pub record ConflictLaws : Type 0 where
  pub ancestors : (problem : ProblemState) (selection : List Bool) (i j : ℕ) → IsProblem problem → IsAdmissible problem.blocks selection
      → descends problem.blocks i j ≡ true → accepts selection j ≡ true → accepts selection i ≡ true
  pub group : (blocks : List Block) (selection : List Bool) (i j : ℕ) (a b : Block) → IsAdmissible blocks selection
      → slice_get blocks i ≡ Some a → slice_get blocks j ≡ Some b → i ≢ j → are_of_one_group a b ≡ true → accepts selection i ≡ true
      → accepts selection j ≡ false

-- ---- rows
-- an element of a list in which one was replaced
at_set : (rows : List (List Bool)) (i j : ℕ) (row found : List Bool) → slice_get (slice_set rows i row) j ≡ Some found
    → ((i ≡ j) × (row ≡ found)) ⊎ (slice_get rows j ≡ Some found)
at_set [] i j row found e = cc
at_set (r ∷ rows) zero zero row found e = inl (refl, cc)
at_set (r ∷ rows) zero (suc j) row found e = inr e
at_set (r ∷ rows) (suc i) zero row found e = inr e
at_set (r ∷ rows) (suc i) (suc j) row found e =
    elim (at_set rows i j row found e) [ inl here ↦ inl (ap suc here.0, here.1) | inr else ↦ inr else ]

at_replicate : (n j : ℕ) (row found : List Bool) → slice_get (replicate n row) j ≡ Some found → row ≡ found
at_replicate zero j row found e = cc
at_replicate (suc n) zero row found e = cc
at_replicate (suc n) (suc j) row found e = at_replicate n j row found e

-- a fact about each row
abbrev pub AreEach : (ℕ → List Bool → Type 0) → List (List Bool) → Type 0
AreEach P rows = (place : ℕ) (places : List Bool) → slice_get rows place ≡ Some places → P place places

one_row_more : (P : ℕ → List Bool → Type 0) (rows after : List (List Bool)) (place : ℕ) (row : List Bool) → after ≡ slice_set rows place row
    → P place row → AreEach P rows → AreEach P after
one_row_more P rows after place row e holds each at found stands =
    elim (at_set rows place at row found (ap (λ (rs : List (List Bool)). slice_get rs at) (sym e) ∙ stands)) [
      | inl here ↦ subst (λ (m : ℕ). P m found) here.0 (subst (λ (r : List Bool). P place r) here.1 holds)
      | inr before ↦ each at found before
    ]

-- ---- no rows yet
nothing_accepted : (j n : ℕ) (found : List Bool) → slice_get (replicate most_blocks empty_selection) n ≡ Some found
    → accepts found j ≡ true → ⊥
nothing_accepted j n found e on =
    let off = ap (λ (r : List Bool). accepts r j) (sym (at_replicate most_blocks n empty_selection found e)) ∙ accepts-none most_blocks j in
    cc

pub no_conflicts : (problem : ProblemState) (conflicts : Conflicts) → conflicts.needs ≡ replicate most_blocks empty_selection
    → conflicts.needed_by ≡ replicate most_blocks empty_selection → conflicts.excludes ≡ replicate most_blocks empty_selection
    → AreConflicts problem conflicts
no_conflicts problem conflicts e f h = record {
  needs = λ place places at selection welfare eligible on j among.
      absurd (nothing_accepted j place places (ap (λ (rs : List (List Bool)). slice_get rs place) (sym e) ∙ at) among);
  needed_by = λ place places at selection welfare eligible j among on.
      absurd (nothing_accepted j place places (ap (λ (rs : List (List Bool)). slice_get rs place) (sym f) ∙ at) among);
  excludes = λ place places at selection welfare eligible on j among.
      absurd (nothing_accepted j place places (ap (λ (rs : List (List Bool)). slice_get rs place) (sym h) ∙ at) among);
}

-- ---- the rows of one block more
needs_ancestors : ConflictLaws → (problem : ProblemState) (place : ℕ) (row : List Bool) → IsProblem problem
    → IsSetOf (length problem.blocks) (λ at. descends problem.blocks at place) row → Needs problem place row
needs_ancestors laws problem place row is set selection welfare eligible on j among =
    laws.ancestors problem selection j place is eligible.admissible
    (passes_test (length problem.blocks) (λ at. descends problem.blocks at place) row j set among) on

needed_by_descendants : ConflictLaws → (problem : ProblemState) (place : ℕ) (row : List Bool) → IsProblem problem
    → IsSetOf (length problem.blocks) (λ at. descends problem.blocks place at) row → IsNeededBy problem place row
needed_by_descendants laws problem place row is set selection welfare eligible j among on =
    laws.ancestors problem selection place j is eligible.admissible
    (passes_test (length problem.blocks) (λ at. descends problem.blocks place at) row j set among) on

apart_from : (at place : ℕ) → not (at == place) ≡ true → place ≢ at
apart_from at place e same = let is = eq-eqb at place (sym same) in cc

no_other : ConflictLaws → (blocks : List Block) (selection : List Bool) (place at : ℕ) (o p : Option Block) → IsAdmissible blocks selection
    → slice_get blocks place ≡ o → slice_get blocks at ≡ p → place ≢ at → are_two_of_group o p ≡ true → accepts selection place ≡ true
    → accepts selection at ≡ false
no_other laws blocks selection place at None p is e f apart two on = cc
no_other laws blocks selection place at (Some a) None is e f apart two on = cc
no_other laws blocks selection place at (Some a) (Some b) is e f apart two on = laws.group blocks selection place at a b is e f apart two on

excludes_others : ConflictLaws → (problem : ProblemState) (place : ℕ) (row : List Bool)
    → IsSetOf (length problem.blocks) (λ at. is_other_of_group problem.blocks place at) row → Excludes problem place row
excludes_others laws problem place row set selection welfare eligible on j among =
    let is = and_parts (not (j == place)) (are_two_of_group (slice_get problem.blocks place) (slice_get problem.blocks j))
    (passes_test (length problem.blocks) (λ at. is_other_of_group problem.blocks place at) row j set among) in
    no_other laws problem.blocks selection place j (slice_get problem.blocks place) (slice_get problem.blocks j) eligible.admissible refl refl
    (apart_from j place is.0) is.1 on

-- ---- rivals
pub not_true : (x : Bool) → (x ≡ true → ⊥) → x ≡ false
not_true true never = absurd (never refl)
not_true false never = refl

-- the rows of a problem have no part in what is eligible
without_rows_eligible : (problem : ProblemState) (selection : List Bool) (welfare : ℤ) → IsEligible (without_rows problem) selection welfare
    → IsEligible problem selection welfare
without_rows_eligible problem selection welfare is = record {
  as_long = is.as_long;
  admissible = is.admissible;
  prices = is.prices;
  are_prices = is.are_prices;
  no_loss = is.no_loss;
  welfare_is = is.welfare_is;
}

with_rows_eligible : (problem : ProblemState) (selection : List Bool) (welfare : ℤ) → IsEligible problem selection welfare
    → IsEligible (without_rows problem) selection welfare
with_rows_eligible problem selection welfare is = record {
  as_long = is.as_long;
  admissible = is.admissible;
  prices = is.prices;
  are_prices = is.are_prices;
  no_loss = is.no_loss;
  welfare_is = is.welfare_is;
}

pub excludes_without_rows : (problem rowless : ProblemState) (place : ℕ) (places : List Bool) → rowless ≡ without_rows problem
    → Excludes problem place places → Excludes rowless place places
excludes_without_rows problem rowless place places same is =
    subst (λ (p : ProblemState). Excludes p place places) (sym same)
    (λ selection welfare eligible. is selection welfare (without_rows_eligible problem selection welfare eligible))

pub excludes_with_rows : (problem rowless : ProblemState) (place : ℕ) (places : List Bool) → rowless ≡ without_rows problem
    → Excludes rowless place places → Excludes problem place places
excludes_with_rows problem rowless place places same is selection welfare eligible =
    (subst (λ (p : ProblemState). Excludes p place places) same is) selection welfare (with_rows_eligible problem selection welfare eligible)

pub group_excluded : ConflictLaws → (problem : ProblemState) (blocks : List Block) (place : ℕ) (row : List Bool) → blocks ≡ problem.blocks
    → IsSetOf (length blocks) (λ at. is_other_of_group blocks place at) row → Excludes problem place row
group_excluded laws problem blocks place row same set =
    excludes_others laws problem place row
    (subst (λ (bs : List Block). IsSetOf (length bs) (λ at. is_other_of_group bs place at) row) same set)

pub as_many_blocks : (problem rowless : ProblemState) (blocks : List Block) → rowless ≡ without_rows problem → blocks ≡ problem.blocks
    → length blocks ≡ length rowless.blocks
as_many_blocks problem rowless blocks same is =
    ap (λ (bs : List Block). length bs) is ∙ sym (ap (λ (p : ProblemState). length p.blocks) same)

-- a rival more
pub rival_more : (problem : ProblemState) (place at : ℕ) (places after : List Bool) → after ≡ slice_set places at true
    → ((selection : List Bool) (welfare : ℤ) → IsEligible problem selection welfare → accepts selection place ≡ true → accepts selection at ≡ false)
    → Excludes problem place places → Excludes problem place after
rival_more problem place at places after e rival is selection welfare eligible on j among = elim (cases_eq j at) [
  | inl same ↦ ap (accepts selection) same ∙ rival selection welfare eligible on
  | inr apart ↦
      is selection welfare eligible on j
      (sym (get_or-set_other places at j true false apart) ∙ ap (λ (r : List Bool). accepts r j) (sym e) ∙ among)
]

pub conflicts_more : ConflictLaws → (problem : ProblemState) (blocks : List Block) (before after : Conflicts) (place : ℕ)
    (ancestors descendants others : List Bool) → IsProblem problem → blocks ≡ problem.blocks
    → IsSetOf (length blocks) (λ at. descends blocks at place) ancestors
    → IsSetOf (length blocks) (λ at. descends blocks place at) descendants
    → Excludes problem place others
    → after.needs ≡ slice_set before.needs place ancestors → after.needed_by ≡ slice_set before.needed_by place descendants
    → after.excludes ≡ slice_set before.excludes place others
    → AreConflicts problem before → AreConflicts problem after
conflicts_more laws problem blocks before after place ancestors descendants others is same a d o e f h are = record {
  needs = one_row_more (Needs problem) before.needs after.needs place ancestors e
      (needs_ancestors laws problem place ancestors is
      (subst (λ (bs : List Block). IsSetOf (length bs) (λ at. descends bs at place) ancestors) same a)) are.needs;
  needed_by = one_row_more (IsNeededBy problem) before.needed_by after.needed_by place descendants f
      (needed_by_descendants laws problem place descendants is
      (subst (λ (bs : List Block). IsSetOf (length bs) (λ at. descends bs place at) descendants) same d)) are.needed_by;
  excludes = one_row_more (Excludes problem) before.excludes after.excludes place others h o are.excludes;
}

-- ---- what a row forbids
pub lacks_one : (problem : ProblemState) (conflicts : Conflicts) (place j : ℕ) (places rejected selection : List Bool) (welfare : ℤ)
    → AreConflicts problem conflicts → slice_get conflicts.needs place ≡ Some places → accepts places j ≡ true → accepts rejected j ≡ true
    → IsEligible problem selection welfare → AcceptsNone rejected selection → accepts selection place ≡ false
lacks_one problem conflicts place j places rejected selection welfare are at among off eligible none =
    not_true (accepts selection place) (λ on.
    (let here = are.needs place places at selection welfare eligible on j among in let there = none j off in cc))

pub beside_one : (problem : ProblemState) (conflicts : Conflicts) (place j : ℕ) (places accepted selection : List Bool) (welfare : ℤ)
    → AreConflicts problem conflicts → slice_get conflicts.excludes place ≡ Some places → accepts places j ≡ true → accepts accepted j ≡ true
    → IsEligible problem selection welfare → AcceptsAll accepted selection → accepts selection place ≡ false
beside_one problem conflicts place j places accepted selection welfare are at among on_too eligible all =
    not_true (accepts selection place) (λ on.
    (let here = are.excludes place places at selection welfare eligible on j among in let there = all j on_too in cc))

pub needed_by_one : (problem : ProblemState) (conflicts : Conflicts) (place j : ℕ) (places accepted selection : List Bool) (welfare : ℤ)
    → AreConflicts problem conflicts → slice_get conflicts.needed_by place ≡ Some places → accepts places j ≡ true → accepts accepted j ≡ true
    → IsEligible problem selection welfare → AcceptsAll accepted selection → accepts selection place ≡ true
needed_by_one problem conflicts place j places accepted selection welfare are at among on_too eligible all =
    are.needed_by place places at selection welfare eligible j among (all j on_too)

-- ---- limits
-- limits of the problem without its rows are those of the problem
pub limits_with_rows : (problem rowless : ProblemState) (limits : List NetLimit) → rowless ≡ without_rows problem → AreLimits rowless limits
    → AreLimits problem limits
limits_with_rows problem rowless limits same are = record {
  many = are.many;
  each = λ k l.
      (let is = are.each k l in record {
        long = is.long;
        small = is.small;
        slack_is = is.slack_is;
        keeps = λ selection welfare e. is.keeps selection welfare (subst (λ (p : ProblemState). IsEligible p selection welfare) (sym same) (with_rows_eligible problem selection welfare e));
      });
}
