-- The node that decides the blocks of a piece: its open selections are the completions that may be eligible.
use Rattle.dam_search.proofs.Common.{◌≡◌, ℕ, zero, suc, ◌-◌, ◌<◌, ◌≤◌, inl, inr, Bool, true, false, Option, Some, None, List, [], ◌∷◌, ◌++◌, ◌==◌, ◌||◌}
use Rattle.dam_search.proofs.Common.{length, length-append, replicate, drop, ◌∙◌, ap, sym, subst, refl, arith, cases_lt, length-replicate, most_blocks}
use Rattle.dam_search.proofs.Common.{Solution, ProblemState, accepts, padded, choice, IsAdmissible, is_among, IsOpen, AreFree, IsCompletion, IsFind, IsSound}
use Rattle.dam_search.proofs.Common.{AreDecisions}
use Rattle.std.proofs.lemmas.Option.{slice_get_within}
use Rattle.dam_search.specs.inside.PriceWalk.{are_distinct, IsDecisionOrder, IsOpenFind, FindsOpen, CoversOpen}
use Rattle.dam_search.proofs.Ordering.{distinct_parts}
use Rattle.dam_search.proofs.Places.{among_first}
use Rattle.dam_search.proofs.Prefixes.{length-choice}
use Rattle.dam_search.proofs.Sets.{accepts-none}

-- ---- the decisions of the piece

accepts_past : (prefix : List Bool) (n i : ℕ) → length prefix ≤ i → accepts (prefix ++ replicate n false) i ≡ false
accepts_past [] n i h = accepts-none n i
accepts_past (x ∷ prefix) n zero h = absurd (omega (arith, h))
accepts_past (x ∷ prefix) n (suc i) h = accepts_past prefix n i (omega (arith, h))

accepts_front : (prefix rest : List Bool) (i : ℕ) → i < length prefix → accepts (prefix ++ rest) i ≡ accepts prefix i
accepts_front [] rest i h = absurd (omega (arith, h))
accepts_front (x ∷ prefix) rest zero h = refl
accepts_front (x ∷ prefix) rest (suc i) h = accepts_front prefix rest i (omega (arith, h))

long_padded : (prefix : List Bool) → length prefix ≤ most_blocks → length (padded prefix) ≡ most_blocks
long_padded prefix few =
    let parts = length-append prefix (replicate (most_blocks - length prefix) false) in
    let rest = length-replicate (most_blocks - length prefix) false in
    omega (arith, parts, rest, few)

or_right : (a b : Bool) → b ≡ true → (a || b) ≡ true
or_right true b e = refl
or_right false b e = e

free_from : (accepted : List Bool) (order : List ℕ) → are_distinct order ≡ true
    → ((place : ℕ) → is_among place order ≡ true → (place < most_blocks) × (accepts accepted place ≡ false)) → AreFree accepted order
free_from accepted [] distinct h = tt
free_from accepted (place ∷ order) distinct h =
    let here = h place (among_first place order) in
    let parts = distinct_parts (is_among place order) (are_distinct order) distinct in (
      here.0,
      here.1,
      parts.0,
      free_from accepted order parts.1
          (λ other e. h other (or_right (other == place) (is_among other order) e)),
    )

-- ---- the node

pub not_among_before : (depth count : ℕ) (order : List ℕ) (place : ℕ) → IsDecisionOrder depth count order → place < depth → is_among place order ≡ false
not_among_before depth count order place is less = elim (is_among place order) as (λ b. is_among place order ≡ b → b ≡ false) [
  | true ↦ λ e. (let within = is.within place e in let from = within.0 in absurd (omega (arith, from, less)))
  | false ↦ λ e. refl
] refl

pub first_node : (prefix rejected : List Bool) (count : ℕ) (order : List ℕ) → length prefix ≤ count → count ≤ most_blocks
    → IsDecisionOrder (length prefix) count order
    → ((place : ℕ) → accepts rejected place ≡ true → (place < length prefix) × (accepts (padded prefix) place ≡ false))
    → AreDecisions (padded prefix) rejected order
first_node prefix rejected count order deep few is apart = record {
  as_long = long_padded prefix (omega (arith, deep, few));
  free = free_from (padded prefix) order is.distinct
      (λ place e. (let within = is.within place e in let from = within.0 in let to = within.1 in
      (omega (arith, to, few), accepts_past prefix (most_blocks - length prefix) place from)));
  few = is.few;
  apart = λ place e. (let own = apart place e in (own.1, not_among_before (length prefix) count order place is own.0));
}

pub piece_node : (depth piece count : ℕ) (accepted rejected : List Bool) (order : List ℕ) → accepted ≡ padded (choice depth piece) → depth ≤ count
    → count ≤ most_blocks → IsDecisionOrder depth count order
    → ((place : ℕ) → accepts rejected place ≡ true → (place < depth) × (accepts accepted place ≡ false)) → AreDecisions accepted rejected order
piece_node depth piece count accepted rejected order is deep few ordered apart =
    let long = length-choice depth piece in
    subst (λ (xs : List Bool). AreDecisions xs rejected order) (sym is)
    (first_node (choice depth piece) rejected count order (omega (arith, long, deep)) few
    (subst (λ (n : ℕ). IsDecisionOrder n count order) (sym long) ordered)
    (λ place e. (let own = apart place e in let less = own.0 in
    (omega (arith, less, long), subst (λ (xs : List Bool). accepts xs place ≡ false) is own.1))))

-- a list that accepts in front what another does begins with it
begins_with : (prefix selection : List Bool) → length prefix ≤ length selection
    → ((i : ℕ) → i < length prefix → accepts selection i ≡ accepts prefix i) → selection ≡ prefix ++ drop (length prefix) selection
begins_with [] selection long h = refl
begins_with (x ∷ prefix) [] long h = absurd (omega (arith, long))
begins_with (x ∷ prefix) (y ∷ selection) long h =
    ap (λ (b : Bool). b ∷ selection) (h 0 (omega arith))
    ∙ ap (λ (ys : List Bool). x ∷ ys) (begins_with prefix selection (omega (arith, long)) (λ i l. h (suc i) (omega (arith, l))))

open_completion : (prefix selection : List Bool) (count : ℕ) (order : List ℕ) → length prefix ≤ most_blocks
    → IsDecisionOrder (length prefix) count order → IsOpen (padded prefix) order selection → IsCompletion prefix selection
open_completion prefix selection count order few is opened = record {
  as_long = opened.as_long;
  rest = drop (length prefix) selection;
  agrees =
      let long = opened.as_long in
      begins_with prefix selection (omega (arith, few, long))
      (λ i l. opened.agrees i (not_among_before (length prefix) count order i is l)
      ∙ accepts_front prefix (replicate (most_blocks - length prefix) false) i l);
}

-- an admissible completion accepts no place past the last block
completion_open : (problem : ProblemState) (prefix selection : List Bool) (order : List ℕ)
    → IsDecisionOrder (length prefix) (length problem.blocks) order → IsAdmissible problem.blocks selection → IsCompletion prefix selection
    → IsOpen (padded prefix) order selection
completion_open problem prefix selection order is admissible whole = record {
  as_long = whole.as_long;
  agrees = λ place apart. elim (cases_lt place (length prefix)) [
    | inl less ↦
        ap (λ (xs : List Bool). accepts xs place) whole.agrees
        ∙ (accepts_front prefix whole.rest place less ∙ sym (accepts_front prefix (replicate (most_blocks - length prefix) false) place less))
    | inr more ↦ rejected place apart more (accepts selection place) refl ∙ sym (accepts_past prefix (most_blocks - length prefix) place more)
  ];
}
  where
    rejected : (place : ℕ) → is_among place order ≡ false → length prefix ≤ place → (b : Bool) → accepts selection place ≡ b
        → accepts selection place ≡ false
    rejected place apart more true e =
        let allowed = admissible.each place e in
        let inside = slice_get_within problem.blocks place allowed.block allowed.stands in
        let no : true ≡ false = sym (is.whole place more inside) ∙ apart in
        absurd (cc)
    rejected place apart more false e = e

-- ---- the answer

find_completion : (problem : ProblemState) (prefix : List Bool) (order : List ℕ) (best : Option Solution) → length prefix ≤ most_blocks
    → IsDecisionOrder (length prefix) (length problem.blocks) order → IsOpenFind problem (padded prefix) order best → IsFind problem prefix best
find_completion problem prefix order None few is h = tt
find_completion problem prefix order (Some b) few is h =
    (open_completion prefix b.selection (length problem.blocks) order few is h.0, h.1)

pub sound_from : (problem : ProblemState) (prefix : List Bool) (order : List ℕ) (best : Option Solution) (read : ℕ) → length prefix ≤ most_blocks
    → IsDecisionOrder (length prefix) (length problem.blocks) order → FindsOpen problem (padded prefix) order None best
    → CoversOpen problem (padded prefix) order best read → IsSound problem prefix best read true
sound_from problem prefix order best read few is finds covers = record {
  found = elim finds.found [
    | inl e ↦ subst (λ (o : Option Solution). IsFind problem prefix o) (sym e) tt
    | inr h ↦ find_completion problem prefix order best few is h
  ];
  others = λ done selection welfare whole e. covers selection welfare (completion_open problem prefix selection order is e.admissible whole) e;
}

pub piece_sound : (problem : ProblemState) (depth piece : ℕ) (accepted : List Bool) (order : List ℕ) (best : Option Solution) (read : ℕ)
    → accepted ≡ padded (choice depth piece) → depth ≤ most_blocks → IsDecisionOrder depth (length problem.blocks) order
    → FindsOpen problem accepted order None best → CoversOpen problem accepted order best read → IsSound problem (choice depth piece) best read true
piece_sound problem depth piece accepted order best read is few ordered finds covers =
    let long = length-choice depth piece in
    sound_from problem (choice depth piece) order best read (omega (arith, long, few))
    (subst (λ (n : ℕ). IsDecisionOrder n (length problem.blocks) order) (sym long) ordered)
    (subst (λ (xs : List Bool). FindsOpen problem xs order None best) is finds)
    (subst (λ (xs : List Bool). CoversOpen problem xs order best read) is covers)
