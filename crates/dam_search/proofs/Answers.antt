-- One answer more changes the highest selection that was found.
use Rattle.dam_search.proofs.Common.{◌≡◌, ◌≢◌, ℕ, ◌+◌, ◌-◌, ◌^◌, ◌<◌, ◌≤◌, ◌⊎◌, inl, inr, Bool, true, false, cond, ◌==◌, Option, Some, None, List, [], ◌∷◌}
use Rattle.dam_search.proofs.Common.{◌++◌, length, take, slice_index_or, slice_set, replicate, ◌∙◌, ap, sym, subst, refl, arith, All, nat_tests, All-push}
use Rattle.dam_search.proofs.Common.{All-weaker, cases_lt, eqb-true, length-set, length-replicate, get_or-set_other, Solution, ProblemState, IsProblem}
use Rattle.dam_search.proofs.Common.{PieceAnswer, choice, Rises, node_count, IsSound, IsSpent, IsWorked, answers_about, AreOneEach, IsLong, IsHighestFound}
use Rattle.dam_search.proofs.Common.{most_pieces}
use Rattle.std.specs.List.{Contains, count_by}
use Rattle.std.proofs.lemmas.List.Elements.{All-contains, Contains-push, Contains-append_left, Contains-append_right}
use Rattle.std.proofs.lemmas.List.Sums.{sum_by-append, count_by_more_yes, count_by_more_no}
use Rattle.std.proofs.lemmas.List.{get_or-replicate}
use Rattle.std.proofs.lemmas.Grind.{get_or-set_at}
use Rattle.dam_search.specs.Piece.{live_nodes}
use Rattle.dam_search.specs.Search.{IsFinished, IsUnfinished}
use Rattle.dam_search.specs.Answer.{AreAnswered, AreConclusive}
use Rattle.dam_search.specs.inside.Collect.{AreAnswerCounts, IsLeastUnfinished}
use Rattle.dam_search.proofs.Ranks.{IsTransitive, rises_twice}

-- ---- the highest that was found

pub long_from : (best next result : Option Solution) → IsLong best → IsLong next → (result ≡ best) ⊎ (result ≡ next) → IsLong result
long_from best next result l m (inl e) = subst IsLong (sym e) l
long_from best next result l m (inr e) = subst IsLong (sym e) m

-- the selections that the answers found rank at or below the highest
below_highest : (answers : List PieceAnswer) (best : Option Solution) → IsHighestFound answers best
    → All (λ (x : PieceAnswer). Rises x.best best) answers
below_highest answers None h = All-weaker (λ (x : PieceAnswer). x.best ≡ None) (λ (x : PieceAnswer). Rises x.best None)
    (λ (x : PieceAnswer) (e : x.best ≡ None). subst (λ (o : Option Solution). Rises o None) (sym e) tt) answers h
below_highest answers (Some b) h = h.others

no_more : (o : Option Solution) → Rises o None → o ≡ None
no_more None h = refl
no_more (Some b) h = absurd h

-- one of the answers found it
among_highest : (answers : List PieceAnswer) (b : Solution) (best : Option Solution) → best ≡ Some b → IsHighestFound answers best
    → (a : PieceAnswer) × Contains answers a × (a.best ≡ Some b)
among_highest answers b best e h = let k = subst (λ (o : Option Solution). IsHighestFound answers o) e h in k.among

-- the answers so far and the next one
everyone : (answers : List PieceAnswer) (a : PieceAnswer) (best result : Option Solution) → IsTransitive
    → All (λ (x : PieceAnswer). IsLong x.best) answers → IsLong best → IsLong result → IsHighestFound answers best
    → Rises best result → Rises a.best result → All (λ (x : PieceAnswer). Rises x.best result) (answers ++ a ∷ [])
everyone answers a best result transitive long lb lr h before next =
    All-push (λ (x : PieceAnswer). Rises x.best result) answers a
    (λ k d l. rises_twice (slice_index_or answers k d).best best result transitive (long k d l) lb lr
    (below_highest answers best h k d l) before) next

pub highest_step : (answers : List PieceAnswer) (a : PieceAnswer) (best result : Option Solution) → IsTransitive
    → All (λ (x : PieceAnswer). IsLong x.best) answers → IsLong best → IsLong result → IsHighestFound answers best
    → (result ≡ best) ⊎ (result ≡ a.best) → Rises best result → Rises a.best result → IsHighestFound (answers ++ a ∷ []) result
highest_step answers a best None transitive long lb lr h either before next =
    let all = everyone answers a best None transitive long lb lr h before next in
    All-weaker (λ (x : PieceAnswer). Rises x.best None) (λ (x : PieceAnswer). x.best ≡ None)
    (λ (x : PieceAnswer) (r : Rises x.best None). no_more x.best r) (answers ++ a ∷ []) all
highest_step answers a best (Some b) transitive long lb lr h either before next = record {
  among = elim either [
    | inl e ↦ (let some = among_highest answers b best (sym e) h in (some.0, Contains-append_left answers (a ∷ []) some.0 some.1, some.2))
    | inr e ↦ (a, Contains-push answers a, sym e)
  ];
  others = everyone answers a best (Some b) transitive long lb lr h before next;
}

-- ---- one answer about each piece

count_by-cons : (p : PieceAnswer → Bool) (a : PieceAnswer) (answers : List PieceAnswer)
    → count_by p (a ∷ answers) ≡ cond (p a) 1 0 + count_by p answers
count_by-cons p a answers = let f : PieceAnswer → ℕ = λ x. cond (p x) 1 0 in let e = sum_by-append f (a ∷ []) answers in omega (arith, e)

counted : (p : PieceAnswer → Bool) (answers : List PieceAnswer) → 0 < count_by p answers
    → (a : PieceAnswer) × Contains answers a × (p a ≡ true)
counted p [] h = absurd (omega arith)
counted p (a ∷ answers) h =
    elim (p a) as (λ b. p a ≡ b → (x : PieceAnswer) × Contains (a ∷ answers) x × (p x ≡ true)) [
      | true ↦ λ e. (a, Contains-append_left (a ∷ []) answers a (Contains-push [] a), e)
      | false ↦ λ e.
          (let rest : 0 < count_by p answers = omega (arith, h, count_by-cons p a answers, ap {B = ℕ} (λ (b : Bool). cond b 1 0) e) in
          let found = counted p answers rest in
          (found.0, Contains-append_right (a ∷ []) answers found.0 found.1, found.2))
    ] refl

pub answered : (problem : ProblemState) (depth node_limit : ℕ) (answers : List PieceAnswer)
    → All (λ (a : PieceAnswer). IsWorked problem depth node_limit a) answers
    → AreOneEach answers (2 ^ depth) → All (λ (a : PieceAnswer). a.done ≡ true) answers → AreAnswered problem depth answers
answered problem depth node_limit answers worked one done = record {
  sound = λ k d l. (worked k d l).sound;
  done = done;
  each = λ piece l.
      (let some : 0 < answers_about answers piece = omega (arith, one piece l) in
      let found = counted (λ (a : PieceAnswer). a.piece == piece) answers some in
      (found.0, found.1, eqb-true found.0.piece piece found.2));
}

-- the answers of the workers settle the result once each piece has one, all of them done
pub conclusive : (problem : ProblemState) (depth node_limit : ℕ) (answers : List PieceAnswer) → IsProblem problem → depth ≤ length problem.blocks
    → All (λ (a : PieceAnswer). IsWorked problem depth node_limit a) answers → AreOneEach answers (2 ^ depth)
    → All (λ (a : PieceAnswer). a.done ≡ true) answers → AreConclusive problem depth answers
conclusive problem depth node_limit answers is deep worked one done = record {
  is_problem = is;
  in_blocks = deep;
  answered = answered problem depth node_limit answers worked one done;
  reached = λ k d l. (worked k d l).reached;
}

-- ---- the pieces before the least unfinished one

done_before : (piece least : ℕ) (done : Bool) → piece < least → (done ≡ false → least ≤ piece) → done ≡ true
done_before piece least true less after = refl
done_before piece least false less after = absurd (let most = after refl in omega (arith, less, most))

finished_before : (problem : ProblemState) (depth node_limit : ℕ) (answers : List PieceAnswer) (u : PieceAnswer)
    → node_limit < node_count (length problem.blocks - depth) → u.piece < 2 ^ depth
    → All (λ (a : PieceAnswer). IsWorked problem depth node_limit a) answers → AreOneEach answers (2 ^ depth)
    → All (λ (a : PieceAnswer). a.done ≡ false → u.piece ≤ a.piece) answers
    → (lesser : ℕ) → lesser < u.piece → IsFinished problem depth node_limit lesser
finished_before problem depth node_limit answers u few in_cutting worked one least lesser less =
    let some : 0 < answers_about answers lesser = omega (arith, one lesser (omega (arith, less, in_cutting))) in
    let found = counted (λ (a : PieceAnswer). a.piece == lesser) answers some in
    let a = found.0 in
    let is : a.piece ≡ lesser = eqb-true a.piece lesser found.2 in
    let work = All-contains (λ (x : PieceAnswer). IsWorked problem depth node_limit x) answers a worked found.1 in
    let after = All-contains (λ (x : PieceAnswer). x.done ≡ false → u.piece ≤ x.piece) answers a least found.1 in
    let done = done_before a.piece u.piece a.done (omega (arith, is, less)) after in
    subst (λ (n : ℕ). IsFinished problem depth node_limit n) is (record {
      best = a.best;
      incumbent_read = a.incumbent_read;
      visited = a.visited;
      sound = subst (λ (d : Bool). IsSound problem (choice depth a.piece) a.best a.incumbent_read d) done work.sound;
      reached = work.reached;
      spent = subst (λ (d : Bool). IsSpent problem (choice depth a.piece) (length problem.blocks - depth) 0 node_limit a.visited a.incumbent_read d)
          done (work.spent few);
    })

below_bound : (node_limit bound : ℕ) (done : Bool) → done ≡ false → (bound ≤ node_limit → done ≡ true) → node_limit < bound
below_bound node_limit bound true e enough = absurd cc
below_bound node_limit bound false e enough = elim (cases_lt node_limit bound) [
  | inl few ↦ few
  | inr many ↦ absurd (let no = enough (omega (arith, many)) in cc)
]

pub least_is : (problem : ProblemState) (depth node_limit : ℕ) (answers : List PieceAnswer) (u : PieceAnswer)
    → All (λ (a : PieceAnswer). IsWorked problem depth node_limit a) answers → AreOneEach answers (2 ^ depth)
    → IsLeastUnfinished answers (Some u) → IsUnfinished problem depth node_limit u.piece u.visited
least_is problem depth node_limit answers u worked one least =
    let undecided_count = length problem.blocks - depth in
    let work = All-contains (λ (x : PieceAnswer). IsWorked problem depth node_limit x) answers u worked least.0 in
    let few = below_bound node_limit (node_count undecided_count) u.done least.1 work.done in
    let spent = work.spent few in
    record {
      in_cutting = work.in_cutting;
      limit_met = spent.unfinished least.1;
      over_all = few;
      over_live = below_bound node_limit (live_nodes problem 0 (choice depth u.piece) undecided_count) u.done least.1
          (spent.done_by_live 0 (omega arith));
      least = finished_before problem depth node_limit answers u few work.in_cutting worked one least.2;
    }

-- ---- the counts of the answers about each piece

pub all_in_cutting : (problem : ProblemState) (depth node_limit pieces : ℕ) (answers : List PieceAnswer) → pieces ≡ 2 ^ depth
    → pieces ≤ most_pieces
    → All (λ (a : PieceAnswer). IsWorked problem depth node_limit a) answers → All (λ (a : PieceAnswer). a.piece < most_pieces) answers
all_in_cutting problem depth node_limit pieces answers e few worked k d l =
    let in_cutting = (worked k d l).in_cutting in
    omega (arith, e, few, in_cutting)

pub none_counted : (answers : List PieceAnswer) → AreAnswerCounts (take 0 answers) (replicate most_pieces 0)
none_counted answers = record {
  long = length-replicate {A = ℕ} most_pieces 0;
  each = λ piece d h. get_or-replicate {A = ℕ} most_pieces piece 0 d h;
}

is_other : (m n : ℕ) → (m == n) ≡ false → n ≢ m
is_other m n e f = grind (arith, nat_tests, e, f)

-- the answer at the place is counted, and no other
pub counts_step : (answers : List PieceAnswer) (i : ℕ) (counts : List ℕ) (a : PieceAnswer) → i < length answers
    → a ≡ slice_index_or answers i a
    → a.piece < most_pieces → AreAnswerCounts (take i answers) counts
    → AreAnswerCounts (take (i + 1) answers) (slice_set counts a.piece (slice_index_or counts a.piece 0 + 1))
counts_step answers i counts a inside is few are = record {
  long = length-set counts a.piece (slice_index_or counts a.piece 0 + 1) ∙ are.long;
  each = λ piece d h. each piece d h (a.piece == piece) refl;
}
  where
    next : ℕ
    next = slice_index_or counts a.piece 0 + 1

    is_about : ℕ → PieceAnswer → Bool
    is_about piece x = x.piece == piece

    each : (piece d : ℕ) → piece < most_pieces → (same : Bool) → (a.piece == piece) ≡ same
        → slice_index_or (slice_set counts a.piece next) piece d ≡ answers_about (take (i + 1) answers) piece
    each piece d h true e =
        let same : piece ≡ a.piece = sym (eqb-true a.piece piece e) in
        let here : is_about piece (slice_index_or answers i a) ≡ true = ap (λ (x : PieceAnswer). x.piece == piece) (sym is) ∙ e in
        let stands = get_or-set_at counts a.piece piece next d same (subst (λ (n : ℕ). a.piece < n) (sym are.long) few) in
        let before : slice_index_or counts a.piece 0 ≡ answers_about (take i answers) piece =
        are.each a.piece 0 few ∙ ap (λ (n : ℕ). answers_about (take i answers) n) (sym same) in
        stands ∙ ap (λ (n : ℕ). n + 1) before ∙ sym (count_by_more_yes (is_about piece) answers i a inside here)
    each piece d h false e =
        let here : is_about piece (slice_index_or answers i a) ≡ false = ap (λ (x : PieceAnswer). x.piece == piece) (sym is) ∙ e in
        get_or-set_other counts a.piece piece next d (is_other a.piece piece e) ∙ are.each piece d h
        ∙ sym (count_by_more_no (is_about piece) answers i a inside here)
