-- The walk from the decisions of the piece, with nothing found before.
use Rattle.dam_search.proofs.Common.{◌≡◌, inl, inr, ℕ, ◌-◌, List, Bool, true, Option, None, length, ◌∙◌, ap, sym, subst, arith, Solution, ProblemState}
use Rattle.dam_search.proofs.Common.{choice, IsFind, IsSound, IsSpent}
use Rattle.dam_search.specs.inside.PrefixWalk.{Finds, Covers}
use Rattle.dam_search.proofs.Prefixes.{length-choice}
use Rattle.dam_search.proofs.Walks.{spent_from}
use Rattle.dam_search.proofs.prefix_walk.PrefixWalk.walk_by_prefixes.Goals as goal

as_long : (prefix : List Bool) (depth piece : ℕ) → prefix ≡ choice depth piece → length prefix ≡ depth
as_long prefix depth piece e = ap (λ (xs : List Bool). length xs) e ∙ length-choice depth piece

sound : (problem : ProblemState) (prefix : List Bool) (best : Option Solution) (read : ℕ) (done : Bool) → Finds problem prefix None best
    → (done ≡ true → Covers problem prefix best read) → IsSound problem prefix best read done
sound problem prefix best read done f covers = record {
  found = elim f.found [ inl e ↦ subst (λ (o : Option Solution). IsFind problem prefix o) (sym e) tt | inr g ↦ g ];
  others = covers;
}

pub visit-done-requires-clause-depth : goal.visit-done-requires-clause-depth
visit-done-requires-clause-depth g c =
    let long = as_long c.of_piece-prefix.result c.args.depth c.args.piece c.of_piece-prefix.ensures in
    omega (arith, long, c.requires.depth)

pub visit-done-requires-clause-going : goal.visit-done-requires-clause-going
visit-done-requires-clause-going g c = record { within = omega arith; read = omega arith; best = tt; offered = omega arith }

pub returns-clause-sound : goal.returns-clause-sound
returns-clause-sound g c =
    let state = c.visit-done.new.state in
    subst (λ (prefix : List Bool). IsSound c.args.self.now.problem.now prefix state.best state.incumbent_read c.visit-done.result) c.of_piece-prefix.ensures
    (sound c.args.self.now.problem.now c.of_piece-prefix.result state.best state.incumbent_read c.visit-done.result c.visit-done.ensures.walked.finds
    c.visit-done.ensures.walked.covers)

pub returns-clause-spent : goal.returns-clause-spent
returns-clause-spent g c =
    let greatest_read = g.I.Incumbent.greatest_read c.args.incumbent.now in let n = length c.args.self.now.problem.now.blocks in
    let long = as_long c.of_piece-prefix.result c.args.depth c.args.piece c.of_piece-prefix.ensures in
    let state = c.visit-done.new.state in let walked = c.visit-done.ensures.walked in
    subst (λ (undecided_count : ℕ). IsSpent c.args.self.now.problem.now (choice c.args.depth c.args.piece) (n - undecided_count) greatest_read c.args.node_limit state.visited
    state.incumbent_read c.visit-done.result) long
    (subst (λ (prefix : List Bool). IsSpent c.args.self.now.problem.now prefix (n - length c.of_piece-prefix.result) greatest_read c.args.node_limit
    state.visited state.incumbent_read c.visit-done.result) c.of_piece-prefix.ensures
    (spent_from c.args.self.now.problem.now c.of_piece-prefix.result (n - length c.of_piece-prefix.result) greatest_read c.args.node_limit state.visited
    state.incumbent_read c.visit-done.result walked.spends walked.needed))

pub returns-clause-read : goal.returns-clause-read
returns-clause-read g c some few =
    let long = as_long c.of_piece-prefix.result c.args.depth c.args.piece c.of_piece-prefix.ensures in
    c.visit-done.ensures.walked.reads.asked some (omega (arith, long, few))

pub returns-clause-unread : goal.returns-clause-unread
returns-clause-unread g c h =
    let long = as_long c.of_piece-prefix.result c.args.depth c.args.piece c.of_piece-prefix.ensures in
    elim h [
      | inl none ↦ c.visit-done.ensures.walked.reads.unvisited none
      | inr full ↦ c.visit-done.ensures.walked.reads.full (omega (arith, long, full))
    ]
