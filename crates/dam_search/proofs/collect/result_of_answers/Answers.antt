-- If each piece has one answer, together they give the answer of the search.
use Rattle.dam_search.proofs.Common.{ℕ, ◌^◌, ◌<◌, subst, AreOneEach}
use Rattle.dam_search.proofs.Answers.{all_in_cutting, conclusive, least_is}
use Rattle.dam_search.proofs.Collecting.{limit_needed}
use Rattle.dam_search.proofs.collect.result_of_answers.Goals as goal

pub first_faulty-requires-clause-in_cutting : goal.first_faulty-requires-clause-in_cutting
first_faulty-requires-clause-in_cutting g c =
    all_in_cutting c.args.problem.now c.args.depth c.args.node_limit c.piece_count.result c.args.answers.now
    c.piece_count.ensures.value c.piece_count.ensures.few
    c.requires.worked

pub returns-in-Some-clause-searched : goal.returns-in-Some-clause-searched
returns-in-Some-clause-searched g c one =
    let faulty = c.in-Some.ensures in
    faulty.1.faulty (one c.in-Some.piece (subst (λ (n : ℕ). c.in-Some.piece < n) c.piece_count.ensures.value faulty.0))

pub returns-in-Some-least_unfinished-clause-searched : goal.returns-in-Some-least_unfinished-clause-searched
returns-in-Some-least_unfinished-clause-searched g c one =
    least_is c.args.problem.now c.args.depth c.args.node_limit c.args.answers.now c.in-Some-least_unfinished.answer c.requires.worked one
    c.in-Some-least_unfinished.ensures

pub unreachable-requires : goal.unreachable-requires
unreachable-requires g c =
    let problem = c.args.problem.now in let depth = c.args.depth in let answers = c.args.answers.now in
    let one : AreOneEach answers (2 ^ depth) = subst (λ (n : ℕ). AreOneEach answers n) c.piece_count.ensures.value c.in_default.ensures in
    let are = conclusive problem depth c.args.node_limit answers c.periods-invariant.ensures.valid c.requires.depth c.requires.worked one
    c.in_default-least_unfinished.ensures in
    c.conclusive_answers_give_result.ensures.found problem depth answers are c.in-None.ensures

pub returns-clause-searched : goal.returns-clause-searched
returns-clause-searched g c one =
    let problem = c.args.problem.now in let depth = c.args.depth in let answers = c.args.answers.now in
    let best = c.in-Some-highest_found.best in
    let are = conclusive problem depth c.args.node_limit answers c.periods-invariant.ensures.valid c.requires.depth c.requires.worked one
    c.in_default-least_unfinished.ensures in
    let result = c.conclusive_answers_give_result.ensures.result problem depth answers best are c.in-Some-highest_found.ensures in
    (result, limit_needed problem depth c.args.node_limit answers best c.requires.worked are.answered result)
