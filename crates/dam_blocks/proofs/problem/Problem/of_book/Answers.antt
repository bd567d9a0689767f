-- The book invariant, carried over to the problem of the book.
use Rattle.dam_blocks.proofs.Common.{Vec, List, length, map, ap, sym, ◌∙◌, subst, rules, arith, Step, Block}
use Rattle.dam_blocks.specs.inside.Hindrances.{AreAllHindrances}
use Rattle.dam_blocks.proofs.FromBook.{length-hours_from, problem_made, problem_kept, few_blocks}
use Rattle.dam_blocks.proofs.RowByRow.{few_in_periods}
use Rattle.dam_blocks.proofs.problem.Problem.of_book.Goals as goal

-- the steps of each list
abbrev steps_of : {D : Type 0} → List (Vec Step D) → List (List Step)
steps_of {D} lists = map (λ (steps : Vec Step D). steps.items) lists

pub hours_of-requires : goal.hours_of-requires
hours_of-requires g c =
    let book = c.args.book.now in
    let lists = ap steps_of c.deref.ensures.value
    ∙ c.in_ok-lists.ensures.hourly in
    few_in_periods book.periods book.rows _ lists c.periods.ensures.valid.few_hourly

pub all_hindrances-requires : goal.all_hindrances-requires
all_hindrances-requires g c =
    let few = few_blocks c.args.book.now.rows in
    let limit = c.periods.ensures.valid.few_blocks in
    omega (arith, few, limit, ap length c.deref-2.ensures.value, ap length c.in_ok-lists.ensures.blocks)

-- the hours are those of the book's periods
pub invariant_of-result : goal.invariant_of-result
invariant_of-result g c =
    let book = c.args.book.now in let periods = c.periods.ensures in
    let lists = ap steps_of c.deref.ensures.value
    ∙ c.in_ok-lists.ensures.hourly in
    let hours = c.in_ok-hours_of.ensures
    ∙ lists in (
      problem_kept book _ _ _ periods.valid (search rules) hours c.in_ok-lists.ensures.blocks c.in_ok-lists.ensures.rows,
      subst (λ (bs : List Block). AreAllHindrances bs c.in_ok-all_hindrances.field-0.items) c.deref-2.ensures.value
          c.in_ok-all_hindrances.ensures,
      periods.value ∙ sym (ap length hours ∙ length-hours_from 1 book.periods book.rows),
    )

pub returns-clause-ok : goal.returns-clause-ok
returns-clause-ok g c =
    let book = c.args.book.now in let periods = c.periods.ensures in
    let lists = ap steps_of c.deref.ensures.value
    ∙ c.in_ok-lists.ensures.hourly in
    let hours = c.in_ok-hours_of.ensures
    ∙ lists in
    (search rules, problem_made book _ _ _ hours c.in_ok-lists.ensures.blocks c.in_ok-lists.ensures.rows)
