-- One answer more.
use Rattle.dam_search.proofs.Common.{◌≡◌, ◌+◌, List, [], ◌∷◌, ◌++◌, take, ◌∙◌, ap, sym, subst, PieceAnswer, IsLong, IsHighestFound}
use Rattle.std.proofs.lemmas.List.{take_more}
use Rattle.std.proofs.lemmas.List.Elements.{All-take, All-get_or}
use Rattle.dam_search.proofs.Answers.{highest_step, long_from}
use Rattle.dam_search.proofs.collect.highest_found.Goals as goal

pub loop-answer-preserved : goal.loop-answer-preserved
loop-answer-preserved c =
    let answers = c.args.answers.now in let i = c.loop-answer.answer-index in let a = c.answer-item.result in
    let before = c.loop-answer.invariant in
    let more : take (i + 1) answers ≡ take i answers ++ a ∷ [] =
    take_more answers i a c.loop-answer-test.true ∙ ap (λ (x : PieceAnswer). take i answers ++ x ∷ []) (sym c.answer-item.is) in
    let long_a : IsLong a.best = subst (λ (x : PieceAnswer). IsLong x.best) (sym c.answer-item.is)
    (All-get_or (λ (x : PieceAnswer). IsLong x.best) answers i a c.loop-answer-test.true c.requires) in
    let long = long_from c.loop-answer.best a.best c.highest_after-best.result before.1 long_a c.highest_after-best.ensures.either in (
      subst (λ (xs : List PieceAnswer). IsHighestFound xs c.highest_after-best.result) (sym more)
          (highest_step (take i answers) a c.loop-answer.best c.highest_after-best.result c.ranking_is_total.ensures.transitive
          (All-take (λ (x : PieceAnswer). IsLong x.best) i answers c.requires) before.1 long before.0
          c.highest_after-best.ensures.either c.highest_after-best.ensures.before c.highest_after-best.ensures.answer),
      long,
    )
