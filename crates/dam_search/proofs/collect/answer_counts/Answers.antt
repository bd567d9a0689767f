-- One answer more.
use Rattle.dam_search.proofs.Common.{◌<◌, sym, subst, PieceAnswer, most_pieces}
use Rattle.std.proofs.lemmas.List.Elements.{All-get_or}
use Rattle.dam_search.proofs.Answers.{none_counted, counts_step}
use Rattle.dam_search.proofs.collect.answer_counts.Goals as goal

pub loop-answer-init : goal.loop-answer-init
loop-answer-init c = none_counted c.args.answers.now

pub loop-answer-preserved : goal.loop-answer-preserved
loop-answer-preserved c =
    let answers = c.args.answers.now in let i = c.loop-answer.answer-index in let a = c.answer-item.result in
    let few = subst (λ (x : PieceAnswer). x.piece < most_pieces) (sym c.answer-item.is)
    (All-get_or (λ (x : PieceAnswer). x.piece < most_pieces) answers i a c.loop-answer-test.true c.requires) in
    counts_step answers i c.loop-answer.counts a c.loop-answer-test.true c.answer-item.is few c.loop-answer.invariant
