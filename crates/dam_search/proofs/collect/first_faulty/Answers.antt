-- One piece more has one answer.
use Rattle.dam_search.proofs.Common.{◌≡◌, ℕ, ◌<◌, below_more, ◌∙◌, sym, arith, most_pieces, answers_about}
use Rattle.dam_search.proofs.collect.first_faulty.Goals as goal

pub loop-piece-preserved : goal.loop-piece-preserved
loop-piece-preserved c =
    let inside = c.loop-piece-test.true in let pieces = c.requires.few in
    let few : c.loop-piece.piece < most_pieces = omega (arith, inside, pieces) in
    below_more (λ (q : ℕ). answers_about c.args.answers.now q ≡ 1) c.loop-piece.piece c.loop-piece.invariant
    (sym (c.answer_counts-counts.ensures.each c.loop-piece.piece _ few) ∙ c.if-counts-piece-ne1.false)
