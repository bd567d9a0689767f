-- The walk from the decisions of the piece, with nothing found before.
use Rattle.dam_search.proofs.Common.{Bool, List, [], length, ◌∙◌, subst, sym, rules, arith, false≢true, choice, IsAdmissible, PieceAnswer, IsSound}
use Rattle.dam_search.proofs.Opens.{all_within}
use Rattle.dam_search.proofs.FirstNode.{piece_node, piece_sound}
use Rattle.dam_search.proofs.RulingOut.{limits_with_rows}
use Rattle.dam_search.proofs.Sets.{is_apart}
use Rattle.dam_search.proofs.Slacks.{piece_slack, nothing_sound}
use Rattle.dam_search.proofs.price_walk.PriceWalk.walk_by_prices.Goals as goal

pub write_pricing_of_piece-bound-requires-clause-places : goal.write_pricing_of_piece-bound-requires-clause-places
write_pricing_of_piece-bound-requires-clause-places g c =
    let node = piece_node c.args.self.now.depth c.args.piece (length c.args.self.now.problem.now.blocks) c.choice-accepted.result [] c.args.self.now.decision_order.now
    c.choice-accepted.ensures c.requires.depth c.periods-invariant.ensures.valid.few_blocks c.args.self.now.is_order (λ place e. absurd (cc)) in
    all_within c.choice-accepted.result c.args.self.now.decision_order.now node.free

pub visit-requires-clause-node : goal.visit-requires-clause-node
visit-requires-clause-node g c =
    let decisions =
    piece_node c.args.self.now.depth c.args.piece (length c.args.self.now.problem.now.blocks) c.choice-accepted.result c.rejected_under.result c.args.self.now.decision_order.now
    c.choice-accepted.ensures c.requires.depth c.periods-invariant.ensures.valid.few_blocks c.args.self.now.is_order
    (λ place. is_apart c.args.self.now.depth c.choice-accepted.result c.rejected_under.result place c.rejected_under.ensures) in
    let slack =
    piece_slack c.args.self.now.problem.now c.args.self.now.net_limits.now.limits c.args.self.now.depth (length c.args.self.now.problem.now.blocks) c.choice-accepted.result
    c.args.self.now.decision_order.now c.in-Some.slack c.args.self.now.is_order
    (limits_with_rows c.args.self.now.problem.now _ _ c.args.self.now.same c.args.self.now.are_limits) c.in-Some.ensures.slacks c.in-Some.ensures.some in
    search rules

pub returns-then-not-admissible-clause-sound : goal.returns-then-not-admissible-clause-sound
returns-then-not-admissible-clause-sound g c =
    let problem = c.args.self.now.problem.now in let prefix = choice c.args.self.now.depth c.args.piece in
    let admits : List Bool → Type 0 = λ xs. IsAdmissible problem.blocks xs in
    subst (λ (a : PieceAnswer). IsSound problem prefix a.best a.incumbent_read a.done) (sym c.nothing_in.ensures) (record {
      found = tt;
      others = λ _ selection welfare is eligible. absurd (false≢true (sym c.if-not-admissible.true
          ∙ c.admissible.ensures.1 (subst admits (sym c.choice-accepted.ensures)
          (c.fronts_are_admissible.ensures problem prefix is.rest c.periods-invariant.ensures.valid (subst admits is.agrees eligible.admissible)))));
    })

pub returns-in_default-clause-sound : goal.returns-in_default-clause-sound
returns-in_default-clause-sound g c =
    let few = c.periods-invariant.ensures.valid.few_blocks in let deep = c.requires.depth in
    let prefix = choice c.args.self.now.depth c.args.piece in
    subst (λ (a : PieceAnswer). IsSound c.args.self.now.problem.now prefix a.best a.incumbent_read a.done) (sym c.nothing_in-in_default.ensures)
    (nothing_sound c.args.self.now.problem.now c.args.self.now.net_limits.now.limits c.args.self.now.depth c.args.piece c.choice-accepted.result c.args.self.now.decision_order.now
    c.choice-accepted.ensures (omega (arith, few, deep)) c.args.self.now.is_order
    (limits_with_rows c.args.self.now.problem.now _ _ c.args.self.now.same c.args.self.now.are_limits) (c.slack_of_piece.ensures.none c.in_default.is))

pub returns-clause-sound : goal.returns-clause-sound
returns-clause-sound g c =
    let state = c.visit.new.state in let few = c.periods-invariant.ensures.valid.few_blocks in let deep = c.requires.depth in
    piece_sound c.args.self.now.problem.now c.args.self.now.depth c.args.piece c.choice-accepted.result c.args.self.now.decision_order.now state.best state.incumbent_read
    c.choice-accepted.ensures (omega (arith, few, deep)) c.args.self.now.is_order c.visit.ensures.walked.finds c.visit.ensures.walked.covers
