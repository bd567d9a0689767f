-- It has learnt of one history more.
use Rattle.std.proofs.Common.{ap, subst, ◌∙◌}
use Rattle.std.proofs.lemmas.List.{get_or_default}
use mathlib.Core.List.{IsPrefix}
use Rattle.dam_gate.specs.Pass.{Knowledge, after_learning}
use Rattle.dam_gate.proofs.Standing.{learnt-more}
use Rattle.dam_gate.proofs.day.learn_from_all.Goals as goal

pub loop-other-preserved : goal.loop-other-preserved
loop-other-preserved g c =
    let others = c.args.others.now in
    let i = c.loop-other.other-index in
    let it = c.other-item.result in
    let old = c.loop-other.pass.learnt in
    let new = c.learn_from.new.self.learnt in
    record {
      pass = c.learn_from.ensures.pass ∙ ap (λ (k : Knowledge). after_learning k new) c.loop-other.invariant.pass;
      learnt = learnt-more others i old new c.learn_from.ensures.kept c.loop-other.invariant.learnt
          (λ d. subst (λ (k : Knowledge). IsPrefix k.history new) (c.other-item.is ∙ get_or_default others i it d c.loop-other-test.true)
          c.learn_from.ensures.learnt);
    }
