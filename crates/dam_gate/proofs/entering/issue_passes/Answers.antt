-- One pass more.
use Rattle.std.proofs.Common.{◌++◌, ◌∷◌, [], ℕ, List, Some, ap, ap₂, ◌∙◌}
use Rattle.std.proofs.lemmas.List.{take_more, map-append}
use Rattle.dam_gate.specs.Pass.{Knowledge, knowing_nothing}
use Rattle.dam_gate.proofs.entering.issue_passes.Goals as goal

pub loop-who-preserved : goal.loop-who-preserved
loop-who-preserved g c =
    let new_one = λ (who : List ℕ). knowing_nothing (Some who) in
    rw (take_more c.args.participants.now c.loop-who.who-index c.who-item.result c.loop-who-test.true, map-append)
    (c.in_ok-push.ensures.items ∙ ap₂ (λ (xs : List Knowledge) (x : Knowledge). xs ++ x ∷ []) c.loop-who.invariant
    (c.in_ok-issue_pass_with_room.ensures ∙ ap new_one c.who-item.is))
