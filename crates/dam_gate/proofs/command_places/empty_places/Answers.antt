-- One more has none either.
use Rattle.std.proofs.Common.{◌≡◌, ◌++◌, ◌∷◌, [], ℕ, List, replicate, ap, ap₂, ◌∙◌, arith}
use Rattle.std.proofs.lemmas.List.{replicate_more}
use Rattle.dam_gate.proofs.command_places.empty_places.Goals as goal

pub loop-preserved : goal.loop-preserved
loop-preserved c =
    c.in_ok-push.ensures.items
    ∙ ap₂ (λ (all_places : List (List ℕ)) (places : List ℕ). all_places ++ places ∷ []) c.loop.invariant c.new.ensures
    ∙ replicate_more c.loop.counter []

pub returns : goal.returns
returns c =
    let whole : c.loop.counter ≡ c.args.count = omega (arith, c.loop-test.false, c.loop.auto.counter-end) in
    c.loop.invariant ∙ ap (λ (n : ℕ). replicate {A = List ℕ} n []) whole
