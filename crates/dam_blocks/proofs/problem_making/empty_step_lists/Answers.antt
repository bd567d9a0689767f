-- An empty list more.
use Rattle.dam_blocks.proofs.Common.{Vec, List, ◌∷◌, ◌++◌, [], map, ap, ◌∙◌, Step}
use Rattle.std.proofs.lemmas.List.{map-append}
use Rattle.dam_blocks.proofs.RowByRow.{none_more}
use Rattle.dam_blocks.proofs.problem_making.empty_step_lists.Goals as goal

pub loop-preserved : goal.loop-preserved
loop-preserved g c =
    let items = λ (steps : Vec Step g.row.A.Denot). steps.items in
    let lists = c.loop.hourly.items in
    none_more c.args.periods c.loop.counter (map items lists) (map items c.push.new.self.items) _ c.loop-test.true
    (ap (λ (vs : List (Vec Step g.row.A.Denot)). map items vs) c.in_ok-push.ensures.items
    ∙ map-append items lists (c.new.result ∷ [])
    ∙ ap (λ (ss : List Step). map items lists ++ ss ∷ []) c.new.ensures.items)
    c.loop.invariant
