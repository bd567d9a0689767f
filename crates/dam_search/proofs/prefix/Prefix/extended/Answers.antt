-- One decision more.
use Rattle.dam_search.proofs.Common.{◌≡◌, ◌+◌, [], ◌∷◌, ◌++◌, ◌∙◌, arith, padded}
use Rattle.dam_search.proofs.Prefixes.{prefix_is, prefix_kept, taken_next, length_more, length_next}
use Rattle.dam_search.proofs.prefix.Prefix.extended.Goals as goal
use Rattle.dam_search.proofs.prefix.Prefix.extended.Goals.{then-accept, else-accept}

next_is : (c : goal.Joined-accept) → c.if-accept.accepted ≡ padded (c.args.self.now ++ c.args.accept ∷ [])
next_is c =
    taken_next c.args.self.now c.self.inside.accepted c.if-accept.accepted c.self.inside.depth c.args.accept c.self.view_is c.self.invariant.0
    c.self.invariant.1 c.requires
    (elim c.if-accept.branch [ then-accept branch ↦ λ e. branch.accepted-is ∙ branch.with-accepted.ensures | else-accept branch ↦ λ e. absurd (cc) ])
    (elim c.if-accept.branch [ then-accept branch ↦ λ e. absurd (cc) | else-accept branch ↦ λ e. branch.accepted-is ])

pub invariant_of-result : goal.invariant_of-result
invariant_of-result c =
    let deep = length_next c.args.self.now c.self.inside.accepted c.self.inside.depth c.args.accept c.self.view_is
    c.self.invariant.0 c.self.invariant.1 in
    let more = length_more c.args.self.now c.args.accept in (
      prefix_kept (c.args.self.now ++ c.args.accept ∷ []) c.if-accept.accepted (c.self.inside.depth + 1) (next_is c) deep,
      omega (arith, deep, more),
    )

pub returns : goal.returns
returns c =
    let deep = length_next c.args.self.now c.self.inside.accepted c.self.inside.depth c.args.accept c.self.view_is
    c.self.invariant.0 c.self.invariant.1 in
    prefix_is (c.args.self.now ++ c.args.accept ∷ []) c.if-accept.accepted (c.self.inside.depth + 1) (next_is c) deep
