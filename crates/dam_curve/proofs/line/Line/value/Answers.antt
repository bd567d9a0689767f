-- The numbers are small enough.
use Rattle.std.proofs.Common.{◌≡◌, ap, ◌∙◌, refl, to_z, of_z, w64, rules}
use Rattle.dam_curve.specs.Line.{line_value}
use Rattle.dam_curve.proofs.LookingUp.{valued}
use Rattle.dam_curve.proofs.line.Line.value.Goals as goal

pub overflow_add-result : goal.overflow_add-result
overflow_add-result c =
    let net : to_z w64 (of_z w64 c.args.net) ≡ c.args.net = search rules in
    (valued c.args.self (to_z w64 (of_z w64 c.from.result)) c.from.result c.args.net (to_z w64 (of_z w64 c.args.net)) c.requires.line
    c.requires.least c.requires.most net c.from.ensures refl).sum

pub returns : goal.returns
returns c =
    let net : to_z w64 (of_z w64 c.args.net) ≡ c.args.net = search rules in
    (valued c.args.self (to_z w64 (of_z w64 c.from.result)) c.from.result c.args.net (to_z w64 (of_z w64 c.args.net)) c.requires.line
    c.requires.least c.requires.most net c.from.ensures refl).value
    ∙ ap (line_value c.args.self) net
