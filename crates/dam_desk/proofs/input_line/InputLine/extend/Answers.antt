use Rattle.std.proofs.Common.{◌+◌, ℕ, ◌∙◌, ◌-◌, min, length, ap}
use Rattle.std.proofs.lemmas.Result.{on_ok_weaker}
use Rattle.dam_desk.specs.Limits.{most_line}
use Rattle.dam_desk.proofs.Lists.{more_kept, on_ok_then}
use Rattle.dam_desk.proofs.input_line.InputLine.extend.Goals as goal

pub returns : goal.returns
returns c = on_ok_weaker c.extend_from_slice.result (λ items begun is.
    items ∙ more_kept (most_line + 1) c.min.result begun c.args.bytes.now c.self.inside.bytes.items
    (c.self.view_is ∙ is) (c.min.ensures ∙ ap (λ (k : ℕ). min (most_line + 1 - k) (length c.args.bytes.now)) (c.len.ensures ∙ c.self.inside.bytes.ok.0))) (on_ok_then c.extend_from_slice.result _ _ _ c.extend_from_slice.ensures.items)
