-- Both are prefixes of the history that the two together have seen, so the one that is no longer is a prefix of the
-- other.
use Rattle.std.proofs.Common.{◌≤◌, ap, subst, arith, length, List}
use mathlib.Core.List.{IsPrefix}
use Rattle.dam_book.specs.declared.command.Entry.{Entry}
use Rattle.dam_gate.proofs.Beginnings.{prefix_shorter}
use Rattle.dam_gate.proofs.history.History.starts_with.Goals as goal

pub returns : goal.returns
returns g c is =
    let both = c.learn.new.self.log in
    let this : IsPrefix c.self.inside.entries.log both = subst (λ (l : List Entry). IsPrefix l both)
    (ap (λ s. s.log) c.again-both.ensures) c.learn.ensures.2 in
    let less : length c.other.inside.entries.log ≤ length c.self.inside.entries.log = omega (arith, c.self.invariant.0, c.other.invariant.0) in
    rw (← c.self.view_is, ← c.other.view_is) (prefix_shorter c.other.inside.entries.log c.self.inside.entries.log both c.learn.ensures.3 this
    less)
