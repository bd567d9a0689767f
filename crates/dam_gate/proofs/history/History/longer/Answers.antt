-- Both are prefixes of the history that the two together have seen, so the shorter is a prefix of
-- the longer.
use Rattle.std.proofs.Common.{◌≤◌, ap, subst, arith, length, List}
use mathlib.Core.List.{IsPrefix}
use Rattle.dam_book.specs.declared.command.Entry.{Entry}
use Rattle.dam_gate.proofs.Beginnings.{prefix_shorter}
use Rattle.dam_gate.proofs.history.History.longer.Goals as goal

pub returns-then-self-other-clause-this : goal.returns-then-self-other-clause-this
returns-then-self-other-clause-this g c =
    let both = c.learn.new.self.log in
    let this : IsPrefix c.self.inside.entries.log both = subst (λ (l : List Entry). IsPrefix l both)
    (ap (λ s. s.log) c.again-both.ensures) c.learn.ensures.2 in
    let less : length c.self.inside.entries.log ≤ length c.other.inside.entries.log = omega (arith, c.self.invariant.0, c.other.invariant.0) in
    rw (c.copy.ensures, ← c.self.view_is, ← c.other.view_is)
    (prefix_shorter c.self.inside.entries.log c.other.inside.entries.log both this c.learn.ensures.3 less)

pub returns-clause-that : goal.returns-clause-that
returns-clause-that g c =
    let both = c.learn.new.self.log in
    let this : IsPrefix c.self.inside.entries.log both = subst (λ (l : List Entry). IsPrefix l both)
    (ap (λ s. s.log) c.again-both.ensures) c.learn.ensures.2 in
    let less : length c.other.inside.entries.log ≤ length c.self.inside.entries.log = omega (arith, c.self.invariant.0, c.other.invariant.0) in
    rw (c.copy-else-self-other.ensures, ← c.self.view_is, ← c.other.view_is)
    (prefix_shorter c.other.inside.entries.log c.self.inside.entries.log both c.learn.ensures.3 this less)
