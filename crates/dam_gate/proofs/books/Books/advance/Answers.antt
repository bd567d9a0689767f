-- The books go on by an entry.
use Rattle.std.proofs.Common.{rules}
use Rattle.std.specs.Arc.{arc_value}
use Rattle.dam_gate.proofs.Steps.{AreSteps-more, AreSteps-next}
use Rattle.dam_gate.proofs.books.Books.advance.Goals as goal

pub returns-in-Some-clause-steps : goal.returns-in-Some-clause-steps
returns-in-Some-clause-steps g c = λ entries at steps. AreSteps-more entries c.args.entry.now c.args.self.now steps

pub returns-clause-steps : goal.returns-clause-steps
returns-clause-steps g c = λ entries at steps.
    AreSteps-next entries c.args.entry.now c.args.self.now
    (record { book = arc_value c.replace.new.dest; before = c.replace-oldest.new.dest }) c.args.place c.args.outcome at
    c.requires.outcome (search rules) (search rules)
