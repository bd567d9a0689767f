-- Without receipts nothing was found of any entry.
use Rattle.std.proofs.Common.{List, [], None, sym, subst}
use Rattle.dam_gate.specs.declared.tally.Mark.{Mark}
use Rattle.dam_gate.specs.inside.Tally.{IsTally}
use Rattle.dam_gate.proofs.Tallies.{tally-empty}
use Rattle.dam_gate.proofs.tally.Tally.new.Goals as goal

pub returns-clause-tally : goal.returns-clause-tally
returns-clause-tally g c =
    subst (λ (fs : List Mark). IsTally c.args.entries.now fs None []) (sym (c.in_ok-found.ensures.items_if_clones_equal (λ mark same. same)))
    (tally-empty c.args.entries.now)
