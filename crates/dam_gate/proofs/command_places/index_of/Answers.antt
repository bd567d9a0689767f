-- The participant stands where it is found.
use Rattle.std.proofs.Common.{Some, length, ℕ, List, refl, sym, ap, ◌∙◌}
use Rattle.std.proofs.lemmas.Option.{slice_get_read}
use Rattle.dam_gate.proofs.Days.{text-Decides}
use Rattle.dam_gate.proofs.command_places.index_of.Goals as goal

pub returns-then-eq-clause-found : goal.returns-then-eq-clause-found
returns-then-eq-clause-found c =
    slice_get_read c.args.participants.now (length c.args.participants.now) c.loop-at.at c.index-participants-at.result refl
    c.loop-at-test.true c.index-participants-at.is
    ∙ ap (λ (w : List ℕ). Some w)
    (sym ((text-Decides c.args.who.now c.index-participants-at.result).0 (sym c.eq.ensures ∙ c.if-eq.true)))
