-- An hourly order has no children.
use Rattle.std.proofs.Common.{sym, ap, ◌∙◌, option_map}
use Rattle.dam_book.proofs.StepFacts.{childless}
use Rattle.dam_book.proofs.book.Book.has_children.Goals as goal

pub returns-in-Some : goal.returns-in-Some
returns-in-Some g c =
    childless c.args.self.now c.args.command.now _ _ _ c.periods-kept.ensures.valid c.in-Cancel.is
    (sym c.requires ∙ ap (λ o. option_map (λ r. r.1.now) o) c.in-Some.is) (sym c.is_hour.ensures.value ∙ c.if-is_hour.true)
