-- A row is found as its place is.
use Rattle.dam_book.proofs.GapFacts.{found_at, absent_at, gap_at}
use Rattle.dam_book.proofs.rows.Rows.find_with_place.Goals as goal

pub returns-in_default : goal.returns-in_default
returns-in_default g c =
    absent_at c.self.inside.map.entries c.args.self.now c.row_label.result (c.args.who.now, c.args.name.now)
    c.self.view_is c.self.invariant.1 c.self.invariant.2 c.row_label.ensures c.in_default.ensures.value

pub returns-in_default-found : goal.returns-in_default-found
returns-in_default-found g c =
    gap_at c.self.inside.map.entries c.args.self.now c.row_label.result (c.args.who.now, c.args.name.now)
    c.self.view_is c.self.invariant.1 c.self.invariant.2 c.row_label.ensures c.in-Some.found.now c.in-Some.ensures.value
    c.in_default-found.is

pub returns : goal.returns
returns g c =
    found_at c.self.inside.map.entries c.args.self.now c.row_label.result (c.args.who.now, c.args.name.now)
    c.self.view_is c.self.invariant.1 c.self.invariant.2 c.row_label.ensures c.in-Some.found.now c.in-Some-found.order
    c.get.result.now c.in-Some.ensures.value c.in-Some-found.is c.get.ensures
