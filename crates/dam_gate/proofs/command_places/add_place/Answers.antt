-- The place goes to the places of the one who gives the command, if anybody does.
use Rattle.std.proofs.Common.{◌<◌, ◌++◌, ◌∷◌, [], ℕ, List, length, slice_set, get_or, sym, subst, arith}
use Rattle.std.proofs.lemmas.Option.{slice_get-get_or}
use Rattle.dam_gate.specs.inside.Entering.{AreAllPlaces}
use Rattle.dam_gate.proofs.Places.{places-nobody, places-other, places-added, no_places_less}
use Rattle.dam_gate.proofs.command_places.add_place.Goals as goal

pub returns-in_default : goal.returns-in_default
returns-in_default c = λ all front is are.
    places-nobody all front c.args.command.now c.args.participants.now c.args.all_places.now (sym c.in_default.ensures) are

pub returns-in_default-index_of : goal.returns-in_default-index_of
returns-in_default-index_of c = λ all front is are.
    places-other all front c.args.command.now c.in-Some.who.now c.args.participants.now c.args.all_places.now (sym c.in-Some.ensures)
    c.in_default-index_of.ensures.absent are

pub returns-in_ok-add : goal.returns-in_ok-add
returns-in_ok-add c = λ all front is are.
    let at = c.in-Some-index_of.at in
    let all_places : List (List ℕ) = c.args.all_places.now in
    let places : List ℕ = get_or all_places at c.index-all_places-at.result in
    let within : at < length all_places = c.if-at-all_places.true in
    subst (λ (new : List ℕ). AreAllPlaces all (front ++ c.args.command.now ∷ []) c.args.participants.now (slice_set all_places at new))
    (sym c.in_ok-add.ensures)
    (places-added all front c.args.command.now c.args.place c.in-Some.who.now c.args.participants.now all_places at places
    (sym c.in-Some.ensures) is c.requires c.in-Some-index_of.ensures.found (slice_get-get_or all_places at c.index-all_places-at.result within) are)

pub returns-else-at-all_places : goal.returns-else-at-all_places
returns-else-at-all_places c = λ all front is are.
    let less = no_places_less all front c.args.participants.now c.args.all_places.now c.in-Some-index_of.at c.in-Some.who.now are
    c.in-Some-index_of.ensures.found in
    absurd (omega (arith, less, c.if-at-all_places.false))
