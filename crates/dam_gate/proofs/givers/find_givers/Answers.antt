-- One command more is taken, or is the first that isn't.
use Rattle.std.proofs.Common.{◌≡◌, ℕ, ◌+◌, ◌<◌, ◌++◌, ◌∷◌, [], List, length, take, slice_get, Some, refl, sym, ap}
use Rattle.std.proofs.Common.{subst, ◌∙◌, arith, rules}
use Rattle.std.specs.List.{filter}
use Rattle.std.proofs.lemmas.List.{length-take, take_all, take_more}
use Rattle.std.proofs.lemmas.Option.{slice_get_read}
use Rattle.dam_book.specs.declared.command.Command.{Command}
use Rattle.dam_book.specs.Limits.{most_entries}
use Rattle.dam_gate.specs.Pass.{is_close}
use Rattle.dam_gate.specs.Day.{AreTaken, IsDayFault, givers_of}
use Rattle.dam_gate.specs.inside.Entering.{AreGivers}
use Rattle.dam_gate.proofs.Days.{givers-more, no_close-more, order-more, passed_on, refused-at}
use Rattle.dam_gate.proofs.givers.find_givers.Goals as goal

pub loop-place-preserved : goal.loop-place-preserved
loop-place-preserved c =
    let cs = c.args.commands.now in
    let i = c.loop-place.place in
    let item = c.index-commands-place.result in
    let participants = c.loop-place.participants.items in
    let who = c.in_ok-add_giver.ensures.giver.who in
    let gives = c.in_ok-add_giver.ensures.giver.gives in
    let items = c.in_ok-add_giver.ensures.giver.after_is in
    let inside : i < length cs = c.loop-place-test.true in
    let taken : take (i + 1) cs ≡ take i cs ++ item ∷ [] = take_more cs i item inside
    ∙ ap (λ (d : Command). take i cs ++ d ∷ []) (sym c.index-commands-place.is) in
    record {
      few = c.in_ok-add_giver.ensures.few;
      givers = rw (items, taken) (givers-more participants who item (take i cs) gives c.loop-place.invariant.givers);
      order = rw (items, taken) (order-more participants who item (take i cs) gives c.loop-place.invariant.order);
      no_close = rw taken (no_close-more item who (take i cs) gives c.loop-place.invariant.no_close);
    }

-- nobody gives no commands
pub loop-place-init : goal.loop-place-init
loop-place-init c =
    rw c.new-participants.ensures.items
    (record { few = omega arith; givers = record { apart = tt; all = λ who none. refl }; order = refl; no_close = refl })

pub returns-clause-ok : goal.returns-clause-ok
returns-clause-ok c =
    subst (AreGivers c.loop-place.participants.items) (take_all c.loop-place.place c.args.commands.now (omega arith))
    c.loop-place.invariant.givers

pub returns-clause-order : goal.returns-clause-order
returns-clause-order c = c.loop-place.invariant.order ∙ ap givers_of (take_all c.loop-place.place c.args.commands.now (omega arith))

pub returns-clause-taken : goal.returns-clause-taken
returns-clause-taken c =
    let whole = take_all c.loop-place.place c.args.commands.now (omega arith) in
    record {
      room = search rules;
      no_close = subst (λ (cs : List Command). filter is_close cs ≡ []) whole c.loop-place.invariant.no_close;
      participants = omega (
        arith,
        c.loop-place.invariant.few,
        ap (λ (ps : List (List ℕ)). length ps) (c.loop-place.invariant.order ∙ ap givers_of whole),
      );
    }

-- the first command that isn't taken decides
pub returns-in_err-add_giver-clause-fault : goal.returns-in_err-add_giver-clause-fault
returns-in_err-add_giver-clause-fault c =
    let cs = c.args.commands.now in
    let i = c.loop-place.place in
    let item = c.index-commands-place.result in
    let participants = c.loop-place.participants.items in
    let fault = c.in_err-add_giver.field-0.0 in
    let few : length cs < most_entries = search rules in
    let inside : i < length cs = c.loop-place-test.true in
    let next : take (i + 1) cs ≡ take i cs ++ item ∷ [] = take_more cs i item inside
    ∙ ap (λ (d : Command). take i cs ++ d ∷ []) (sym c.index-commands-place.is) in
    let at : slice_get cs i ≡ Some item = slice_get_read cs (length cs) i item refl inside c.index-commands-place.is in
    let taken : AreTaken (take i cs) =
    record {
      room = omega (arith, few, length-take i cs);
      no_close = c.loop-place.invariant.no_close;
      participants = omega (arith, c.loop-place.invariant.few, ap (λ (ps : List (List ℕ)). length ps) c.loop-place.invariant.order);
    } in
    passed_on (IsDayFault cs) c.from_residual-in_err-add_giver.result fault c.from_residual-in_err-add_giver.ensures.1
    (refused-at cs i participants item fault few inside at next taken c.loop-place.invariant.order
    c.in_err-add_giver.ensures.refused)
