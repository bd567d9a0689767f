-- One command more is entered; a refused call leaves the receipts of the commands before it.
use Rattle.std.proofs.Common.{◌≡◌, ◌<◌, ◌+◌, ◌++◌, ◌∷◌, [], List, None, Some, length, get_or, slice_get, take, drop, ap, sym, ◌∙◌}
use Rattle.std.proofs.Common.{append-nil, arith}
use Rattle.std.proofs.lemmas.Option.{slice_get-get_or, slice_get_past}
use Rattle.dam_book.specs.declared.command.Command.{Command}
use Rattle.dam_book.specs.Book.{commands_of}
use Rattle.dam_gate.specs.Pass.{Knowledge}
use Rattle.dam_gate.specs.inside.Entering.{commands_at}
use Rattle.dam_gate.specs.inside.Locked.{entry_of}
use Rattle.dam_gate.proofs.Days.{own-split, next-place, one-receipt}
use Rattle.dam_gate.proofs.entering.enter_commands.Goals as goal

pub loop-place-preserved-in_default : goal.loop-place-preserved-in_default
loop-place-preserved-in_default g c =
    let cs = c.args.commands.now in
    let ps = c.args.places.now in
    let i = c.loop-place.place-index in
    let none : slice_get cs (get_or ps i 0) ≡ None = slice_get_past cs (get_or ps i 0) c.in_default.ensures.lookup.3 in
    let more : commands_at cs (take (i + 1) ps) ≡ commands_at cs (take i ps) = next-place cs ps i None c.loop-place-test.true none
    ∙ append-nil (commands_at cs (take i ps)) in
    record {
      holder = c.loop-place.invariant.holder;
      entered = c.loop-place.invariant.entered
          ∙ ap (λ (ds : List Command). commands_of c.args.pass.now.account.receipts ++ ds) (sym more);
    }

pub loop-place-preserved : goal.loop-place-preserved
loop-place-preserved g c =
    let cs = c.args.commands.now in
    let ps = c.args.places.now in
    let i = c.loop-place.place-index in
    let given = c.in-Some.given.now in
    let place = get_or ps i 0 in
    let within : place < length cs = omega (arith, c.in-Some.ensures.lookup.3.0) in
    let stands : slice_get cs place ≡ Some given = slice_get-get_or cs place given within
    ∙ ap (λ (d : Command). Some d) (sym c.in-Some.ensures.lookup.1) in
    let e = entry_of given c.in-Ok._answer in
    let more : commands_at cs (take (i + 1) ps) ≡ commands_at cs (take i ps) ++ e.command ∷ [] =
    next-place cs ps i (Some given) c.loop-place-test.true stands in
    record {
      holder = ap (λ (k : Knowledge). k.account.holder) c.in-Ok.ensures.answered.receipt ∙ c.loop-place.invariant.holder;
      entered = ap (λ (k : Knowledge). commands_of k.account.receipts) c.in-Ok.ensures.answered.receipt
          ∙ one-receipt (commands_at cs (take (i + 1) ps)) (commands_of c.args.pass.now.account.receipts) (commands_at cs (take i ps))
          c.loop-place.pass.account.receipts e c.loop-place.invariant.entered more;
    }

pub returns-in_default-call_packed : goal.returns-in_default-call_packed
returns-in_default-call_packed g c =
    record {
      holder = ap (λ (k : Knowledge). k.account.holder) c.in_default-call_packed.ensures.err ∙ c.loop-place.invariant.holder;
      entered = record {
        entered = commands_at c.args.commands.now (take c.loop-place.place-index c.args.places.now);
        left = commands_at c.args.commands.now (drop c.loop-place.place-index c.args.places.now);
        own_is = own-split c.args.commands.now c.args.places.now c.loop-place.place-index;
        receipts = ap (λ (k : Knowledge). commands_of k.account.receipts) c.in_default-call_packed.ensures.err ∙ c.loop-place.invariant.entered;
      };
    }
