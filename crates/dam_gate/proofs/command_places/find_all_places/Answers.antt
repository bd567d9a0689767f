-- One command more has its place in a places.
use Rattle.std.proofs.Common.{◌≡◌, ◌+◌, ◌++◌, ◌∷◌, [], ℕ, List, length, take, drop, slice_get, Some, refl, sym, ap, subst, ◌∙◌, arith}
use Rattle.std.proofs.Math.Seq.{take-append_seam}
use Rattle.std.proofs.lemmas.List.{take_more}
use Rattle.std.proofs.lemmas.Option.{slice_get_read}
use Rattle.dam_book.specs.declared.command.Command.{Command}
use Rattle.dam_gate.specs.inside.Entering.{AreAllPlaces}
use Rattle.dam_gate.proofs.Places.{no_places}
use Rattle.dam_gate.proofs.command_places.find_all_places.Goals as goal

pub loop-place-init : goal.loop-place-init
loop-place-init c =
    subst (λ (all_places : List (List ℕ)). AreAllPlaces c.args.commands.now [] c.args.participants.now all_places) (sym c.in_ok-all_places.ensures)
    (no_places c.args.commands.now c.args.participants.now)

pub loop-place-preserved : goal.loop-place-preserved
loop-place-preserved c =
    let cs = c.args.commands.now in
    let i = c.loop-place.place in
    let item = c.index-commands-place.result in
    let who = c.args.participants.now in
    let taken : take (i + 1) cs ≡ take i cs ++ item ∷ [] = take_more cs i item c.loop-place-test.true
    ∙ ap (λ (d : Command). take i cs ++ d ∷ []) (sym c.index-commands-place.is) in
    let at : slice_get cs i ≡ Some item = slice_get_read cs (length cs) i item refl c.loop-place-test.true c.index-commands-place.is in
    let before = subst (λ (all_places : List (List ℕ)). AreAllPlaces cs (take i cs) who all_places) (sym c.deref_mut.ensures.value)
    c.loop-place.invariant in
    let news : List (List ℕ) = c.add_place.new.all_places in
    let rest = drop (length news) c.loop-place.all_places.items in
    let same : length news ≡ length c.deref_mut.result.now = omega (arith, c.add_place.auto.all_places) in
    let many : c.loop-place.all_places.len ≡ length news = omega (arith, same, c.deref_mut.ensures.len) in
    let seam : take c.loop-place.all_places.len (news ++ rest) ≡ news = ap (λ (n : ℕ). take n (news ++ rest)) many
    ∙ take-append_seam news rest in
    subst (λ (all_places : List (List ℕ)). AreAllPlaces cs (take (i + 1) cs) who all_places) (sym seam)
    (subst (λ (front : List Command). AreAllPlaces cs front who news) (sym taken) (c.in_ok-add_place.ensures cs (take i cs) at before))
