-- The passes that were entered through are served, in the order of the participants.
use Rattle.std.proofs.Common.{◌≡◌, ◌<◌, ◌++◌, ℕ, get_or, List, Some, length, map, take, drop, sym, ap, subst, ◌∙◌, arith, All}
use Rattle.std.proofs.Math.Seq.{take-append_seam}
use Rattle.std.proofs.lemmas.List.{length-map}
use Rattle.dam_gate.specs.Pass.{Knowledge, IsKnowledge, holders}
use Rattle.dam_gate.specs.inside.Entering.{AreServed, AreAllPlaces, HasAll, commands_at, places_of}
use Rattle.dam_gate.proofs.Days.{accounts, accounts-all, accounts-enter, held-all, new-accounts, served-all}
use Rattle.dam_gate.proofs.entering.enter_before_close.Goals as goal

pub returns-clause-ok : goal.returns-clause-ok
returns-clause-ok g c =
    let given = c.args.commands.now in
    let participants = c.args.participants.now in
    let olds : List Knowledge = c.deref_mut.result.now in
    let news : List Knowledge = c.enter_all.new.passes in
    let rest = drop (length news) c.in_ok-passes.passes.items in
    let same : length news ≡ length olds = omega (arith, c.enter_all.auto.passes) in
    let many : c.in_ok-passes.passes.len ≡ length news = omega (arith, same, c.deref_mut.ensures.len) in
    let seam : take c.in_ok-passes.passes.len (news ++ rest) ≡ news = ap (λ (n : _). take n (news ++ rest)) many
    ∙ take-append_seam news rest in
    let all_places = c.as_slice-all_places.result.now in
    let own = λ (i : ℕ). commands_at given (places_of all_places i) in
    let are = subst (λ (ss : List (List ℕ)). AreAllPlaces given given participants ss) (sym c.as_slice-all_places.ensures.value)
    c.in_ok-all_places.ensures in
    let all =
    subst (λ (ks : List Knowledge). (i : ℕ) (d : Knowledge) → i < length ks → HasAll (places_of all_places i) (get_or ks i d).account)
    (c.deref.ensures.value ∙ seam) (c.have_all_entered.ensures.all c.if-not-have_all_entered.false) in
    subst (λ (ks : List Knowledge). AreServed given participants (accounts ks)) (sym seam)
    (served-all given participants all_places (accounts olds) (accounts news) are
    (ap accounts (c.deref_mut.ensures.value ∙ c.in_ok-passes.ensures) ∙ new-accounts participants)
    (length-map news (λ (k : Knowledge). k.account) ∙ same ∙ sym (length-map olds (λ (k : Knowledge). k.account)))
    (accounts-enter own olds news same c.enter_all.ensures) (accounts-all (places_of all_places) news all))

pub returns-clause-holders : goal.returns-clause-holders
returns-clause-holders g c =
    let given = c.args.commands.now in
    let participants = c.args.participants.now in
    let olds : List Knowledge = c.deref_mut.result.now in
    let news : List Knowledge = c.enter_all.new.passes in
    let rest = drop (length news) c.in_ok-passes.passes.items in
    let same : length news ≡ length olds = omega (arith, c.enter_all.auto.passes) in
    let many : c.in_ok-passes.passes.len ≡ length news = omega (arith, same, c.deref_mut.ensures.len) in
    let seam : take c.in_ok-passes.passes.len (news ++ rest) ≡ news = ap (λ (n : _). take n (news ++ rest)) many
    ∙ take-append_seam news rest in
    let own = λ (i : ℕ). commands_at given (places_of c.as_slice-all_places.result.now i) in
    subst (λ (ks : List Knowledge). holders (accounts ks) ≡ map (λ (who : List ℕ). Some who) participants) (sym seam)
    (held-all own participants (accounts olds) (accounts news)
    (ap accounts (c.deref_mut.ensures.value ∙ c.in_ok-passes.ensures) ∙ new-accounts participants)
    (length-map news (λ (k : Knowledge). k.account) ∙ same ∙ sym (length-map olds (λ (k : Knowledge). k.account)))
    (accounts-enter own olds news same c.enter_all.ensures))

pub returns-clause-valid : goal.returns-clause-valid
returns-clause-valid g c =
    subst (λ (ks : List Knowledge). All IsKnowledge ks) c.deref.ensures.value
    (c.have_all_entered.ensures.valid c.if-not-have_all_entered.false)
