-- The all_places of the participants, with the place of one command more.
use Rattle.std.proofs.Common.{◌≡◌, ◌<◌, ℕ, zero, suc, Bool, true, false, cond, List, [], ◌∷◌, ◌++◌, length, replicate, slice_get}
use Rattle.std.proofs.Common.{slice_set, Some, None, refl, sym, ap, subst, ◌∙◌, append-nil, arith}
use Rattle.std.proofs.lemmas.Bool.{or_parts}
use Rattle.std.proofs.lemmas.List.Elements.{filter-append}
use Rattle.std.proofs.lemmas.Option.{same_Some}
use Rattle.dam_book.specs.Name.{same_text}
use Rattle.dam_book.specs.Command.{giver}
use Rattle.dam_book.specs.declared.command.Command.{Command}
use Rattle.dam_gate.specs.Pass.{same_giver, is_from}
use Rattle.dam_gate.specs.Day.{commands_by, is_one_of}
use Rattle.dam_gate.specs.inside.Entering.{AreApart, AreAllPlaces, commands_at}
use Rattle.dam_gate.proofs.Days.{one-place, text-apart, text-Decides}

-- before the first command no places has a place
pub no_places : (all : List Command) (ws : List (List ℕ)) → AreAllPlaces all [] ws (replicate (length ws) [])
no_places all [] = tt
no_places all (w ∷ ws) = (refl, no_places all ws)

kept : (all front : List Command) (c : Command) (w places : List ℕ) → is_from w c ≡ false → commands_at all places ≡ commands_by w front
    → commands_at all places ≡ commands_by w (front ++ c ∷ [])
kept all front c w places other is =
    is ∙ sym (filter-append (is_from w) front (c ∷ [])
    ∙ ap (λ (b : Bool). commands_by w front ++ cond b (c ∷ []) []) other
    ∙ append-nil (commands_by w front))

pub places-nobody : (all front : List Command) (c : Command) (ws all_places : List (List ℕ)) → giver c ≡ None
    → AreAllPlaces all front ws all_places → AreAllPlaces all (front ++ c ∷ []) ws all_places
places-nobody all front c [] [] none are = tt
places-nobody all front c (w ∷ ws) (places ∷ all_places) none are =
    (kept all front c w places (ap (same_giver (Some w)) none) are.0, places-nobody all front c ws all_places none are.1)
places-nobody all front c [] (places ∷ all_places) none are = absurd are
places-nobody all front c (w ∷ ws) [] none are = absurd are

pub places-other : (all front : List Command) (c : Command) (who : List ℕ) (ws all_places : List (List ℕ)) → giver c ≡ Some who
    → is_one_of ws who ≡ false → AreAllPlaces all front ws all_places → AreAllPlaces all (front ++ c ∷ []) ws all_places
places-other all front c who [] [] gives other are = tt
places-other all front c who (w ∷ ws) (places ∷ all_places) gives other are =
    let parts = or_parts (same_text who w) (is_one_of ws who) other in (
      kept all front c w places (ap (same_giver (Some w)) gives ∙ text-apart who w parts.0) are.0,
      places-other all front c who ws all_places gives parts.1 are.1,
    )
places-other all front c who [] (places ∷ all_places) gives other are = absurd are
places-other all front c who (w ∷ ws) [] gives other are = absurd are

apart_from : (ws : List (List ℕ)) (w who : List ℕ) (at : ℕ) → is_one_of ws w ≡ false → slice_get ws at ≡ Some who → same_text w who ≡ false
apart_from [] w who at apart is = absurd (cc)
apart_from (v ∷ ws) w who zero apart is =
    subst (λ (x : List ℕ). same_text w x ≡ false) (same_Some v who is) (or_parts (same_text w v) (is_one_of ws w) apart).0
apart_from (v ∷ ws) w who (suc at) apart is =
    apart_from ws w who at (or_parts (same_text w v) (is_one_of ws w) apart).1 is

added : (all front : List Command) (c : Command) (place : ℕ) (w places : List ℕ) → is_from w c ≡ true → slice_get all place ≡ Some c
    → commands_at all places ≡ commands_by w front → commands_at all (places ++ place ∷ []) ≡ commands_by w (front ++ c ∷ [])
added all front c place w places own is same =
    one-place all places place (Some c) is ∙ ap (λ (cs : List Command). cs ++ c ∷ []) same
    ∙ sym (filter-append (is_from w) front (c ∷ []) ∙ ap (λ (b : Bool). commands_by w front ++ cond b (c ∷ []) []) own)

pub places-added : (all front : List Command) (c : Command) (place : ℕ) (who : List ℕ) (ws all_places : List (List ℕ)) (at : ℕ)
    (places : List ℕ) → giver c ≡ Some who → slice_get all place ≡ Some c → AreApart ws → slice_get ws at ≡ Some who
    → slice_get all_places at ≡ Some places → AreAllPlaces all front ws all_places
    → AreAllPlaces all (front ++ c ∷ []) ws (slice_set all_places at (places ++ place ∷ []))
places-added all front c place who [] all_places at places gives is apart stands old are = absurd (cc)
places-added all front c place who (w ∷ ws) [] at places gives is apart stands old are = absurd (cc)
places-added all front c place who (w ∷ ws) (s ∷ all_places) zero places gives is apart stands old are =
    let same : w ≡ who = same_Some w who stands in
    let one : s ≡ places = same_Some s places old in
    let own : is_from w c ≡ true = ap (same_giver (Some w)) gives ∙ (text-Decides w who).1 same in (
      added all front c place w places own is (subst (λ (x : List ℕ). commands_at all x ≡ commands_by w front) one are.0),
      places-other all front c who ws all_places gives (subst (λ (x : List ℕ). is_one_of ws x ≡ false) same apart.0) are.1,
    )
places-added all front c place who (w ∷ ws) (s ∷ all_places) (suc at) places gives is apart stands old are =
    let other : is_from w c ≡ false = ap (same_giver (Some w)) gives ∙ apart_from ws w who at apart.0 stands in (
      kept all front c w s other are.0,
      places-added all front c place who ws all_places at places gives is apart.1 stands old are.1,
    )

-- there is a places for each participant
pub no_places_less : (all front : List Command) (ws all_places : List (List ℕ)) (at : ℕ) (who : List ℕ) → AreAllPlaces all front ws all_places
    → slice_get ws at ≡ Some who → at < length all_places
no_places_less all front [] all_places at who are stands = absurd (cc)
no_places_less all front (w ∷ ws) [] at who are stands = absurd are
no_places_less all front (w ∷ ws) (s ∷ all_places) zero who are stands = omega arith
no_places_less all front (w ∷ ws) (s ∷ all_places) (suc at) who are stands =
    omega (arith, no_places_less all front ws all_places at who are.1 stands)
