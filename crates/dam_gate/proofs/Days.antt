-- A settled gate through which each participant entered its own commands in their order holds a day run.
use Rattle.std.proofs.Common.{slice_get, ◌≡◌, ◌≢◌, ℕ, zero, suc, ◌+◌, ◌<◌, ◌≤◌, ◌==◌, ◌⊎◌, inl, inr, Bool, true, false, cond}
use Rattle.std.proofs.Common.{if◌then◌else◌, ◌||◌, List, [], ◌∷◌, ◌++◌, length, get_or, map, take, drop, Option, Some, None, refl, sym, ap}
use Rattle.std.proofs.Common.{ap₂, subst, ◌∙◌, append-nil, length-append, arith}
use Rattle.std.proofs.Common.{Result, Ok, Err, IfErr}
use Rattle.std.specs.List.{filter, cons_option}
use Rattle.std.specs.Result.{IsErrAnd}
use Rattle.std.specs.Bool.{Decides}
use Rattle.std.proofs.lemmas.Bool.{eqb-true, eqb-false, cases_lt, or_parts}
use Rattle.std.proofs.lemmas.Bool.Decides.{Decides-eqb}
use Rattle.std.proofs.lemmas.List.{length-map, take-append-drop, take_more, get_or-map, map-append, append_assoc}
use Rattle.std.proofs.lemmas.List.Elements.{filter-append}
use Rattle.std.proofs.lemmas.Slice.Eq.{slice_eq-Decides}
use Rattle.dam_book.specs.Name.{same_text}
use Rattle.dam_book.specs.declared.command.Command.{Command}
use Rattle.dam_book.specs.declared.command.Command.TheVariants.{Submit, Amend, Cancel, Close}
use Rattle.dam_book.specs.declared.command.Entry.{Entry}
use Rattle.dam_book.specs.Book.{BookState, empty_book, book_after, commands_of, IsLegalFrom, IsLegalHistory}
use Rattle.dam_gate.specs.Pass.{AccountState, Knowledge, knowing_nothing, IsAccount, AreInOrder, holders, new_account, is_from, is_close}
use Rattle.dam_gate.specs.Settled.{numbered, receipts_of}
use Rattle.dam_book.specs.Command.{giver}
use Rattle.dam_gate.specs.Day.{commands_by, is_one_of, AreTaken, IsDayFault, givers_from, givers_of, with_any, with_giver, IsDayRun}
use Rattle.dam_gate.specs.inside.Tally.{AreReceipts}
use Rattle.dam_gate.specs.inside.Entering.{AreApart, AreGivers, AreServed, AreAllPlaces, Enters, HasAll, HasEntered, IsFaultAt}
use Rattle.dam_gate.specs.inside.Entering.{commands_at, places_of}
use Rattle.dam_gate.specs.declared.day.DayFault.{DayFault}
use Rattle.dam_gate.specs.declared.day.DayFault.TheVariants.{TooManyCommands, CloseGiven, TooManyParticipants, NotSettled, Memory}
use Rattle.dam_book.specs.Limits.{most_entries}
use Rattle.dam_gate.specs.Limits.{most_participants}
use Rattle.std.proofs.lemmas.Grind.{flat_map-append}
use Rattle.std.proofs.lemmas.List.Folds.{list_any-append}
use Rattle.dam_gate.proofs.Numbers.{numbered-head, numbered-tail}

-- ---- texts

pub text-Decides : (xs ys : List ℕ) → Decides (same_text xs ys) (xs ≡ ys)
text-Decides xs ys = slice_eq-Decides Decides-eqb xs ys (same_text xs ys) refl

-- a command is from one participant only
from-one : (who other : List ℕ) (c : Command) → is_from who c ≡ true → is_from other c ≡ same_text other who
from-one who other (Submit giver name order) from = ap (same_text other) (sym ((text-Decides who giver).0 from))
from-one who other (Amend giver name price volumes) from = ap (same_text other) (sym ((text-Decides who giver).0 from))
from-one who other (Cancel giver name) from = ap (same_text other) (sym ((text-Decides who giver).0 from))
from-one who other Close from = absurd (cc)

from-not_close : (who : List ℕ) (c : Command) → is_from who c ≡ true → is_close c ≡ false
from-not_close who (Submit giver name order) from = refl
from-not_close who (Amend giver name price volumes) from = refl
from-not_close who (Cancel giver name) from = refl
from-not_close who Close from = absurd (cc)

-- ---- filters

pub filter-yes : {X : Type 0} (p : X → Bool) (x : X) (xs : List X) → p x ≡ true → filter p (x ∷ xs) ≡ x ∷ filter p xs
filter-yes p x xs is = ap (λ (b : Bool). cond b (x ∷ filter p xs) (filter p xs)) is

pub filter-no : {X : Type 0} (p : X → Bool) (x : X) (xs : List X) → p x ≡ false → filter p (x ∷ xs) ≡ filter p xs
filter-no p x xs is = ap (λ (b : Bool). cond b (x ∷ filter p xs) (filter p xs)) is

both-step : {X : Type 0} (p q : X → Bool) (x : X) (xs : List X) (s t : Bool) → filter p (filter q xs) ≡ filter q (filter p xs) → p x ≡ s
    → q x ≡ t
    → filter p (filter q (x ∷ xs)) ≡ filter q (filter p (x ∷ xs))
both-step p q x xs true true ih a b =
    ap (filter p) (filter-yes q x xs b) ∙ filter-yes p x (filter q xs) a ∙ ap (λ (ys : List _). x ∷ ys) ih
    ∙ sym (filter-yes q x (filter p xs) b) ∙ sym (ap (filter q) (filter-yes p x xs a))
both-step p q x xs true false ih a b =
    ap (filter p) (filter-no q x xs b) ∙ ih ∙ sym (filter-no q x (filter p xs) b) ∙ sym (ap (filter q) (filter-yes p x xs a))
both-step p q x xs false true ih a b = ap (filter p) (filter-yes q x xs b) ∙ filter-no p x (filter q xs) a ∙ ih
    ∙ sym (ap (filter q) (filter-no p x xs a))
both-step p q x xs false false ih a b = ap (filter p) (filter-no q x xs b) ∙ ih ∙ sym (ap (filter q) (filter-no p x xs a))

both-filters : {X : Type 0} (p q : X → Bool) (xs : List X) → filter p (filter q xs) ≡ filter q (filter p xs)
both-filters p q [] = refl
both-filters p q (x ∷ xs) = both-step p q x xs (p x) (q x) (both-filters p q xs) refl refl

-- whether the entry's command passes
abbrev pub of_command : (Command → Bool) → Entry → Bool
of_command p e = p e.command

commands-step : (p : Command → Bool) (e : Entry) (es : List Entry) (t : Bool)
    → commands_of (filter (of_command p) es) ≡ filter p (commands_of es) → p e.command ≡ t
    → commands_of (filter (of_command p) (e ∷ es)) ≡ filter p (commands_of (e ∷ es))
commands-step p e es true ih is =
    ap commands_of (filter-yes (of_command p) e es is) ∙ ap (λ (cs : List Command). e.command ∷ cs) ih
    ∙ sym (filter-yes p e.command (commands_of es) is)
commands-step p e es false ih is = ap commands_of (filter-no (of_command p) e es is) ∙ ih ∙ sym (filter-no p e.command (commands_of es) is)

commands-filter : (p : Command → Bool) (es : List Entry) → commands_of (filter (of_command p) es) ≡ filter p (commands_of es)
commands-filter p [] = refl
commands-filter p (e ∷ es) = commands-step p e es (p e.command) (commands-filter p es) refl

pub no_commands : (es : List Entry) → commands_of es ≡ [] → es ≡ []
no_commands [] none = refl
no_commands (e ∷ es) none = absurd (cc)

-- ---- entries in order

order-lower : (low less seen : ℕ) (es : List Entry) → less ≤ low → AreInOrder low seen es → AreInOrder less seen es
order-lower low less seen [] below ordered = omega (arith, below, ordered)
order-lower low less seen (e ∷ es) below ordered = (omega (arith, below, ordered.0), ordered.1)

order-step : (p : Entry → Bool) (low seen : ℕ) (e : Entry) (es : List Entry) (t : Bool) → low < e.number
    → AreInOrder e.number seen (filter p es) → p e ≡ t
    → AreInOrder low seen (filter p (e ∷ es))
order-step p low seen e es true above rest is = subst (AreInOrder low seen) (sym (filter-yes p e es is)) (above, rest)
order-step p low seen e es false above rest is =
    subst (AreInOrder low seen) (sym (filter-no p e es is)) (order-lower e.number low seen (filter p es) (omega (arith, above)) rest)

order-filter : (p : Entry → Bool) (low seen : ℕ) (es : List Entry) → AreInOrder low seen es → AreInOrder low seen (filter p es)
order-filter p low seen [] ordered = ordered
order-filter p low seen (e ∷ es) ordered = order-step p low seen e es (p e) ordered.0 (order-filter p e.number seen es ordered.1) refl

legal-order : (low : ℕ) (b : BookState) (es : List Entry) → IsLegalFrom (suc low) b es → AreInOrder low (low + length es) es
legal-order low b [] legal = omega arith
legal-order low b (e ∷ es) legal =
    let own : suc low ≡ e.number = sym legal.0 in
    let last : suc low + length es ≡ low + suc (length es) = omega arith in (
      omega (arith, own),
      subst (λ (n : ℕ). AreInOrder n (low + suc (length es)) es) own
          (subst (λ (n : ℕ). AreInOrder (suc low) n es) last (legal-order (suc low) (book_after b e.command) es legal.2)),
    )

pub none_in_order : (m low seen : ℕ) (es : List Entry) → m ≤ low → AreInOrder low seen es → numbered m es ≡ []
none_in_order m low seen [] below ordered = refl
none_in_order m low seen (e ∷ es) below ordered =
    numbered-tail m e es (λ same. omega (arith, same, below, ordered.0))
    ∙ none_in_order m e.number seen es (omega (arith, below, ordered.0)) ordered.1

same-tails : (m last first : ℕ) (x y : Entry) (xs ys : List Entry) → x ≡ y → AreInOrder x.number last xs → AreInOrder y.number first ys
    → numbered m (x ∷ xs) ≡ numbered m (y ∷ ys) → (x.number ≡ m) ⊎ (x.number ≢ m) → numbered m xs ≡ numbered m ys
same-tails m last first x y xs ys head a b same (inl own) =
    none_in_order m x.number last xs (omega (arith, own)) a
    ∙ sym (none_in_order m y.number first ys (let n = ap (λ (e : Entry). e.number) head in omega (arith, own, n)) b)
same-tails m last first x y xs ys head a b same (inr other) =
    sym (numbered-tail m x xs other) ∙ same ∙ numbered-tail m y ys (λ own. other (ap (λ (e : Entry). e.number) head ∙ own))

pub is_number : (n m : ℕ) → (n ≡ m) ⊎ (n ≢ m)
is_number n m = elim (n == m) as (λ (t : Bool). n == m ≡ t → (n ≡ m) ⊎ (n ≢ m))
    [ true ↦ λ e. inl (eqb-true n m e) | false ↦ λ e. inr (eqb-false n m e) ] refl

-- the one of the lesser number would be missing in the other list
heads-apart : (last : ℕ) (x y : Entry) (xs ys : List Entry) → numbered x.number (x ∷ xs) ≡ numbered x.number (y ∷ ys)
    → AreInOrder y.number last ys → x.number < y.number → ⊥
heads-apart last x y xs ys same ordered less =
    let none : numbered x.number (y ∷ ys) ≡ [] =
    numbered-tail x.number y ys (λ e. omega (arith, e, less)) ∙ none_in_order x.number y.number last ys (omega (arith, less)) ordered in
    let some : x ∷ numbered x.number xs ≡ [] = sym (numbered-head x.number x xs refl) ∙ same ∙ none in
    cc

heads-equal : (x y : Entry) (xs ys : List Entry) → x.number ≡ y.number → numbered x.number (x ∷ xs) ≡ numbered x.number (y ∷ ys) → x ≡ y
heads-equal x y xs ys number same =
    let both : x ∷ numbered x.number xs ≡ y ∷ numbered x.number ys = sym (numbered-head x.number x xs refl) ∙ same
    ∙ numbered-head x.number y ys (sym number) in
    cc

heads : (last first : ℕ) (x y : Entry) (xs ys : List Entry) → AreInOrder x.number last xs → AreInOrder y.number first ys
    → ((m : ℕ) → numbered m (x ∷ xs) ≡ numbered m (y ∷ ys)) → (x.number < y.number) ⊎ (y.number ≤ x.number) → (y.number < x.number)
    ⊎ (x.number ≤ y.number) → x ≡ y
heads last first x y xs ys a b same (inl less) other = absurd (heads-apart first x y xs ys (same x.number) b less)
heads last first x y xs ys a b same (inr more) (inl less) = absurd (heads-apart last y x ys xs (sym (same y.number)) a less)
heads last first x y xs ys a b same (inr more) (inr no_more) = heads-equal x y xs ys (omega (arith, more, no_more)) (same x.number)

same_ordered : (low last less first : ℕ) (xs ys : List Entry) → AreInOrder low last xs → AreInOrder less first ys
    → ((m : ℕ) → numbered m xs ≡ numbered m ys) → xs ≡ ys
same_ordered low last less first [] [] a b same = refl
same_ordered low last less first [] (y ∷ ys) a b same =
    let none : [] ≡ y ∷ numbered y.number ys = same y.number ∙ numbered-head y.number y ys refl in absurd (cc)
same_ordered low last less first (x ∷ xs) [] a b same =
    let none : [] ≡ x ∷ numbered x.number xs = sym (same x.number) ∙ numbered-head x.number x xs refl in absurd (cc)
same_ordered low last less first (x ∷ xs) (y ∷ ys) a b same =
    let head = heads last first x y xs ys a.1 b.1 same (cases_lt x.number y.number) (cases_lt y.number x.number) in
    ap₂ (λ (e : Entry) (es : List Entry). e ∷ es) head
    (same_ordered x.number last y.number first xs ys a.1 b.1
    (λ m. same-tails m last first x y xs ys head a.1 b.1 (same m) (is_number x.number m)))

-- the receipts that pass, in order, are the entries that pass
same_passing : (p : Entry → Bool) (periods seen : ℕ) (es rs : List Entry) → IsLegalHistory periods es → AreReceipts es rs
    → AreInOrder 0 seen (filter p rs) → filter p rs ≡ filter p es
same_passing p periods seen es rs legal are ordered =
    same_ordered 0 seen 0 (length es) (filter p rs) (filter p es) ordered
    (subst (λ (n : ℕ). AreInOrder 0 n (filter p es)) (let e : 0 + length es ≡ length es = omega arith in e)
    (order-filter p 0 (0 + length es) es (legal-order 0 (empty_book periods) es legal)))
    (λ m. both-filters (λ (e : Entry). e.number == m) p rs ∙ ap (filter p) (are m) ∙ both-filters p (λ (e : Entry). e.number == m) es)

-- ---- the shares of the participants

-- of one's own commands all are one's own, and none another's
own-step : (who other : List ℕ) (c : Command) (cs : List Command) (t : Bool)
    → filter (is_from other) (filter (is_from who) cs) ≡ cond (same_text other who) (filter (is_from who) cs) []
    → is_from who c ≡ t → filter (is_from other) (filter (is_from who) (c ∷ cs)) ≡ cond (same_text other who)
    (filter (is_from who) (c ∷ cs)) []
own-step who other c cs true ih is =
    ap (filter (is_from other)) (filter-yes (is_from who) c cs is)
    ∙ go (same_text other who) (filter (is_from who) cs) ih (from-one who other c is)
    ∙ ap (λ (ds : List Command). cond (same_text other who) ds []) (sym (filter-yes (is_from who) c cs is))
  where
    go : (b : Bool) (ds : List Command) → filter (is_from other) ds ≡ cond b ds [] → is_from other c ≡ b
        → filter (is_from other) (c ∷ ds) ≡ cond b (c ∷ ds) []
    go true ds rest from = filter-yes (is_from other) c ds from ∙ ap (λ (xs : List Command). c ∷ xs) rest
    go false ds rest from = filter-no (is_from other) c ds from ∙ rest
own-step who other c cs false ih is =
    ap (filter (is_from other)) (filter-no (is_from who) c cs is) ∙ ih
    ∙ ap (λ (ds : List Command). cond (same_text other who) ds []) (sym (filter-no (is_from who) c cs is))

nothing_left : (b : Bool) (cs : List Command) → cs ≡ [] → cs ≡ cond b cs []
nothing_left true cs none = refl
nothing_left false cs none = none

own_again : (who other : List ℕ) (cs : List Command) → commands_by other (commands_by who cs) ≡ cond (same_text other who)
    (commands_by who cs) []
own_again who other [] = nothing_left (same_text other who) [] refl
own_again who other (c ∷ cs) = own-step who other c cs (is_from who c) (own_again who other cs) refl

no_close-step : (who : List ℕ) (c : Command) (cs : List Command) (t : Bool) → filter is_close (filter (is_from who) cs) ≡ []
    → is_from who c ≡ t
    → filter is_close (filter (is_from who) (c ∷ cs)) ≡ []
no_close-step who c cs true ih is =
    ap (filter is_close) (filter-yes (is_from who) c cs is) ∙ filter-no is_close c (filter (is_from who) cs) (from-not_close who c is) ∙ ih
no_close-step who c cs false ih is = ap (filter is_close) (filter-no (is_from who) c cs is) ∙ ih

no_close : (who : List ℕ) (cs : List Command) → filter is_close (commands_by who cs) ≡ []
no_close who [] = refl
no_close who (c ∷ cs) = no_close-step who c cs (is_from who c) (no_close who cs) refl

-- ---- who gives the commands

pub text-apart : (a b : List ℕ) → same_text a b ≡ false → same_text b a ≡ false
text-apart a b apart = go (same_text b a) refl
  where
    go : (t : Bool) → same_text b a ≡ t → t ≡ false
    go true is = let one : true ≡ false = sym ((text-Decides a b).1 (sym ((text-Decides b a).0 is))) ∙ apart in absurd (cc)
    go false is = refl

from-giver : (other who : List ℕ) (c : Command) → giver c ≡ Some who → is_from other c ≡ same_text other who
from-giver other who (Submit w name order) is = let same : w ≡ who = cc in ap (same_text other) same
from-giver other who (Amend w name price volumes) is = let same : w ≡ who = cc in ap (same_text other) same
from-giver other who (Cancel w name) is = let same : w ≡ who = cc in ap (same_text other) same
from-giver other who Close is = absurd (cc)

apart-more : (participants : List (List ℕ)) (who : List ℕ) → AreApart participants → is_one_of participants who ≡ false
    → AreApart (participants ++ who ∷ [])
apart-more [] who apart other = (refl, tt)
apart-more (w ∷ participants) who apart other =
    let parts = or_parts (same_text who w) (is_one_of participants who) other in (
      list_any-append (same_text w) participants (who ∷ [])
          ∙ ap₂ (λ (a b : Bool). a || (b || false)) apart.0 (text-apart who w parts.0),
      apart-more participants who apart.1 parts.1,
    )

by-none : (other : List ℕ) (front : List Command) (c : Command) → commands_by other front ≡ [] → is_from other c ≡ false
    → commands_by other (front ++ c ∷ []) ≡ []
by-none other front c none not_from =
    filter-append (is_from other) front (c ∷ []) ∙ ap₂ (λ (cs : List Command) (b : Bool). cs ++ cond b (c ∷ []) []) none not_from

known-giver : (participants : List (List ℕ)) (who other : List ℕ) → is_one_of participants who ≡ true → is_one_of participants other ≡ false
    → same_text other who ≡ false
known-giver participants who other known unknown = go (same_text other who) refl
  where
    go : (t : Bool) → same_text other who ≡ t → t ≡ false
    go true is = let one : true ≡ false = sym known ∙ ap (is_one_of participants) (sym ((text-Decides other who).0 is)) ∙ unknown in
        absurd (cc)
    go false is = refl

givers-step : (participants : List (List ℕ)) (who : List ℕ) (c : Command) (front : List Command) (t : Bool) → is_one_of participants who ≡ t
    → giver c ≡ Some who → AreGivers participants front
    → AreGivers (if t then participants else participants ++ who ∷ []) (front ++ c ∷ [])
givers-step participants who c front true known gives are =
    record {
      apart = are.apart;
      all = λ other unknown. by-none other front c (are.all other unknown)
          (from-giver other who c gives ∙ known-giver participants who other known unknown);
    }
givers-step participants who c front false new gives are =
    record {
      apart = apart-more participants who are.apart new;
      all = λ other unknown.
          let parts = or_parts (is_one_of participants other) (same_text other who || false)
          (sym (list_any-append (same_text other) participants (who ∷ [])) ∙ unknown) in
          let apart = or_parts (same_text other who) false parts.1 in
          by-none other front c (are.all other parts.0) (from-giver other who c gives ∙ apart.0);
    }

pub givers-more : (participants : List (List ℕ)) (who : List ℕ) (c : Command) (front : List Command) → giver c ≡ Some who
    → AreGivers participants front → AreGivers (with_giver participants who) (front ++ c ∷ [])
givers-more participants who c front gives are = givers-step participants who c front (is_one_of participants who) refl gives are

givers_from-snoc : (participants : List (List ℕ)) (front : List Command) (c : Command)
    → givers_from participants (front ++ c ∷ []) ≡ with_any (givers_from participants front) (giver c)
givers_from-snoc participants [] c = refl
givers_from-snoc participants (x ∷ front) c = givers_from-snoc (with_any participants (giver x)) front c

pub order-more : (participants : List (List ℕ)) (who : List ℕ) (c : Command) (front : List Command) → giver c ≡ Some who
    → participants ≡ givers_of front
    → with_giver participants who ≡ givers_of (front ++ c ∷ [])
order-more participants who c front gives is =
    ap (λ (ps : List (List ℕ)). with_giver ps who) is ∙ ap (with_any (givers_of front)) (sym gives) ∙ sym (givers_from-snoc [] front c)

given-open : (c : Command) (who : List ℕ) → giver c ≡ Some who → is_close c ≡ false
given-open (Submit w name order) who gives = refl
given-open (Amend w name price volumes) who gives = refl
given-open (Cancel w name) who gives = refl
given-open Close who gives = absurd (cc)

pub no_close-more : (c : Command) (who : List ℕ) (front : List Command) → giver c ≡ Some who → filter is_close front ≡ []
    → filter is_close (front ++ c ∷ []) ≡ []
no_close-more c who front gives none =
    filter-append is_close front (c ∷ []) ∙ ap₂ (λ (cs : List Command) (b : Bool). cs ++ cond b (c ∷ []) []) none (given-open c who gives)

-- ---- the first command that isn't taken

nobody-closes : (c : Command) → giver c ≡ None → c ≡ Close
nobody-closes (Submit who name order) none = absurd (cc)
nobody-closes (Amend who name price volumes) none = absurd (cc)
nobody-closes (Cancel who name) none = absurd (cc)
nobody-closes Close none = refl

-- the commands before the place are taken, and the one at the place isn't
pub refused-at : (cs : List Command) (place : ℕ) (participants : List (List ℕ)) (c : Command) (fault : DayFault) → length cs < most_entries
    → place < length cs → slice_get cs place ≡ Some c
    → take (place + 1) cs ≡ take place cs ++ c ∷ [] → AreTaken (take place cs) → participants ≡ givers_of (take place cs)
    → IsFaultAt place participants c fault → IsDayFault cs fault
refused-at cs place participants c TooManyCommands room inside at next taken order is = absurd is
refused-at cs place participants c (CloseGiven other) room inside at next taken order is =
    subst (λ (n : ℕ). IsDayFault cs (CloseGiven n)) (sym is.0) (room, taken, at ∙ ap (λ (d : Command). Some d) (nobody-closes c is.1))
refused-at cs place participants c (TooManyParticipants other) room inside at next taken order is =
    let more : with_any participants (giver c) ≡ givers_of (take (place + 1) cs) =
    ap (λ (ps : List (List ℕ)). with_any ps (giver c)) order ∙ sym (givers_from-snoc [] (take place cs) c) ∙ ap givers_of (sym next) in
    subst (λ (n : ℕ). IsDayFault cs (TooManyParticipants n)) (sym is.0)
    (room, taken, inside, subst (λ (ps : List (List ℕ)). most_participants < length ps) more is.1)
refused-at cs place participants c (NotSettled why) room inside at next taken order is = absurd is
refused-at cs place participants c Memory room inside at next taken order is = room

-- a fault that is passed on
pub passed_on : {X : Type 0} (P : DayFault → Type 0) (r : Result X DayFault) (fault : DayFault) → IsErrAnd r (λ e. e ≡ fault) → P fault
    → IfErr r P
passed_on P (Ok x) fault same is = tt
passed_on P (Err e) fault same is = subst P (sym same) is

-- ---- the shares of the participants in the journal

-- the receipts that are from a participant
pub record Share (given : List Command) (other : List ℕ) (one : Bool) (rs : List Entry) : Type 0 where
  pub last : ℕ
  pub in_order : AreInOrder 0 last (filter (of_command (is_from other)) rs)
  pub commands : commands_of (filter (of_command (is_from other)) rs) ≡ cond one (commands_by other given) []

share-step : (given : List Command) (other who : List ℕ) (participants : List (List ℕ)) (p : AccountState) (rest : List Entry) (t : Bool)
    → is_one_of participants who ≡ false → IsAccount p
    → commands_of (filter (of_command (is_from other)) p.receipts) ≡ cond t (commands_by who given) [] → same_text other who ≡ t
    → Share given other (is_one_of participants other) rest
    → Share given other (t || is_one_of participants other) (p.receipts ++ rest)
share-step given other who participants p rest true apart pass mine is share =
    let same : other ≡ who = (text-Decides other who).0 is in
    let P = of_command (is_from other) in
    let gone : filter P rest ≡ [] =
    no_commands (filter P rest) (share.commands ∙ ap (λ (b : Bool). cond b (commands_by other given) [])
    (ap (is_one_of participants) same ∙ apart)) in
    let whole : filter P (p.receipts ++ rest) ≡ filter P p.receipts =
    filter-append P p.receipts rest ∙ ap (λ (es : List Entry). filter P p.receipts ++ es) gone ∙ append-nil (filter P p.receipts) in
    record {
      last = p.seen;
      in_order = subst (AreInOrder 0 p.seen) (sym whole) (order-filter P 0 p.seen p.receipts pass.in_order);
      commands = ap commands_of whole ∙ mine ∙ ap (λ (w : List ℕ). commands_by w given) (sym same);
    }
share-step given other who participants p rest false apart pass mine is share =
    let P = of_command (is_from other) in
    let gone : filter P p.receipts ≡ [] = no_commands (filter P p.receipts) mine in
    let whole : filter P (p.receipts ++ rest) ≡ filter P rest = filter-append P p.receipts rest
    ∙ ap (λ (es : List Entry). es ++ filter P rest) gone in
    record {
      last = share.last;
      in_order = subst (AreInOrder 0 share.last) (sym whole) share.in_order;
      commands = ap commands_of whole ∙ share.commands;
    }

pub shares : (given : List Command) (other : List ℕ) (participants : List (List ℕ)) (ps : List AccountState) → AreApart participants
    → AreServed given participants ps → Share given other (is_one_of participants other) (receipts_of ps)
shares given other [] [] apart served = record { last = 0; in_order = omega arith; commands = refl }
shares given other (who ∷ participants) (p ∷ ps) apart served =
    share-step given other who participants p (receipts_of ps) (same_text other who) apart.0 served.1
    (commands-filter (is_from other) p.receipts ∙ ap (filter (is_from other)) served.0 ∙ own_again who other given) refl
    (shares given other participants ps apart.1 served.2)
shares given other [] (p ∷ ps) apart served = absurd served
shares given other (who ∷ participants) [] apart served = absurd served

pub no_closes : (given : List Command) (participants : List (List ℕ)) (ps : List AccountState) → AreServed given participants ps
    → filter (of_command is_close) (receipts_of ps) ≡ []
no_closes given [] [] served = refl
no_closes given (who ∷ participants) (p ∷ ps) served =
    let Q = of_command is_close in
    let mine : filter Q p.receipts ≡ [] =
    no_commands (filter Q p.receipts) (commands-filter is_close p.receipts ∙ ap (filter is_close) served.0 ∙ no_close who given) in
    filter-append Q p.receipts (receipts_of ps) ∙ ap₂ (λ (a b : List Entry). a ++ b) mine (no_closes given participants ps served.2)
no_closes given [] (p ∷ ps) served = absurd served
no_closes given (who ∷ participants) [] served = absurd served

-- ---- the day

known-or-none : (given : List Command) (who : List ℕ) (t : Bool) → (t ≡ false → commands_by who given ≡ [])
    → cond t (commands_by who given) [] ≡ commands_by who given
known-or-none given who true none = refl
known-or-none given who false none = sym (none refl)

nothing_before : (xs : List Command) (c : Command) → xs ++ c ∷ [] ≡ c ∷ [] → xs ≡ []
nothing_before [] c one = refl
nothing_before (x ∷ xs) c one = absurd (omega (arith, ap (λ (ys : List Command). length ys) one, length-append xs (c ∷ [])))

-- the receipts that the operator's pass adds
with_operator : (p : Command → Bool) (ps : List AccountState) (op : AccountState)
    → filter (of_command p) (receipts_of (ps ++ op ∷ [])) ≡ filter (of_command p) (receipts_of ps) ++ filter (of_command p) op.receipts
with_operator p ps op =
    ap (filter (of_command p)) (flat_map-append (λ (q : AccountState). q.receipts) ps (op ∷ [])
    ∙ ap (λ (es : List Entry). receipts_of ps ++ es) (append-nil op.receipts))
    ∙ filter-append (of_command p) (receipts_of ps) op.receipts

closed-by : (given : List Command) (participants : List (List ℕ)) (ps : List AccountState) (op : AccountState) → AreServed given participants ps
    → filter (of_command is_close) (receipts_of (ps ++ op ∷ [])) ≡ filter (of_command is_close) op.receipts
closed-by given participants ps op served =
    with_operator is_close ps op ∙ ap (λ (xs : List Entry). xs ++ filter (of_command is_close) op.receipts)
    (no_closes given participants ps served)

one-close : (periods : ℕ) (given : List Command) (participants : List (List ℕ)) (es : List Entry) (ps : List AccountState) (op : AccountState)
    (before : List Command)
    → IsLegalHistory periods es → AreReceipts es (receipts_of (ps ++ op ∷ [])) → AreServed given participants ps
    → commands_of op.receipts ≡ Close ∷ [] → IsAccount op → commands_of es ≡ before ++ Close ∷ [] → filter is_close before ≡ []
one-close periods given participants es ps op before legal are served closes pass last =
    let Q = of_command is_close in
    let rs = receipts_of (ps ++ op ∷ []) in
    let closed = closed-by given participants ps op served in
    let ordered : AreInOrder 0 op.seen (filter Q rs) = subst (AreInOrder 0 op.seen) (sym closed)
    (order-filter Q 0 op.seen op.receipts pass.in_order) in
    let of_journal : commands_of (filter Q es) ≡ filter is_close before ++ Close ∷ [] =
    commands-filter is_close es ∙ ap (filter is_close) last ∙ filter-append is_close before (Close ∷ []) in
    let of_receipts : commands_of (filter Q rs) ≡ Close ∷ [] = ap commands_of closed ∙ commands-filter is_close op.receipts
    ∙ ap (filter is_close) closes in
    nothing_before (filter is_close before) Close (sym of_journal
    ∙ ap commands_of (sym (same_passing Q periods op.seen es rs legal are ordered)) ∙ of_receipts)

own-order : (periods : ℕ) (given : List Command) (participants : List (List ℕ)) (es : List Entry) (ps : List AccountState) (op : AccountState)
    (who : List ℕ)
    → IsLegalHistory periods es → AreReceipts es (receipts_of (ps ++ op ∷ [])) → AreGivers participants given
    → AreServed given participants ps
    → commands_of op.receipts ≡ Close ∷ [] → commands_by who (commands_of es) ≡ commands_by who given
own-order periods given participants es ps op who legal are givers served closes =
    let P = of_command (is_from who) in
    let rs = receipts_of (ps ++ op ∷ []) in
    let share = shares given who participants ps givers.apart served in
    let none : filter P op.receipts ≡ [] = no_commands (filter P op.receipts)
    (commands-filter (is_from who) op.receipts ∙ ap (filter (is_from who)) closes) in
    let whole : filter P rs ≡ filter P (receipts_of ps) =
    with_operator (is_from who) ps op ∙ ap (λ (xs : List Entry). filter P (receipts_of ps) ++ xs) none
    ∙ append-nil (filter P (receipts_of ps)) in
    let ordered : AreInOrder 0 share.last (filter P rs) = subst (AreInOrder 0 share.last) (sym whole) share.in_order in
    sym (commands-filter (is_from who) es) ∙ ap commands_of (sym (same_passing P periods share.last es rs legal are ordered))
    ∙ ap commands_of whole ∙ share.commands ∙ known-or-none given who (is_one_of participants who) (givers.all who)

pub day_run : (periods : ℕ) (given : List Command) (participants : List (List ℕ)) (es : List Entry) (ps : List AccountState) (op : AccountState)
    (before : List Command)
    → IsLegalHistory periods es → AreReceipts es (receipts_of (ps ++ op ∷ [])) → AreGivers participants given
    → AreServed given participants ps
    → commands_of op.receipts ≡ Close ∷ [] → IsAccount op → commands_of es ≡ before ++ Close ∷ [] → IsDayRun periods given es
day_run periods given participants es ps op before legal are givers served closes pass last =
    record {
      legal = legal;
      before = before;
      close_last = last;
      close_once = one-close periods given participants es ps op before legal are served closes pass last;
      own_order = λ who. own-order periods given participants es ps op who legal are givers served closes;
    }

-- ---- the facts that the code keeps

split-head : (o : Option Command) (all front back : List Command) → all ≡ front ++ back → cons_option o all ≡ cons_option o front ++ back
split-head None all front back is = is
split-head (Some c) all front back is = ap (λ (ds : List Command). c ∷ ds) is

commands_at-split : (cs : List Command) (ps qs : List ℕ) → commands_at cs (ps ++ qs) ≡ commands_at cs ps ++ commands_at cs qs
commands_at-split cs [] qs = refl
commands_at-split cs (p ∷ ps) qs =
    split-head (slice_get cs p) (commands_at cs (ps ++ qs)) (commands_at cs ps) (commands_at cs qs) (commands_at-split cs ps qs)

pub own-split : (cs : List Command) (places : List ℕ) (i : ℕ)
    → commands_at cs places ≡ commands_at cs (take i places) ++ commands_at cs (drop i places)
own-split cs places i = ap (commands_at cs) (sym (take-append-drop i places)) ∙ commands_at-split cs (take i places) (drop i places)

-- the commands at one place more
pub one-place : (cs : List Command) (ps : List ℕ) (p : ℕ) (o : Option Command) → slice_get cs p ≡ o
    → commands_at cs (ps ++ p ∷ []) ≡ commands_at cs ps ++ cons_option o []
one-place cs ps p o is =
    commands_at-split cs ps (p ∷ []) ∙ ap (λ (x : Option Command). commands_at cs ps ++ cons_option x []) is

-- the commands at the places so far and at the next one
pub next-place : (cs : List Command) (ps : List ℕ) (i : ℕ) (o : Option Command) → i < length ps → slice_get cs (get_or ps i 0) ≡ o
    → commands_at cs (take (i + 1) ps) ≡ commands_at cs (take i ps) ++ cons_option o []
next-place cs ps i o within is = ap (commands_at cs) (take_more ps i 0 within) ∙ one-place cs (take i ps) (get_or ps i 0) o is

-- a receipt more
pub one-receipt : (given : List Command) (before so_far : List Command) (es : List Entry) (e : Entry) → commands_of es ≡ before ++ so_far
    → given ≡ so_far ++ e.command ∷ [] → commands_of (es ++ e ∷ []) ≡ before ++ given
one-receipt given before so_far es e entered more =
    map-append (λ (x : Entry). x.command) es (e ∷ []) ∙ ap (λ (cs : List Command). cs ++ e.command ∷ []) entered
    ∙ append_assoc before so_far (e.command ∷ []) ∙ ap (λ (cs : List Command). before ++ cs) (sym more)

fewer-head : (o : Option Command) (ds : List Command) (n : ℕ) → length ds ≤ n → length (cons_option o ds) ≤ suc n
fewer-head None ds n few = omega (arith, few)
fewer-head (Some c) ds n few = omega (arith, few)

fewer : (cs : List Command) (places : List ℕ) → length (commands_at cs places) ≤ length places
fewer cs [] = omega arith
fewer cs (p ∷ ps) = fewer-head (slice_get cs p) (commands_at cs ps) (length ps) (fewer cs ps)

-- as many receipts as places in the places are of all its commands
none-left : (xs ys : List Command) (n : ℕ) → length xs ≡ n → length (xs ++ ys) ≤ n → ys ≡ []
none-left xs [] n same few = refl
none-left xs (y ∷ ys) n same few = absurd (omega (arith, same, few, length-append xs (y ∷ ys)))

all-entered : (cs : List Command) (places : List ℕ) (p : AccountState) → HasEntered [] (commands_at cs places) p → length p.receipts ≡ length places
    → commands_of p.receipts ≡ commands_at cs places
all-entered cs places p has as_long =
    let count : length has.entered ≡ length places =
    ap (λ (ds : List Command). length ds) (sym has.receipts) ∙ length-map p.receipts (λ (e : Entry). e.command) ∙ as_long in
    let most : length (has.entered ++ has.left) ≤ length places =
    subst (λ (ds : List Command). length ds ≤ length places) has.own_is (fewer cs places) in
    has.receipts ∙ sym (append-nil has.entered)
    ∙ ap (λ (ds : List Command). has.entered ++ ds) (sym (none-left has.entered has.left (length places) count most))
    ∙ sym has.own_is

-- a participant's pass that has receipts of all its own commands
abbrev pub IsServed : List Command → List ℕ → AccountState → Type 0
IsServed given who p = (commands_of p.receipts ≡ commands_by who given) × IsAccount p

served : (given : List Command) (who : List ℕ) (places : List ℕ) (before p : AccountState) → before ≡ new_account (Some who)
    → commands_at given places ≡ commands_by who given → Enters (commands_at given places) before p → HasAll places p → IsServed given who p
served given who places before p new mine enters all =
    let entered : HasEntered [] (commands_at given places) p =
    subst (λ (q : AccountState). HasEntered (commands_of q.receipts) (commands_at given places) p) new enters.entered in
    (all-entered given places p entered all.as_many ∙ mine, all.pass)

places-of-one : (all front : List Command) (participants : List (List ℕ)) (all_places : List (List ℕ)) (i : ℕ) (w : List ℕ)
    → AreAllPlaces all front participants all_places → i < length participants
    → commands_at all (places_of all_places i) ≡ commands_by (get_or participants i w) front
places-of-one all front [] all_places i w are within = absurd (omega (arith, within))
places-of-one all front (who ∷ participants) [] i w are within = absurd are
places-of-one all front (who ∷ participants) (places ∷ all_places) zero w are within = are.0
places-of-one all front (who ∷ participants) (places ∷ all_places) (suc i) w are within =
    places-of-one all front participants all_places i w are.1 (omega (arith, within))

served-from : (given : List Command) (participants : List (List ℕ)) (ps : List AccountState) → length ps ≡ length participants
    → ((i : ℕ) (d : AccountState) (w : List ℕ) → i < length ps → IsServed given (get_or participants i w) (get_or ps i d))
    → AreServed given participants ps
served-from given [] [] same are = tt
served-from given (who ∷ participants) (p ∷ ps) same are =
    let is = are 0 p who (omega arith) in
    (is.0, is.1, served-from given participants ps (omega (arith, same)) (λ i d w within. are (suc i) d w (omega (arith, within))))
served-from given [] (p ∷ ps) same are = absurd (omega (arith, same))
served-from given (who ∷ participants) [] same are = absurd (omega (arith, same))

new_at : (participants : List (List ℕ)) (i : ℕ) (d : AccountState) (w : List ℕ) → i < length participants
    → get_or (map (λ (who : List ℕ). new_account (Some who)) participants) i d ≡ new_account (Some (get_or participants i w))
new_at [] i d w within = absurd (omega (arith, within))
new_at (who ∷ participants) zero d w within = refl
new_at (who ∷ participants) (suc i) d w within = new_at participants i d w (omega (arith, within))

pub served-all : (given : List Command) (participants : List (List ℕ)) (all_places : List (List ℕ)) (olds news : List AccountState)
    → AreAllPlaces given given participants all_places
    → olds ≡ map (λ (who : List ℕ). new_account (Some who)) participants → length news ≡ length olds
    → ((i : ℕ) (d : AccountState) → i < length olds → Enters (commands_at given (places_of all_places i)) (get_or olds i d) (get_or news i d))
    → ((i : ℕ) (d : AccountState) → i < length news → HasAll (places_of all_places i) (get_or news i d))
    → AreServed given participants news
served-all given participants all_places olds news are new_ones as_long enters all =
    let many : length olds ≡ length participants = ap (λ (ps : List AccountState). length ps) new_ones
    ∙ length-map participants (λ (who : List ℕ). new_account (Some who)) in
    served-from given participants news (as_long ∙ many)
    (λ i d w within.
    let at : get_or olds i d ≡ new_account (Some (get_or participants i w)) =
    ap (λ (ps : List AccountState). get_or ps i d) new_ones ∙ new_at participants i d w (omega (arith, within, as_long, many)) in
    let mine = places-of-one given given participants all_places i w are (omega (arith, within, as_long, many)) in
    served given (get_or participants i w) (places_of all_places i) (get_or olds i d) (get_or news i d) at mine
    (enters i d (omega (arith, within, as_long))) (all i d within))

held-from : (participants : List (List ℕ)) (ps : List AccountState) → length ps ≡ length participants
    → ((i : ℕ) (d : AccountState) (w : List ℕ) → i < length ps → (get_or ps i d).holder ≡ Some (get_or participants i w))
    → holders ps ≡ map (λ (who : List ℕ). Some who) participants
held-from [] [] same are = refl
held-from (who ∷ participants) (p ∷ ps) same are =
    ap₂ (λ (h : Option (List ℕ)) (hs : List (Option (List ℕ))). h ∷ hs) (are 0 p who (omega arith))
    (held-from participants ps (omega (arith, same)) (λ i d w within. are (suc i) d w (omega (arith, within))))
held-from [] (p ∷ ps) same are = absurd (omega (arith, same))
held-from (who ∷ participants) [] same are = absurd (omega (arith, same))

-- the passes stay in the order in which they were made
pub held-all : (own : ℕ → List Command) (participants : List (List ℕ)) (olds news : List AccountState)
    → olds ≡ map (λ (who : List ℕ). new_account (Some who)) participants → length news ≡ length olds
    → ((i : ℕ) (d : AccountState) → i < length olds → Enters (own i) (get_or olds i d) (get_or news i d))
    → holders news ≡ map (λ (who : List ℕ). Some who) participants
held-all own participants olds news new_ones as_long enters =
    let many : length olds ≡ length participants = ap (λ (ps : List AccountState). length ps) new_ones
    ∙ length-map participants (λ (who : List ℕ). new_account (Some who)) in
    held-from participants news (as_long ∙ many)
    (λ i d w within.
    let at : get_or olds i d ≡ new_account (Some (get_or participants i w)) =
    ap (λ (ps : List AccountState). get_or ps i d) new_ones ∙ new_at participants i d w (omega (arith, within, as_long, many)) in
    (enters i d (omega (arith, within, as_long))).holder ∙ ap (λ (p : AccountState). p.holder) at)

-- ---- the knowledge of a pass in addition to its account

abbrev pub accounts : List Knowledge → List AccountState
accounts ks = map (λ (k : Knowledge). k.account) ks

pub new-accounts : (participants : List (List ℕ)) → accounts (map (λ (who : List ℕ). knowing_nothing (Some who)) participants) ≡ map
    (λ (who : List ℕ). new_account (Some who)) participants
new-accounts [] = refl
new-accounts (who ∷ participants) = ap (λ (ps : List AccountState). new_account (Some who) ∷ ps) (new-accounts participants)

pub accounts-enter : (own : ℕ → List Command) (olds news : List Knowledge) → length news ≡ length olds
    → ((i : ℕ) (d : Knowledge) → i < length olds → Enters (own i) (get_or olds i d).account (get_or news i d).account)
    → (i : ℕ) (d : AccountState) → i < length (accounts olds) → Enters (own i) (get_or (accounts olds) i d) (get_or (accounts news) i d)
accounts-enter own olds news same enters i d within =
    let f = λ (k : Knowledge). k.account in
    let k : Knowledge = record { account = d; history = []; learnt = []; note = None } in
    let below : i < length olds = omega (arith, within, length-map olds f) in
    subst (λ (p : AccountState). Enters (own i) p (get_or (accounts news) i d)) (sym (get_or-map f olds i k d below))
    (subst (λ (p : AccountState). Enters (own i) (get_or olds i k).account p) (sym (get_or-map f news i k d (omega (arith, below, same))))
    (enters i k below))

pub accounts-all : (own : ℕ → List ℕ) (ks : List Knowledge)
    → ((i : ℕ) (d : Knowledge) → i < length ks → HasAll (own i) (get_or ks i d).account)
    → (i : ℕ) (d : AccountState) → i < length (accounts ks) → HasAll (own i) (get_or (accounts ks) i d)
accounts-all own ks all i d within =
    let f = λ (k : Knowledge). k.account in
    let k : Knowledge = record { account = d; history = []; learnt = []; note = None } in
    let below : i < length ks = omega (arith, within, length-map ks f) in
    subst (HasAll (own i)) (sym (get_or-map f ks i k d below)) (all i k below)
