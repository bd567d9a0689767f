-- The receipts of a day's passes that stand in its closed journal are its entries, if they are as many.
use Rattle.std.proofs.Common.{◌≡◌, ◌≢◌, ℕ, ◌+◌, ◌<◌, ◌≤◌, ◌⊎◌, inl, inr, All, get_or, Bool, true, false, cond, List, [], ◌∷◌, ◌++◌, length, map, Option, Some, None, refl, sym}
use Rattle.std.proofs.Common.{ap, ap₂, subst, ◌∙◌, arith, append-nil, length-append}
use Rattle.std.specs.List.{filter}
use Rattle.std.proofs.lemmas.Grind.{flat_map-append}
use Rattle.std.proofs.lemmas.List.{map-append, get_or-map, length-map}
use mathlib.Core.List.{IsPrefix}
use Rattle.dam_book.specs.declared.command.Command.{Command}
use Rattle.dam_book.specs.declared.command.Command.TheVariants.{Close}
use Rattle.dam_book.specs.declared.command.Entry.{Entry}
use Rattle.dam_book.specs.Book.{BookState, book_after, empty_book, commands_of}
use Rattle.dam_gate.specs.Journal.{JournalState, IsJournal, journal_after, next_entry}
use Rattle.dam_gate.specs.Day.{day_holders, givers_of}
use Rattle.dam_gate.specs.Pass.{Knowledge, AccountState, AreInOrder, AreOwn, IsKnowledge, StandIn, after_learning, holders, is_own, is_from}
use Rattle.dam_gate.specs.Pass.{is_close, knowing_nothing, new_account, with_receipt}
use Rattle.dam_gate.specs.Settled.{numbered, receipts_of, IsSettled}
use Rattle.dam_gate.specs.inside.Tally.{AreReceipts}
use Rattle.dam_gate.specs.inside.Entering.{AreApart, AreServed, IsClosedByOperator}
use Rattle.dam_gate.proofs.Accounts.{AreEntries, each_once, numbered-both}
use Rattle.dam_gate.proofs.Counts.{first-entry, all-entries}
use Rattle.dam_gate.proofs.Beginnings.{prefix_trans}
use Rattle.dam_gate.proofs.Days.{accounts, filter-no, filter-yes, of_command, is_number, none_in_order, no_commands, no_closes, shares}
use Rattle.dam_gate.proofs.Numbers.{numbered-head, numbered-tail}
use Rattle.dam_gate.proofs.Standing.{entries-stand, stand-all, stand-append, stand-called, stand-longer}

-- ---- each number once

-- one pass has each number once
own-once : (low seen m : ℕ) (rs : List Entry) → AreInOrder low seen rs → length (numbered m rs) ≤ 1
own-once low seen m [] ordered = omega arith
own-once low seen m (r ∷ rs) ordered = go (is_number r.number m) (own-once r.number seen m rs ordered.1)
  where
    go : (r.number ≡ m) ⊎ (r.number ≢ m) → length (numbered m rs) ≤ 1 → length (numbered m (r ∷ rs)) ≤ 1
    go (inl own) later =
        let none = none_in_order m r.number seen rs (omega (arith, own)) ordered.1 in
        omega (arith, ap (λ (xs : List Entry). length xs) (numbered-head m r rs own ∙ ap (λ (xs : List Entry). r ∷ xs) none))
    go (inr other) later =
        omega (arith, later, ap (λ (xs : List Entry). length xs) (numbered-tail m r rs other))

-- the first of a number is the holder's
own-first : (holder : Option (List ℕ)) (m : ℕ) (rs : List Entry) (r : Entry) (xs : List Entry) → AreOwn holder rs → numbered m rs ≡ r ∷ xs
    → is_own holder r.command ≡ true
own-first holder m [] r xs own is = absurd (cc)
own-first holder m (q ∷ rs) r xs own is =
    go (is_number q.number m) (λ other. own-first holder m rs r xs own.2 (sym (numbered-tail m q rs other) ∙ is))
  where
    go : (q.number ≡ m) ⊎ (q.number ≢ m) → (q.number ≢ m → is_own holder r.command ≡ true) → is_own holder r.command ≡ true
    go (inl here) later =
        let both : q ∷ numbered m rs ≡ r ∷ xs = sym (numbered-head m q rs here) ∙ is in
        let head : q ≡ r = cc in
        ap (λ (e : Entry). is_own holder e.command) (sym head) ∙ own.0
    go (inr other) later = later other

-- and not of those whose commands none of them is
not_theirs : (p : Command → Bool) (m : ℕ) (rs : List Entry) (r : Entry) (xs : List Entry) → filter (of_command p) rs ≡ []
    → numbered m rs ≡ r ∷ xs → p r.command ≡ true → ⊥
not_theirs p m [] r xs none is theirs = let both : [] ≡ r ∷ xs = is in cc
not_theirs p m (q ∷ rs) r xs none is theirs =
    go (p q.command) refl (is_number q.number m) (λ gone other. not_theirs p m rs r xs gone (sym (numbered-tail m q rs other) ∙ is) theirs)
  where
    go : (t : Bool) → p q.command ≡ t → (q.number ≡ m) ⊎ (q.number ≢ m) → (filter (of_command p) rs ≡ [] → q.number ≢ m → ⊥) → ⊥
    go true is_so at later =
        let some : q ∷ filter (of_command p) rs ≡ [] = sym (filter-yes (of_command p) q rs is_so) ∙ none in cc
    go false is_so (inl here) later =
        let both : q ∷ numbered m rs ≡ r ∷ xs = sym (numbered-head m q rs here) ∙ is in
        let head : q ≡ r = cc in
        let two : true ≡ false = sym theirs ∙ ap (λ (e : Entry). p e.command) (sym head) ∙ is_so in
        cc
    go false is_so (inr other) later = later (sym (filter-no (of_command p) q rs is_so) ∙ none) other

entries-front : (es front back : List Entry) → AreEntries es (front ++ back) → AreEntries es front
entries-front es [] back are = tt
entries-front es (r ∷ front) back are = (are.0, entries-front es front back are.1)

entries-back : (es front back : List Entry) → AreEntries es (front ++ back) → AreEntries es back
entries-back es [] back are = are
entries-back es (r ∷ front) back are = entries-back es front back are.1

-- two lists that have each number once, and no entry both, have it once together
both-once : (es front back : List Entry) (m : ℕ) → AreEntries es (front ++ back) → length (numbered m front) ≤ 1
    → length (numbered m back) ≤ 1
    → ((r q : Entry) (xs ys : List Entry) → numbered m front ≡ r ∷ xs → numbered m back ≡ q ∷ ys → r ≡ q → ⊥)
    → length (numbered m (front ++ back)) ≤ 1
both-once es front back m are one two apart =
    subst (λ (xs : List Entry). length xs ≤ 1) (sym (numbered-both m front back)) (go (numbered m front) (numbered m back) refl refl one two)
  where
    go : (xs ys : List Entry) → numbered m front ≡ xs → numbered m back ≡ ys → length xs ≤ 1 → length ys ≤ 1 → length (xs ++ ys) ≤ 1
    go [] ys is other few more = more
    go (r ∷ xs) [] is other few more = omega (arith, few, length-append xs [])
    go (r ∷ xs) (q ∷ ys) is other few more =
        let here = first-entry m es front r xs (entries-front es front back are) is in
        let there = first-entry m es back q ys (entries-back es front back are) other in
        let both : r ∷ [] ≡ q ∷ [] = sym here ∙ there in
        let same : r ≡ q = cc in
        absurd (apart r q xs ys is other same)

-- the passes of the participants have each number once
theirs-once : (given : List Command) (participants : List (List ℕ)) (ps : List AccountState) (es : List Entry) (m : ℕ) → AreApart participants
    → AreServed given participants ps → holders ps ≡ map (λ (who : List ℕ). Some who) participants → AreEntries es (receipts_of ps)
    → length (numbered m (receipts_of ps)) ≤ 1
theirs-once given [] [] es m apart served held are = omega arith
theirs-once given (who ∷ participants) (p ∷ ps) es m apart served held are =
    let P = is_from who in
    let rest = receipts_of ps in
    let mine : p.holder ≡ Some who = cc in
    let others : holders ps ≡ map (λ (w : List ℕ). Some w) participants = cc in
    let share = shares given who participants ps apart.1 served.2 in
    let gone : filter (of_command P) rest ≡ [] =
    no_commands (filter (of_command P) rest) (share.commands ∙ ap (λ (b : Bool). cond b (filter P given) []) apart.0) in
    both-once es p.receipts rest m are (own-once 0 p.seen m p.receipts served.1.in_order)
    (theirs-once given participants ps es m apart.1 served.2 others (entries-back es p.receipts rest are))
    (λ r q xs ys is other same.
    not_theirs P m rest q ys gone other
    (ap (λ (e : Entry). P e.command) (sym same) ∙ ap (λ (h : Option (List ℕ)). is_own h r.command) (sym mine)
    ∙ own-first p.holder m p.receipts r xs served.1.own is))
theirs-once given [] (p ∷ ps) es m apart served held are = absurd served
theirs-once given (who ∷ participants) [] es m apart served held are = absurd served

receipts-last : (ps : List AccountState) (op : AccountState) → receipts_of (ps ++ op ∷ []) ≡ receipts_of ps ++ op.receipts
receipts-last ps op =
    flat_map-append (λ (p : AccountState). p.receipts) ps (op ∷ []) ∙ ap (λ (es : List Entry). receipts_of ps ++ es) (append-nil op.receipts)

-- and with the operator's too
pub each-number-once : (given : List Command) (participants : List (List ℕ)) (ps : List AccountState) (op : AccountState) (es : List Entry) (m : ℕ)
    → AreApart participants → AreServed given participants ps → holders ps ≡ map (λ (who : List ℕ). Some who) participants
    → op.holder ≡ None → AreInOrder 0 op.seen op.receipts → AreOwn op.holder op.receipts → AreEntries es (receipts_of (ps ++ op ∷ []))
    → length (numbered m (receipts_of (ps ++ op ∷ []))) ≤ 1
each-number-once given participants ps op es m apart served held nobody ordered own are =
    let rs = receipts_of ps in
    let all = subst (AreEntries es) (receipts-last ps op) are in
    subst (λ (xs : List Entry). length (numbered m xs) ≤ 1) (sym (receipts-last ps op))
    (both-once es rs op.receipts m all
    (theirs-once given participants ps es m apart served held (entries-front es rs op.receipts all))
    (own-once 0 op.seen m op.receipts ordered)
    (λ r q xs ys is other same.
    not_theirs is_close m rs r xs (no_closes given participants ps served) is
    (ap (λ (e : Entry). is_close e.command) same ∙ ap (λ (h : Option (List ℕ)). is_own h q.command) (sym nobody)
    ∙ own-first op.holder m op.receipts q ys own other)))

-- ---- the journal that the operator closed

-- a close leaves a closed book
close-closes : (b : BookState) → (book_after b Close).closed ≡ true
close-closes b = elim b.closed as (λ (t : Bool). (book_after (record b { closed = t }) Close).closed ≡ true) [ true ↦ refl | false ↦ refl ]

pub closed_after : (j earlier : JournalState) → j ≡ journal_after earlier Close → j.book.closed ≡ true
closed_after j earlier is = ap (λ (x : JournalState). x.book.closed) is ∙ close-closes earlier.book

-- its last command is the close
pub last-close : (j earlier : JournalState) → j ≡ journal_after earlier Close → commands_of j.entries ≡ commands_of earlier.entries ++ Close ∷ []
last-close j earlier is =
    ap (λ (x : JournalState). commands_of x.entries) is
    ∙ map-append (λ (e : Entry). e.command) earlier.entries (next_entry earlier Close ∷ [])

-- the receipts of passes whose histories the pass of the operator had learnt of stand in the journal that it closed
theirs-stand : (ks : List Knowledge) (learnt es : List Entry) → All IsKnowledge ks
    → ((i : ℕ) (d : Knowledge) → i < length ks → IsPrefix (get_or ks i d).history learnt) → IsPrefix learnt es
    → StandIn es (receipts_of (accounts ks))
theirs-stand ks learnt es known begin longer =
    let f = λ (k : Knowledge). k.account in
    stand-all es (accounts ks) (λ i d within.
    let k : Knowledge = record { account = d; history = []; learnt = []; note = None } in
    let below : i < length ks = omega (arith, within, length-map ks f) in
    let it = get_or ks i k in
    subst (λ (p : AccountState). StandIn es p.receipts) (sym (get_or-map f ks i k d below))
    (stand-longer it.history es it.account.receipts (prefix_trans it.history learnt es (begin i k below) longer) (known i k below).stand))

-- there are as many passes as participants
as_many : (ks : List Knowledge) (participants : List (List ℕ)) → holders (accounts ks) ≡ map (λ (who : List ℕ). Some who) participants
    → length ks ≡ length participants
as_many ks participants held =
    sym (length-map ks (λ (k : Knowledge). k.account)) ∙ sym (length-map (accounts ks) (λ (p : AccountState). p.holder))
    ∙ ap (λ (hs : List (Option (List ℕ))). length hs) held ∙ length-map participants (λ (who : List ℕ). Some who)

-- the holders of the passes are the day's
pub held_by : (given : List Command) (participants : List (List ℕ)) (ps : List AccountState) (op : AccountState)
    → holders ps ≡ map (λ (who : List ℕ). Some who) participants → op.holder ≡ None → participants ≡ givers_of given
    → holders (ps ++ op ∷ []) ≡ day_holders given
held_by given participants ps op held nobody order =
    map-append (λ (p : AccountState). p.holder) ps (op ∷ [])
    ∙ ap₂ (λ (hs : List (Option (List ℕ))) (h : Option (List ℕ)). hs ++ h ∷ []) held nobody
    ∙ ap (λ (ps : List (List ℕ)). map (λ (who : List ℕ). Some who) ps ++ None ∷ []) order

-- the journal is settled with the passes, of which the operator's has the receipt of the last command, the close
pub record IsCounted (passes : List AccountState) (op : AccountState) (j : JournalState) : Type 0 where
  pub are : AreReceipts j.entries (receipts_of passes)
  pub closes : commands_of op.receipts ≡ Close ∷ []
  pub nobody : op.holder ≡ None
  pub before : List Command
  pub last : commands_of j.entries ≡ before ++ Close ∷ []
  pub settled : IsSettled j passes

-- if the parts of all passes count as many receipts as there are entries
pub counted : (given : List Command) (participants : List (List ℕ)) (ks : List Knowledge) (before : Knowledge) (op : AccountState)
    (j : JournalState) (passes : List AccountState) (parts most amount : ℕ) → IsClosedByOperator before op j
    → before ≡ after_learning (knowing_nothing None) before.learnt → IsJournal j → AreApart participants
    → AreServed given participants (accounts ks) → holders (accounts ks) ≡ map (λ (who : List ℕ). Some who) participants
    → All IsKnowledge ks → ((i : ℕ) (d : Knowledge) → i < length ks → IsPrefix (get_or ks i d).history before.learnt)
    → passes ≡ accounts ks ++ op ∷ [] → parts ≡ length ks + 1 → most ≡ length participants + 1 → amount ≡ length (receipts_of passes)
    → (parts ≡ most → amount ≡ length j.entries) → IsCounted passes op j
counted given participants ks before op j passes parts most amount closed is journal apart served held known begin all many most_is count whole =
    let earlier = closed.earlier in
    let e = next_entry earlier Close in
    let es = j.entries in
    let ps = accounts ks in
    let rs = receipts_of (ps ++ op ∷ []) in
    let b = empty_book j.book.periods in
    let legal = journal.history.legal in
    let last : es ≡ earlier.entries ++ e ∷ [] = ap (λ (x : JournalState). x.entries) closed.closed in
    let new : op ≡ with_receipt (new_account None) e =
    closed.receipt ∙ ap (λ (k : Knowledge). with_receipt k.account e) is in
    let receipts : op.receipts ≡ e ∷ [] = ap (λ (p : AccountState). p.receipts) new in
    let nobody : op.holder ≡ None = ap (λ (p : AccountState). p.holder) new in
    let longer : IsPrefix earlier.entries es = (e ∷ [], sym last) in
    let theirs : StandIn es (receipts_of ps) =
    theirs-stand ks before.learnt es known begin (prefix_trans before.learnt earlier.entries es closed.learnt longer) in
    let length_is : length es ≡ length earlier.entries + 1 = omega (arith, ap length last, length-append earlier.entries (e ∷ [])) in
    let mine : StandIn es op.receipts =
    subst (StandIn es) (sym receipts)
    (stand-called earlier.entries [] es [] e (earlier.entries, refl) tt last (sym length_is) (omega arith)) in
    let stand : StandIn es rs = subst (StandIn es) (sym (receipts-last ps op)) (stand-append es (receipts_of ps) op.receipts theirs mine) in
    let entries = entries-stand b es rs legal stand in
    let enough : length es ≤ length rs =
    omega (
      arith,
      count,
      whole (omega (arith, many, most_is, as_many ks participants held)),
      ap (λ (xs : List AccountState). length (receipts_of xs)) all,
    ) in
    let are = all-entries 1 b es rs legal entries
    (λ m. each-number-once given participants ps op es m apart served held nobody closed.pass.in_order closed.pass.own entries) enough in
    let are_all = subst (λ (xs : List AccountState). AreReceipts es (receipts_of xs)) (sym all) are in
    record {
      are = are_all;
      closes = ap commands_of receipts;
      nobody = nobody;
      before = commands_of earlier.entries;
      last = last-close j earlier closed.closed;
      settled = record { closed = closed_after j earlier closed.closed; each_once = each_once 1 b es (receipts_of passes) legal are_all };
    }
