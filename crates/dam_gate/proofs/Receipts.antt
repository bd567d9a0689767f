-- A receipt more, and a look further, keep the receipts of a pass in order.
use Rattle.std.proofs.Common.{◌≡◌, zero, suc, ◌+◌, ◌-◌, true, false, Option, length, get_or, take, append-nil, ap, ◌∙◌, ℕ, ◌<◌, ◌≤◌, List}
use Rattle.std.proofs.Common.{[], ◌∷◌, ◌++◌, arith}
use Rattle.dam_book.specs.declared.command.Entry.{Entry}
use Rattle.std.proofs.lemmas.List.{take_more}
use Rattle.std.proofs.lemmas.Grind.{flat_map-append}
use Rattle.dam_book.specs.Command.{is_journal_full}
use Rattle.dam_gate.specs.Pass.{AccountState, AreInOrder, AreOwn, is_own}
use Rattle.dam_gate.specs.Settled.{receipts_of}

pub AreInOrder-snoc : (low seen : ℕ) (es : List Entry) (e : Entry) → AreInOrder low seen es → seen < e.number
    → AreInOrder low e.number (es ++ e ∷ [])
AreInOrder-snoc low seen [] e ordered later = (omega (arith, ordered, later), omega arith)
AreInOrder-snoc low seen (x ∷ es) e ordered later = (ordered.0, AreInOrder-snoc x.number seen es e ordered.1 later)

pub AreInOrder-seen : (low seen more : ℕ) (es : List Entry) → AreInOrder low seen es → seen ≤ more → AreInOrder low more es
AreInOrder-seen low seen more [] ordered later = omega (arith, ordered, later)
AreInOrder-seen low seen more (x ∷ es) ordered later = (ordered.0, AreInOrder-seen x.number seen more es ordered.1 later)

pub AreOwn-snoc : (holder : Option (List ℕ)) (es : List Entry) (e : Entry) → AreOwn holder es → is_own holder e.command ≡ true
    → is_journal_full (e.number - 1) e.command ≡ false
    → AreOwn holder (es ++ e ∷ [])
AreOwn-snoc holder [] e own mine room = (mine, room, tt)
AreOwn-snoc holder (x ∷ es) e own mine room = (own.0, own.1, AreOwn-snoc holder es e own.2 mine room)

-- the number of each is above `low`
pub number_above : (low seen i : ℕ) (es : List Entry) (d : Entry) → AreInOrder low seen es → i < length es → low < (get_or es i d).number
number_above low seen i [] d ordered within = absurd (omega (arith, within))
number_above low seen zero (x ∷ es) d ordered within = ordered.0
number_above low seen (suc i) (x ∷ es) d ordered within =
    omega (arith, ordered.0, number_above x.number seen i es d ordered.1 (omega (arith, within)))

-- the receipts of one pass more
pub receipts-more : (ps : List AccountState) (i : ℕ) (d : AccountState) → i < length ps
    → receipts_of (take (i + 1) ps) ≡ receipts_of (take i ps) ++ (get_or ps i d).receipts
receipts-more ps i d within =
    ap receipts_of (take_more ps i d within) ∙ flat_map-append (λ (p : AccountState). p.receipts) (take i ps) (get_or ps i d ∷ [])
    ∙ ap (λ (es : List Entry). receipts_of (take i ps) ++ es) (append-nil (get_or ps i d).receipts)
