-- The marks that a tally of receipts gives each entry.
use Rattle.std.specs.Prelude.{◌≡◌, ◌≢◌, ℕ, suc, ◌<◌, ◌≤◌, Bool, true, false, List, [], ◌∷◌, length, Option, None, Some, MatchOption, min}
use Rattle.dam_book.specs.declared.command.Entry.{Entry}
use Rattle.dam_gate.specs.declared.settlement.Mismatch.{Mismatch}
use Rattle.dam_gate.specs.declared.settlement.Mismatch.TheVariants.{Missing, Doubled, Differs}
use Rattle.dam_gate.specs.declared.tally.Mark.{Mark}
use Rattle.dam_gate.specs.declared.tally.Mark.TheVariants.{Nothing, Same, Other, Several}
use Rattle.dam_gate.specs.Settled.{IsFaultOfReceipts, numbered}

-- of each number these are the very receipts that there are entries; of a legal history's entries, that they are the
-- entries, each once
abbrev pub AreReceipts : List Entry → List Entry → Type 0
AreReceipts es rs = (n : ℕ) → numbered n rs ≡ numbered n es

-- the mark of an entry, of whose number these are the receipts
abbrev pub IsMark : Mark → Entry → List Entry → Type 0
IsMark Nothing e rs = rs ≡ []
IsMark Same e rs = rs ≡ e ∷ []
IsMark Other e rs = (length rs ≡ 1) × (rs ≢ e ∷ [])
IsMark Several e rs = 2 ≤ length rs

-- the mark with one receipt more, which is the entry or isn't
abbrev pub mark_with : Mark → Bool → Mark
mark_with Nothing true = Same
mark_with Nothing false = Other
mark_with Same same = Several
mark_with Other same = Several
mark_with Several same = Several

-- the marks of the entries, the first of them having the number `n`
abbrev pub AreMarks : ℕ → List Entry → List Mark → List Entry → Type 0
AreMarks n [] [] rs = Unit {0}
AreMarks n (e ∷ es) (f ∷ fs) rs = IsMark f e (numbered n rs) × AreMarks (suc n) es fs rs
AreMarks n [] (f ∷ fs) rs = ⊥
AreMarks n (e ∷ es) [] rs = ⊥

-- the least number of a receipt above the numbers of the entries
abbrev pub IsLeastExtra : ℕ → List Entry → Option ℕ → Type 0
IsLeastExtra held rs None = (n : ℕ) → held < n → numbered n rs ≡ []
IsLeastExtra held rs (Some least) = (held < least) × (0 < length (numbered least rs))
    × ((n : ℕ) → held < n → n < least → numbered n rs ≡ [])

-- the lesser of two numbers, one of which there may not be
abbrev pub lesser : Option ℕ → ℕ → Option ℕ
lesser None n = Some n
lesser (Some least) n = Some (min least n)

-- the tally of these receipts
pub record IsTally (es : List Entry) (found : List Mark) (extra : Option ℕ) (rs : List Entry) : Type 0 where
  pub are_found : AreMarks 1 es found rs
  pub extra_is : IsLeastExtra (length es) rs extra
  pub positive : numbered 0 rs ≡ []

-- the least fault of these receipts of these entries, or that there is none
abbrev pub IsFirstMismatch : List Entry → List Entry → Option Mismatch → Type 0
IsFirstMismatch es rs why = MatchOption why (AreReceipts es rs) (IsFaultOfReceipts es rs)

-- the fault of the first of these that isn't as it should be
abbrev pub mismatch_of : ℕ → Mark → Option Mismatch
mismatch_of n Nothing = Some (Missing n)
mismatch_of n Same = None
mismatch_of n Other = Some (Differs n)
mismatch_of n Several = Some (Doubled n)

-- the fault, or if there is none, the other
abbrev pub mismatch_or : Option Mismatch → Option Mismatch → Option Mismatch
mismatch_or None other = other
mismatch_or (Some fault) other = Some fault

abbrev pub first_mismatch_in_marks : ℕ → List Mark → Option Mismatch
first_mismatch_in_marks n [] = None
first_mismatch_in_marks n (f ∷ fs) = mismatch_or (mismatch_of n f) (first_mismatch_in_marks (suc n) fs)
