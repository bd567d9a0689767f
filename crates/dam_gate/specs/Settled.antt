-- Settlement: whether the receipts of the accounts are the entries of the journal.
use Rattle.std.specs.Prelude.{◌≡◌, ◌≢◌, ℕ, ◌<◌, ◌≤◌, ◌==◌, true, false, List, [], length}
use Rattle.std.specs.List.{filter, flat_map}
use Rattle.std.specs.List.Sorted.{IsPermutation}
use Rattle.dam_book.specs.declared.command.Entry.{Entry}
use Rattle.dam_gate.specs.declared.settlement.Mismatch.{Mismatch}
use Rattle.dam_gate.specs.declared.settlement.Mismatch.TheVariants.{StillOpen, Missing, Doubled, Differs, Extra, Memory}
use Rattle.dam_gate.specs.Journal.{JournalState}
use Rattle.dam_gate.specs.Pass.{AccountState}

-- the receipts of all accounts, one account after another
abbrev pub receipts_of : List AccountState → List Entry
receipts_of accounts = flat_map (λ (p : AccountState). p.receipts) accounts

-- the book is closed, and the receipts of the accounts are the journal's entries, each once
pub record IsSettled (j : JournalState) (accounts : List AccountState) : Type 0 where
  pub closed : j.book.closed ≡ true
  pub each_once : IsPermutation (receipts_of accounts) j.entries

-- The faults of a number, by the entries and the receipts of it.

-- the entries of this number
abbrev pub numbered : ℕ → List Entry → List Entry
numbered n es = filter (λ (e : Entry). e.number == n) es

-- an entry has no receipt
abbrev pub IsMissing : List Entry → List Entry → Type 0
IsMissing es rs = (length es ≡ 1) × (rs ≡ [])

-- an entry has two receipts or more
abbrev pub IsDoubled : List Entry → List Entry → Type 0
IsDoubled es rs = (length es ≡ 1) × (2 ≤ length rs)

-- an entry has one receipt, and that is another
abbrev pub IsDifferent : List Entry → List Entry → Type 0
IsDifferent es rs = (length es ≡ 1) × (length rs ≡ 1) × (rs ≢ es)

-- there is a receipt and no entry
abbrev pub IsExtra : List Entry → List Entry → Type 0
IsExtra es rs = (es ≡ []) × (0 < length rs)

-- this number is wrong in this way, and of each lesser one the receipts are the entries
pub record IsLeastFault (IsWrong : List Entry → List Entry → Type 0) (es rs : List Entry) (n : ℕ) : Type 0 where
  pub wrong : IsWrong (numbered n es) (numbered n rs)
  pub least : (m : ℕ) → m < n → numbered m rs ≡ numbered m es

-- the fault of these receipts of these entries
abbrev pub IsFaultOfReceipts : List Entry → List Entry → Mismatch → Type 0
IsFaultOfReceipts es rs StillOpen = ⊥
IsFaultOfReceipts es rs (Missing n) = IsLeastFault IsMissing es rs n
IsFaultOfReceipts es rs (Doubled n) = IsLeastFault IsDoubled es rs n
IsFaultOfReceipts es rs (Differs n) = IsLeastFault IsDifferent es rs n
IsFaultOfReceipts es rs (Extra n) = IsLeastFault IsExtra es rs n
IsFaultOfReceipts es rs Memory = ⊥

-- why a journal and accounts are not found settled: the book is open, or the least faulty number is faulty so, or memory
-- ran out
abbrev pub IsMismatch : JournalState → List AccountState → Mismatch → Type 0
IsMismatch j accounts StillOpen = j.book.closed ≡ false
IsMismatch j accounts Memory = j.book.closed ≡ true
IsMismatch j accounts fault = (j.book.closed ≡ true) × IsFaultOfReceipts j.entries (receipts_of accounts) fault
