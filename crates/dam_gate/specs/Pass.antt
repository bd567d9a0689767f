-- A pass: who holds it, how many entries of the journal it has seen, and the entries that its calls were answered with.
use Rattle.std.specs.Prelude.{◌≡◌, ℕ, ◌-◌, ◌<◌, ◌≤◌, Bool, true, false, List, [], ◌∷◌, ◌++◌, length, map, slice_get, Option, None, Some}
use Rattle.dam_book.specs.Name.{same_text}
use Rattle.dam_book.specs.declared.command.Command.{Command}
use Rattle.dam_book.specs.Command.{giver}
use Rattle.dam_book.specs.declared.command.Entry.{Entry}
use Rattle.dam_book.specs.Command.{is_journal_full}

-- the operator's pass has no participant
pub record AccountState : Type 0 where
  pub holder : Option (List ℕ)
  pub seen : ℕ
  pub receipts : List Entry

-- whether these are one participant, or both nobody
abbrev pub same_giver : Option (List ℕ) → Option (List ℕ) → Bool
same_giver None None = true
same_giver None (Some other) = false
same_giver (Some who) None = false
same_giver (Some who) (Some other) = same_text who other

-- whether the command is for the holder of a pass to give: a participant's own commands, or the operator's close
abbrev pub is_own : Option (List ℕ) → Command → Bool
is_own holder c = same_giver holder (giver c)

-- whether this participant gave the command; nobody but the operator closes
abbrev pub is_from : List ℕ → Command → Bool
is_from who c = is_own (Some who) c

-- whether the command is the operator's to give: the close
abbrev pub is_close : Command → Bool
is_close c = is_own None c

-- the numbers are above `low`, each above the one before it, and none is above `seen`
abbrev pub AreInOrder : ℕ → ℕ → List Entry → Type 0
AreInOrder low seen [] = low ≤ seen
AreInOrder low seen (e ∷ es) = (low < e.number) × AreInOrder e.number seen es

-- each is of a command that was the holder's to give, and that found room in the journal
abbrev pub AreOwn : Option (List ℕ) → List Entry → Type 0
AreOwn holder [] = Unit {0}
AreOwn holder (e ∷ es) =
    (is_own holder e.command ≡ true) × (is_journal_full (e.number - 1) e.command ≡ false) × AreOwn holder es

-- the invariant of an account: the numbers of its receipts increase, and are at most the number that it has seen; each is
-- for a command that its holder may give and that found room
pub record IsAccount (p : AccountState) : Type 0 where
  pub in_order : AreInOrder 0 p.seen p.receipts
  pub own : AreOwn p.holder p.receipts

-- who holds each of these accounts
abbrev pub holders : List AccountState → List (Option (List ℕ))
holders accounts = map (λ (p : AccountState). p.holder) accounts

-- the account of a holder who has seen nothing and has no receipt
abbrev pub new_account : Option (List ℕ) → AccountState
new_account holder = record { holder = holder; seen = 0; receipts = [] }

-- the account after a call that was answered with the entry
abbrev pub with_receipt : AccountState → Entry → AccountState
with_receipt p e = record { holder = p.holder; seen = e.number; receipts = p.receipts ++ e ∷ [] }

-- the account after a look at `seen` entries
abbrev pub having_seen : AccountState → ℕ → AccountState
having_seen p seen = record { holder = p.holder; seen = seen; receipts = p.receipts }

-- the knowledge of a pass: its account; the history of the gate that it has seen; the longest that it has learnt of, of
-- which each other one is a prefix; and the one that its last call made
pub record Knowledge : Type 0 where
  pub account : AccountState
  pub history : List Entry
  pub learnt : List Entry
  pub note : Option (List Entry)

-- the knowledge of a new pass
abbrev pub knowing_nothing : Option (List ℕ) → Knowledge
knowing_nothing holder = record { account = new_account holder; history = []; learnt = []; note = None }

-- after a call that was answered with the entry, which ended this history
abbrev pub after_call : Knowledge → List Entry → Entry → Knowledge
after_call k history e = record { account = with_receipt k.account e; history = history; learnt = k.learnt; note = Some history }

-- after a look at this history
abbrev pub after_look : Knowledge → List Entry → Knowledge
after_look k history = record { account = having_seen k.account (length history); history = history; learnt = k.learnt; note = k.note }

-- after the pass has learnt of this history
abbrev pub after_learning : Knowledge → List Entry → Knowledge
after_learning k learnt = record { account = k.account; history = k.history; learnt = learnt; note = k.note }

-- each of these is the entry of its number
abbrev pub StandIn : List Entry → List Entry → Type 0
StandIn es [] = Unit {0}
StandIn es (r ∷ rs) = (slice_get es (r.number - 1) ≡ Some r) × StandIn es rs

-- the account is of a pass that has seen as many entries as its history has, and whose receipts stand in that history
pub record IsKnowledge (k : Knowledge) : Type 0 where
  pub account : IsAccount k.account
  pub seen : k.account.seen ≡ length k.history
  pub stand : StandIn k.history k.account.receipts
