-- Receipts that stand in a history stand in each that goes on from it, and are its entries.
use Rattle.std.proofs.Common.{◌≡◌, ℕ, zero, suc, ◌+◌, ◌-◌, List, [], ◌∷◌, ◌++◌, length, refl, sym, ap, subst, ◌∙◌, arith, All}
use Rattle.std.proofs.Common.{◌<◌, ◌≤◌, ◌⊎◌, inl, inr, get_or, slice_get, Some}
use Rattle.std.proofs.lemmas.Bool.{cases_lt}
use Rattle.std.proofs.lemmas.Option.{same_Some}
use mathlib.Core.List.{IsPrefix}
use Rattle.dam_book.specs.declared.command.Entry.{Entry}
use Rattle.dam_book.specs.Book.{BookState, book_after, IsLegalFrom}
use Rattle.dam_gate.specs.Pass.{Knowledge, AccountState, StandIn}
use Rattle.dam_gate.specs.Settled.{numbered, receipts_of}
use Rattle.dam_gate.proofs.Accounts.{AreEntries}
use Rattle.dam_gate.proofs.Beginnings.{prefix_get, prefix_trans}
use Rattle.dam_gate.proofs.Numbers.{numbered-head, numbered-tail, none_below}
use Rattle.dam_gate.proofs.Steps.{slice_get-last}

pub stand-longer : (es more rs : List Entry) → IsPrefix es more → StandIn es rs → StandIn more rs
stand-longer es more [] p stand = tt
stand-longer es more (r ∷ rs) p stand = (prefix_get es more (r.number - 1) r p stand.0, stand-longer es more rs p stand.1)

pub stand-snoc : (es rs : List Entry) (e : Entry) → StandIn es rs → slice_get es (e.number - 1) ≡ Some e → StandIn es (rs ++ e ∷ [])
stand-snoc es [] e stand at = (at, tt)
stand-snoc es (r ∷ rs) e stand at = (stand.0, stand-snoc es rs e stand.1 at)

-- the entry of a call stands last in the history after it
pub stand-called : (es rs after : List Entry) (known : List Entry) (e : Entry) → IsPrefix known es → StandIn known rs → after ≡ es ++ e ∷ []
    → e.number ≡ length after → e.number - 1 ≡ length es → StandIn after (rs ++ e ∷ [])
stand-called es rs after known e p stand is number before =
    let all = es ++ e ∷ [] in
    let last : slice_get all (e.number - 1) ≡ Some e = subst (λ (n : ℕ). slice_get all n ≡ Some e) (sym before) (slice_get-last es e) in
    subst (λ (xs : List Entry). StandIn xs (rs ++ e ∷ [])) (sym is)
    (stand-snoc all rs e (stand-longer es all rs (e ∷ [], refl) (stand-longer known es rs p stand)) last)

pub stand-append : (es front back : List Entry) → StandIn es front → StandIn es back → StandIn es (front ++ back)
stand-append es [] back a b = b
stand-append es (r ∷ front) back a b = (a.0, stand-append es front back a.1 b)

-- the receipts of passes whose receipts stand
pub stand-all : (es : List Entry) (ps : List AccountState) → All (λ (p : AccountState). StandIn es p.receipts) ps → StandIn es (receipts_of ps)
stand-all es [] all = tt
stand-all es (p ∷ ps) all =
    stand-append es p.receipts (receipts_of ps) (all 0 p (omega arith)) (stand-all es ps (λ k d within. all (suc k) d (omega (arith, within))))

-- the entry at a place is the only one of its number
record IsOnly (n : ℕ) (es : List Entry) (r : Entry) : Type 0 where
  pub number : r.number ≡ n
  pub only : numbered n es ≡ r ∷ []

entry-at : (n k : ℕ) (b : BookState) (es : List Entry) (r : Entry) → IsLegalFrom n b es → slice_get es k ≡ Some r → IsOnly (n + k) es r
entry-at n k b [] r legal is = absurd (cc)
entry-at n zero b (e ∷ es) r legal is =
    let none = none_below (suc n) n (book_after b e.command) es legal.2 (omega arith) in
    let here : n ≡ n + 0 = omega arith in
    subst (IsOnly (n + 0) (e ∷ es)) (same_Some e r is) (record {
      number = legal.0 ∙ here;
      only = subst (λ (m : ℕ). numbered m (e ∷ es) ≡ e ∷ []) here
          (numbered-head n e es legal.0 ∙ ap (λ (xs : List Entry). e ∷ xs) none);
    })
entry-at n (suc k) b (e ∷ es) r legal is =
    let rest = entry-at (suc n) k (book_after b e.command) es r legal.2 is in
    let at : suc n + k ≡ n + suc k = omega arith in
    record {
      number = rest.number ∙ at;
      only = numbered-tail (n + suc k) e es (λ same. omega (arith, same, legal.0))
          ∙ subst (λ (m : ℕ). numbered m es ≡ r ∷ []) at rest.only;
    }

pub entries-stand : (b : BookState) (es rs : List Entry) → IsLegalFrom 1 b es → StandIn es rs → AreEntries es rs
entries-stand b es [] legal stand = tt
entries-stand b es (r ∷ rs) legal stand =
    let is = entry-at 1 (r.number - 1) b es r legal stand.0 in
    (subst (λ (m : ℕ). numbered m es ≡ r ∷ []) (sym is.number) is.only, entries-stand b es rs legal stand.1)

-- what was learnt begins with the histories so far, and with the next
pub learnt-more : (ks : List Knowledge) (n : ℕ) (old new : List Entry) → IsPrefix old new
    → ((i : ℕ) (d : Knowledge) → i < n → IsPrefix (get_or ks i d).history old) → ((d : Knowledge) → IsPrefix (get_or ks n d).history new)
    → (i : ℕ) (d : Knowledge) → i < n + 1 → IsPrefix (get_or ks i d).history new
learnt-more ks n old new more so_far next i d within = go (cases_lt i n)
  where
    go : (i < n) ⊎ (n ≤ i) → IsPrefix (get_or ks i d).history new
    go (inl less) = prefix_trans (get_or ks i d).history old new (so_far i d less) more
    go (inr no_less) =
        let same : n ≡ i = omega (arith, within, no_less) in subst (λ (k : ℕ). IsPrefix (get_or ks k d).history new) same (next d)
