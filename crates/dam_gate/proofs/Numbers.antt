-- The entries of a number.
use Rattle.std.proofs.Common.{◌≡◌, ◌≢◌, ℕ, suc, ◌+◌, ◌<◌, ◌≤◌, ◌==◌, Bool, cond, List, [], ◌∷◌, ◌++◌, length, refl, ap, ◌∙◌, append-nil}
use Rattle.std.proofs.Common.{arith}
use Rattle.std.proofs.lemmas.Bool.{eq-eqb, ne_eqb}
use Rattle.std.proofs.lemmas.List.Elements.{filter-append}
use Rattle.dam_book.specs.declared.command.Entry.{Entry}
use Rattle.dam_book.specs.Book.{BookState, book_after, IsLegalFrom}
use Rattle.dam_gate.specs.Settled.{numbered}

-- of its own number the list has the entry last
pub numbered-own : (n : ℕ) (es : List Entry) (e : Entry) → e.number ≡ n → numbered n (es ++ e ∷ []) ≡ numbered n es ++ e ∷ []
numbered-own n es e own =
    filter-append (λ (x : Entry). x.number == n) es (e ∷ [])
    ∙ ap (λ (b : Bool). numbered n es ++ cond b (e ∷ []) []) (eq-eqb e.number n own)

-- of another number it has no more
pub numbered-other : (n : ℕ) (es : List Entry) (e : Entry) → e.number ≢ n → numbered n (es ++ e ∷ []) ≡ numbered n es
numbered-other n es e other =
    filter-append (λ (x : Entry). x.number == n) es (e ∷ [])
    ∙ ap (λ (b : Bool). numbered n es ++ cond b (e ∷ []) []) (ne_eqb e.number n other)
    ∙ append-nil (numbered n es)

-- at the head
pub numbered-head : (n : ℕ) (e : Entry) (es : List Entry) → e.number ≡ n → numbered n (e ∷ es) ≡ e ∷ numbered n es
numbered-head n e es own = ap (λ (b : Bool). cond b (e ∷ numbered n es) (numbered n es)) (eq-eqb e.number n own)

pub numbered-tail : (n : ℕ) (e : Entry) (es : List Entry) → e.number ≢ n → numbered n (e ∷ es) ≡ numbered n es
numbered-tail n e es other = ap (λ (b : Bool). cond b (e ∷ numbered n es) (numbered n es)) (ne_eqb e.number n other)

-- a history numbered from `n` has no entry of a lesser number
pub none_below : (n m : ℕ) (b : BookState) (es : List Entry) → IsLegalFrom n b es → m < n → numbered m es ≡ []
none_below n m b [] legal below = refl
none_below n m b (e ∷ es) legal below =
    numbered-tail m e es (λ same. omega (arith, same, legal.0, below))
    ∙ none_below (suc n) m (book_after b e.command) es legal.2 (omega (arith, below))

-- and none of a number after its last
pub none_above : (n m : ℕ) (b : BookState) (es : List Entry) → IsLegalFrom n b es → n + length es ≤ m → numbered m es ≡ []
none_above n m b [] legal above = refl
none_above n m b (e ∷ es) legal above =
    numbered-tail m e es (λ same. omega (arith, same, legal.0, above))
    ∙ none_above (suc n) m (book_after b e.command) es legal.2 (omega (arith, above))

-- each entry is the only one of its number
abbrev pub AreOnly : ℕ → List Entry → List Entry → Type 0
AreOnly n [] all = Unit {0}
AreOnly n (e ∷ es) all = (numbered n all ≡ e ∷ []) × AreOnly (suc n) es all

AreOnly-tail : (k n : ℕ) (e : Entry) (es rest : List Entry) → e.number ≡ k → k < n → AreOnly n rest es → AreOnly n rest (e ∷ es)
AreOnly-tail k n e es [] own below only = tt
AreOnly-tail k n e es (x ∷ rest) own below only = (
  numbered-tail n e es (λ same. omega (arith, same, own, below))
      ∙ only.0,
  AreOnly-tail k (suc n) e es rest own (omega (arith, below)) only.1,
)

pub are_only : (n : ℕ) (b : BookState) (es : List Entry) → IsLegalFrom n b es → AreOnly n es es
are_only n b [] legal = tt
are_only n b (e ∷ es) legal = (
  numbered-head n e es legal.0 ∙ ap (λ (xs : List Entry). e ∷ xs) (none_below (suc n) n (book_after b e.command) es legal.2 (omega arith)),
  AreOnly-tail n (suc n) e es es legal.0 (omega arith) (are_only (suc n) (book_after b e.command) es legal.2),
)
