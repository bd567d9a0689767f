-- Entries of a history, each at most once, are the whole history if they are as many.
use Rattle.std.proofs.Common.{◌≡◌, ◌≢◌, ℕ, suc, ◌+◌, ◌≤◌, ◌==◌, ◌⊎◌, inl, inr, Bool, true, false, cond, if◌then◌else◌, List, [], ◌∷◌}
use Rattle.std.proofs.Common.{length, refl, sym, ap, ◌∙◌, arith}
use Rattle.std.specs.List.{filter}
use Rattle.std.proofs.lemmas.Bool.{eqb-true, eqb-false}
use Rattle.dam_book.specs.declared.command.Entry.{Entry}
use Rattle.dam_book.specs.Book.{BookState, book_after, IsLegalFrom}
use Rattle.dam_gate.specs.Settled.{numbered}
use Rattle.dam_gate.specs.inside.Tally.{AreReceipts}
use Rattle.dam_gate.proofs.Accounts.{AreEntries}
use Rattle.dam_gate.proofs.Days.{is_number}
use Rattle.dam_gate.proofs.Numbers.{numbered-head, numbered-tail}

-- those of another number
abbrev others : ℕ → List Entry → List Entry
others n rs = filter (λ (e : Entry). if e.number == n then false else true) rs

split-length : (n : ℕ) (rs : List Entry) → length rs ≡ length (numbered n rs) + length (others n rs)
split-length n [] = refl
split-length n (r ∷ rs) =
    let rest = split-length n rs in
    elim (r.number == n) as (λ (t : Bool). suc (length rs) ≡ length (cond t (r ∷ numbered n rs) (numbered n rs))
    + length (cond (if t then false else true) (r ∷ others n rs) (others n rs)))
    [ true ↦ omega (arith, rest) | false ↦ omega (arith, rest) ]

-- of each number there are no more of them than of all
one-fewer : (r : Entry) (xs ys : List Entry) (t : Bool) → length xs ≤ length ys → length xs ≤ length (cond t (r ∷ ys) ys)
one-fewer r xs ys true few = omega (arith, few)
one-fewer r xs ys false few = few

both-more : (r : Entry) (xs ys : List Entry) (t : Bool) → length xs ≤ length ys → length (cond t (r ∷ xs) xs) ≤ length (cond t (r ∷ ys) ys)
both-more r xs ys true few = omega (arith, few)
both-more r xs ys false few = few

fewer : (n m : ℕ) (rs : List Entry) → length (numbered m (others n rs)) ≤ length (numbered m rs)
fewer n m [] = omega arith
fewer n m (r ∷ rs) =
    let rest = fewer n m rs in
    elim (r.number == n) as (λ (t : Bool). length (numbered m (cond (if t then false else true) (r ∷ others n rs) (others n rs)))
    ≤ length (numbered m (r ∷ rs))) [
      | true ↦ one-fewer r (numbered m (others n rs)) (numbered m rs) (r.number == m) rest
      | false ↦ both-more r (numbered m (others n rs)) (numbered m rs) (r.number == m) rest
    ]

-- of another number there are as many
others-number : (n m : ℕ) (rs : List Entry) → m ≢ n → numbered m (others n rs) ≡ numbered m rs
others-number n m [] other = refl
others-number n m (r ∷ rs) other =
    let rest = others-number n m rs other in
    elim (r.number == n) as (λ (t : Bool). r.number == n ≡ t
    → numbered m (cond (if t then false else true) (r ∷ others n rs) (others n rs)) ≡ numbered m (r ∷ rs)) [
      | true ↦ λ is. rest ∙ sym (numbered-tail m r rs (λ same. other (sym same ∙ eqb-true r.number n is)))
      | false ↦ λ is. ap (λ (xs : List Entry). cond (r.number == m) (r ∷ xs) xs) rest
    ] refl

-- after the first entry
entries-others : (n : ℕ) (e : Entry) (es rs : List Entry) → e.number ≡ n → AreEntries (e ∷ es) rs → AreEntries es (others n rs)
entries-others n e es [] own are = tt
entries-others n e es (r ∷ rs) own are =
    let rest = entries-others n e es rs own are.1 in
    elim (r.number == n) as (λ (t : Bool). r.number == n ≡ t
    → AreEntries es (cond (if t then false else true) (r ∷ others n rs) (others n rs))) [
      | true ↦ λ is. rest
      | false ↦ λ is. (
        sym (numbered-tail r.number e es (λ same. eqb-false r.number n is (sym same ∙ own))) ∙ are.0,
        rest,
      )
    ] refl

-- the first of a number is the entry of that number
pub first-entry : (n : ℕ) (es rs : List Entry) (r : Entry) (xs : List Entry) → AreEntries es rs → numbered n rs ≡ r ∷ xs
    → numbered n es ≡ r ∷ []
first-entry n es [] r xs are is = absurd (cc)
first-entry n es (q ∷ rs) r xs are is =
    go (is_number q.number n) (λ other. first-entry n es rs r xs are.1 (sym (numbered-tail n q rs other) ∙ is))
  where
    go : (q.number ≡ n) ⊎ (q.number ≢ n) → (q.number ≢ n → numbered n es ≡ r ∷ []) → numbered n es ≡ r ∷ []
    go (inl own) later =
        let both : q ∷ numbered n rs ≡ r ∷ xs = sym (numbered-head n q rs own) ∙ is in
        let head : q ≡ r = cc in
        ap (λ (m : ℕ). numbered m es) (sym own) ∙ are.0 ∙ ap (λ (x : Entry). x ∷ []) head
    go (inr other) later = later other

few : (n : ℕ) (b : BookState) (es rs : List Entry) → IsLegalFrom n b es → AreEntries es rs → ((m : ℕ) → length (numbered m rs) ≤ 1)
    → length rs ≤ length es
few n b [] [] legal are once = omega arith
few n b [] (r ∷ rs) legal are once = absurd (let none : [] ≡ r ∷ [] = are.0 in cc)
few n b (e ∷ es) rs legal are once =
    let rest = few (suc n) (book_after b e.command) es (others n rs) legal.2 (entries-others n e es rs legal.0 are)
    (λ m. omega (arith, fewer n m rs, once m)) in
    omega (arith, split-length n rs, once n, rest)

the-one : (n : ℕ) (es rs xs : List Entry) → AreEntries es rs → numbered n rs ≡ xs → length xs ≡ 1 → numbered n rs ≡ numbered n es
the-one n es rs [] are is one = absurd (omega (arith, one))
the-one n es rs (r ∷ []) are is one = is ∙ sym (first-entry n es rs r [] are is)
the-one n es rs (r ∷ q ∷ xs) are is one = absurd (omega (arith, one))

pub all-entries : (n : ℕ) (b : BookState) (es rs : List Entry) → IsLegalFrom n b es → AreEntries es rs
    → ((m : ℕ) → length (numbered m rs) ≤ 1) → length es ≤ length rs → AreReceipts es rs
all-entries n b [] [] legal are once enough m = refl
all-entries n b [] (r ∷ rs) legal are once enough m = absurd (let none : [] ≡ r ∷ [] = are.0 in cc)
all-entries n b (e ∷ es) rs legal are once enough m =
    go (is_number m n)
    (all-entries (suc n) (book_after b e.command) es (others n rs) legal.2 (entries-others n e es rs legal.0 are)
    (λ k. omega (arith, fewer n k rs, once k)) (omega (arith, split-length n rs, once n, enough)) m)
  where
    go : (m ≡ n) ⊎ (m ≢ n) → numbered m (others n rs) ≡ numbered m es → numbered m rs ≡ numbered m (e ∷ es)
    go (inl own) later =
        let rest = few (suc n) (book_after b e.command) es (others n rs) legal.2 (entries-others n e es rs legal.0 are)
        (λ k. omega (arith, fewer n k rs, once k)) in
        let one : length (numbered n rs) ≡ 1 = omega (arith, split-length n rs, once n, rest, enough) in
        ap (λ (k : ℕ). numbered k rs) own ∙ the-one n (e ∷ es) rs (numbered n rs) are refl one
        ∙ ap (λ (k : ℕ). numbered k (e ∷ es)) (sym own)
    go (inr other) later =
        sym (others-number n m rs other) ∙ later ∙ sym (numbered-tail m e es (λ same. other (sym same ∙ legal.0)))
