-- Receipts that are the entries number by number are the entries, each once, and the other way round; those of a pass
-- stand in their order.
use Rattle.std.proofs.Common.{◌≡◌, ◌≢◌, ℕ, suc, ◌<◌, ◌≤◌, ◌==◌, ◌⊎◌, inl, inr, Bool, true, false, Option, List, [], ◌∷◌, ◌++◌, length, refl}
use Rattle.std.proofs.Common.{sym, ap, subst, ◌∙◌, append_assoc, length-append, arith, All}
use Rattle.std.proofs.lemmas.Bool.{eqb-true, eqb-false, cases_lt}
use Rattle.std.proofs.lemmas.List.Elements.{filter-append, All-nil, All-cons, All-weaker}
use Rattle.std.specs.List.Sorted.{IsPermutation}
use Rattle.std.proofs.lemmas.List.Sorted.{IsPermutation-refl, IsPermutation-trans, IsPermutation-middle, IsPermutation-cons}
use Rattle.dam_book.specs.declared.command.Entry.{Entry}
use Rattle.dam_book.specs.Book.{BookState, book_after, empty_book, IsLegalFrom, IsLegalHistory}
use Rattle.dam_gate.specs.Pass.{AccountState, IsAccount, AreInOrder, AreOwn, is_own}
use Rattle.dam_gate.specs.Settled.{numbered, receipts_of}
use Rattle.dam_gate.specs.Headline.{AreSomeOf, AreOfHolder}
use Rattle.dam_gate.specs.inside.Tally.{AreReceipts}
use Rattle.dam_gate.proofs.Numbers.{numbered-head, numbered-tail, none_below}
use Rattle.dam_gate.proofs.Permutations.{filter-permutation}

-- the entry is among these, between a front and a back
pub record Stands (e : Entry) (rs : List Entry) : Type 0 where
  pub front : List Entry
  pub back : List Entry
  pub is : rs ≡ front ++ e ∷ back

stands : (n : ℕ) (e : Entry) (es rs : List Entry) → numbered n rs ≡ e ∷ es → Stands e rs
stands n e es [] one = absurd (cc)
stands n e es (r ∷ rs) one = elim (r.number == n) as (λ (b : Bool). r.number == n ≡ b → Stands e (r ∷ rs)) [
  | true ↦ λ own. let same : r ∷ numbered n rs ≡ e ∷ es = sym (numbered-head n r rs (eqb-true r.number n own)) ∙ one in
      record { front = []; back = rs; is = let head : r ≡ e = cc in ap (λ (x : Entry). x ∷ rs) head }
  | false ↦ λ other. let rest = stands n e es rs (sym (numbered-tail n r rs (eqb-false r.number n other)) ∙ one) in
      record { front = r ∷ rest.front; back = rest.back; is = ap (λ (xs : List Entry). r ∷ xs) rest.is }
] refl

pub numbered-both : (m : ℕ) (front back : List Entry) → numbered m (front ++ back) ≡ numbered m front ++ numbered m back
numbered-both m front back = filter-append (λ (x : Entry). x.number == m) front back

no_more : (xs ys : List Entry) (e : Entry) → xs ++ e ∷ ys ≡ e ∷ [] → xs ++ ys ≡ []
no_more [] ys e one = cc
no_more (x ∷ xs) ys e one =
    let tails : xs ++ e ∷ ys ≡ [] = cc in
    absurd (let n : length (xs ++ e ∷ ys) ≡ 0 = ap (λ (zs : List Entry). length zs) tails in omega (arith, n, length-append xs (e ∷ ys)))

-- without the one receipt of the first entry, the receipts are the other entries
others : (n : ℕ) (e : Entry) (es front back : List Entry) → e.number ≡ n → numbered n es ≡ [] → AreReceipts (e ∷ es) (front ++ e ∷ back)
    → AreReceipts es (front ++ back)
others n e es front back own none are m = elim (e.number == m) as
    (λ (b : Bool). e.number == m ≡ b → numbered m (front ++ back) ≡ numbered m es) [
      | true ↦ λ same. let here : e.number ≡ m = eqb-true e.number m same in
          let gone : numbered m es ≡ [] = subst (λ (k : ℕ). numbered k es ≡ []) (sym own ∙ here) none in
          let one : numbered m front ++ e ∷ numbered m back ≡ e ∷ [] =
          ap (λ (xs : List Entry). numbered m front ++ xs) (sym (numbered-head m e back here)) ∙ sym (numbered-both m front (e ∷ back))
          ∙ are m ∙ numbered-head m e es here ∙ ap (λ (xs : List Entry). e ∷ xs) gone in
          numbered-both m front back ∙ no_more (numbered m front) (numbered m back) e one ∙ sym gone
      | false ↦ λ other. let apart : e.number ≢ m = eqb-false e.number m other in
          numbered-both m front back ∙ ap (λ (xs : List Entry). numbered m front ++ xs) (sym (numbered-tail m e back apart))
          ∙ sym (numbered-both m front (e ∷ back))
          ∙ are m ∙ numbered-tail m e es apart
    ] refl

pub each_once : (n : ℕ) (b : BookState) (es rs : List Entry) → IsLegalFrom n b es → AreReceipts es rs → IsPermutation rs es
each_once n b [] [] legal are = IsPermutation-refl []
each_once n b [] (r ∷ rs) legal are =
    let none : r ∷ numbered r.number rs ≡ [] = sym (numbered-head r.number r rs refl) ∙ are r.number in
    absurd (cc)
each_once n b (e ∷ es) rs legal are =
    let gone = none_below (suc n) n (book_after b e.command) es legal.2 (omega arith) in
    let at = stands n e (numbered n es) rs (are n ∙ numbered-head n e es legal.0) in
    let rest = each_once (suc n) (book_after b e.command) es (at.front ++ at.back) legal.2
    (others n e es at.front at.back legal.0 gone (subst (AreReceipts (e ∷ es)) at.is are)) in
    subst (λ (xs : List Entry). IsPermutation xs (e ∷ es)) (sym at.is)
    (IsPermutation-trans (at.front ++ e ∷ at.back) (e ∷ (at.front ++ at.back)) (e ∷ es) (IsPermutation-middle at.front e at.back)
    (IsPermutation-cons e (at.front ++ at.back) es rest))

-- ---- the order of the receipts of a pass

-- each of these is the one entry of its number
abbrev pub AreEntries : List Entry → List Entry → Type 0
AreEntries es [] = Unit {0}
AreEntries es (r ∷ rs) = (numbered r.number es ≡ r ∷ []) × AreEntries es rs

at_most_one : (n m : ℕ) (b : BookState) (es : List Entry) → IsLegalFrom n b es → length (numbered m es) ≤ 1
at_most_one n m b [] legal = omega arith
at_most_one n m b (e ∷ es) legal = elim (e.number == m) as (λ (t : Bool). e.number == m ≡ t → length (numbered m (e ∷ es)) ≤ 1) [
  | true ↦ λ same. let here = eqb-true e.number m same in
      let gone : numbered m es ≡ [] = none_below (suc n) m (book_after b e.command) es legal.2 (omega (arith, here, legal.0)) in
      let one : numbered m (e ∷ es) ≡ e ∷ [] = numbered-head m e es here ∙ ap (λ (xs : List Entry). e ∷ xs) gone in
      omega (arith, ap (λ (xs : List Entry). length xs) one)
  | false ↦ λ other. omega (
    arith,
    ap (λ (xs : List Entry). length xs) (numbered-tail m e es (eqb-false e.number m other)),
    at_most_one (suc n) m (book_after b e.command) es legal.2,
  )
] refl

-- entries, each once, are the entries number by number
pub each_number : (periods : ℕ) (es rs : List Entry) → IsLegalHistory periods es → IsPermutation rs es → AreReceipts es rs
each_number periods es rs legal once n =
    filter-permutation (λ (e : Entry). e.number == n) rs es once (at_most_one 1 n (empty_book periods) es legal)

only_one : (xs ys zs : List Entry) (r : Entry) → xs ++ r ∷ ys ≡ zs → length zs ≤ 1 → zs ≡ r ∷ []
only_one [] [] zs r is few = sym is
only_one [] (y ∷ ys) zs r is few = absurd (omega (arith, few, ap (λ (xs : List Entry). length xs) is))
only_one (x ∷ xs) ys zs r is few = absurd (omega (arith, few, ap (λ (xs : List Entry). length xs) is, length-append (x ∷ xs) (r ∷ ys)))

-- among all receipts
are_entries : (b : BookState) (es front rs back : List Entry) → IsLegalFrom 1 b es → AreReceipts es (front ++ (rs ++ back))
    → AreEntries es rs
are_entries b es front [] back legal are = tt
are_entries b es front (r ∷ rs) back legal are =
    let n = r.number in
    let all : numbered n front ++ r ∷ numbered n (rs ++ back) ≡ numbered n es =
    ap (λ (xs : List Entry). numbered n front ++ xs) (sym (numbered-head n r (rs ++ back) refl))
    ∙ sym (numbered-both n front (r ∷ (rs ++ back))) ∙ are n in (
      only_one (numbered n front) (numbered n (rs ++ back)) (numbered n es) r all (at_most_one 1 n b es legal),
      are_entries b es (front ++ r ∷ []) rs back legal (subst (AreReceipts es) (sym (append_assoc front (r ∷ []) (rs ++ back))) are),
    )

-- after the first entry, whose number is at most `low`
entries-tail : (n low seen : ℕ) (e : Entry) (es rs : List Entry) → e.number ≡ n → n ≤ low → AreInOrder low seen rs → AreEntries (e ∷ es) rs
    → AreEntries es rs
entries-tail n low seen e es [] own above ordered are = tt
entries-tail n low seen e es (r ∷ rs) own above ordered are = (
  sym (numbered-tail r.number e es (λ same. omega (arith, same, own, above, ordered.0))) ∙ are.0,
  entries-tail n r.number seen e es rs own (omega (arith, above, ordered.0)) ordered.1 are.1,
)

not_below : (n m : ℕ) (b : BookState) (es : List Entry) (r : Entry) → IsLegalFrom n b es → numbered m es ≡ r ∷ [] → (m < n) ⊎ (n ≤ m)
    → n ≤ m
not_below n m b es r legal one (inl below) = let none : [] ≡ r ∷ [] = sym (none_below n m b es legal below) ∙ one in absurd (cc)
not_below n m b es r legal one (inr above) = above

some_of : (n low seen : ℕ) (b : BookState) (es rs : List Entry) → IsLegalFrom n b es → n ≤ suc low → AreInOrder low seen rs
    → AreEntries es rs → AreSomeOf rs es
some_of n low seen b [] [] legal above ordered are = tt
some_of n low seen b (e ∷ es) [] legal above ordered are = tt
some_of n low seen b [] (r ∷ rs) legal above ordered are = let none : [] ≡ r ∷ [] = are.0 in absurd (cc)
some_of n low seen b (e ∷ es) (r ∷ rs) legal above ordered are =
    elim (e.number == r.number) as (λ (t : Bool). e.number == r.number ≡ t → AreSomeOf (r ∷ rs) (e ∷ es)) [
      | true ↦ λ same. let here = eqb-true e.number r.number same in
          let one : e ∷ numbered r.number es ≡ r ∷ [] = sym (numbered-head r.number e es here) ∙ are.0 in
          let equal : r ≡ e = cc in
          inl (
            equal,
            some_of (suc n) r.number seen (book_after b e.command) es rs legal.2 (omega (arith, here, legal.0)) ordered.1
                (entries-tail n r.number seen e es rs legal.0 (omega (arith, here, legal.0)) ordered.1 are.1),
          )
      | false ↦ λ other. let apart = eqb-false e.number r.number other in
          let no_less = not_below n r.number b (e ∷ es) r legal are.0 (cases_lt r.number n) in
          let later : n < r.number = omega (arith, apart, no_less, legal.0) in
          inr (some_of (suc n) n seen (book_after b e.command) es (r ∷ rs) legal.2 (omega arith) (later, ordered.1) (
            sym (numbered-tail r.number e es apart) ∙ are.0,
            entries-tail n r.number seen e es rs legal.0 (omega (arith, later)) ordered.1 are.1,
          ))
    ] refl

in_order-from : (b : BookState) (es front : List Entry) (ps : List AccountState) → IsLegalFrom 1 b es
    → AreReceipts es (front ++ receipts_of ps) → All IsAccount ps
    → All (λ (p : AccountState). AreSomeOf p.receipts es) ps
in_order-from b es front [] legal are passes = All-nil (λ (p : AccountState). AreSomeOf p.receipts es)
in_order-from b es front (p ∷ ps) legal are passes =
    All-cons (λ (q : AccountState). AreSomeOf q.receipts es) p ps
    (some_of 1 0 p.seen b es p.receipts legal (omega arith) (passes 0 p (omega arith)).in_order
    (are_entries b es front p.receipts (receipts_of ps) legal are))
    (in_order-from b es (front ++ p.receipts) ps legal (subst (AreReceipts es) (sym (append_assoc front p.receipts (receipts_of ps))) are)
    (λ k d within. passes (suc k) d (omega (arith, within))))

pub in_order : (b : BookState) (es : List Entry) (ps : List AccountState) → IsLegalFrom 1 b es → AreReceipts es (receipts_of ps)
    → All IsAccount ps
    → All (λ (p : AccountState). AreSomeOf p.receipts es) ps
in_order b es ps legal are passes = in_order-from b es [] ps legal are passes

-- each receipt of a pass is of a command that was its holder's to give
all_own : (holder : Option (List ℕ)) (es : List Entry) → AreOwn holder es → All (λ (e : Entry). is_own holder e.command ≡ true) es
all_own holder [] own = All-nil (λ (e : Entry). is_own holder e.command ≡ true)
all_own holder (e ∷ es) own = All-cons (λ (x : Entry). is_own holder x.command ≡ true) e es own.0 (all_own holder es own.2)

pub of_holders : (ps : List AccountState) → All IsAccount ps → All AreOfHolder ps
of_holders ps passes = All-weaker IsAccount AreOfHolder (λ p is. all_own p.holder p.receipts is.own) ps passes
