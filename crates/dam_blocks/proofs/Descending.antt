-- In a problem each child has one parent, which stands before it, so that a chain of parents is never longer than the
-- list of blocks.
use Rattle.dam_blocks.proofs.Common.{◌≡◌, ℕ, zero, suc, ◌↔◌, ◌<◌, ◌==◌, Bool, true, false, ◌||◌, Option, Some, None, List, length, get_or, ap, ◌∙◌, sym, refl}
use Rattle.dam_blocks.proofs.Common.{inl, inr, arith, bytes_decides, eq-eqb, cases_eq, false_from_ne_true, slice_get_within, same_text, Block, ProblemState}
use Rattle.dam_blocks.proofs.Common.{IsProblem, IsParent, names, parent_place, leads_to, descends, IsChildAt, Descends, Child, OfChild}
use Rattle.std.proofs.lemmas.Option.{slice_get-get_or}
use Rattle.dam_book.specs.Order.{is_parent}
use Rattle.dam_blocks.proofs.Families.{unequal, first_parent}
use Rattle.dam_blocks.proofs.WelfareAtLeastZero.{named_parent, parent_found, parent_stands_before, same_text_in}

parent_named : (p b : Block) → IsParent p b → names p b ≡ true
parent_named p b is =
    let who : same_text p.who b.who ≡ true = (bytes_decides p.who b.who).1 is.who in
    let own : same_text p.name p.name ≡ true = (bytes_decides p.name p.name).1 refl in
    let name : is_parent p.name b.order.parent ≡ true = ap (λ (o : Option (List ℕ)). is_parent p.name o) is.name ∙ own in
    cc

pub named : (p b : Block) → (names p b ≡ true) ↔ IsParent p b
named p b = (named_parent p b, parent_named p b)

-- the child's parent, as its place has it
child_at : (blocks : List Block) (i j : ℕ) → parent_place blocks j ≡ Some i → IsChildAt blocks i j
child_at blocks i j e =
    let found = parent_found blocks j i e in
    record {
      parent = found.parent;
      child = found.child;
      parent_stands = found.parent_stands;
      child_stands = found.child_stands;
      is_parent =
          found.is_parent;
    }

-- no other block is the parent
no_other : (problem : ProblemState) (i j k : ℕ) → IsProblem problem → (at : IsChildAt problem.blocks i j) → k < i → (d : Block)
    → names (get_or problem.blocks k at.child) at.child ≡ true → k ≡ i
no_other problem i j k is at l d e =
    let inside = slice_get_within problem.blocks i at.parent at.parent_stands in
    let is_named = named_parent (get_or problem.blocks k at.child) at.child e in
    is.unique k i (get_or problem.blocks k at.child) at.parent (slice_get-get_or problem.blocks k at.child (omega (arith, l, inside)))
    at.parent_stands
    (is_named.who ∙ sym at.is_parent.who) (same_text_in _ _ (sym is_named.name ∙ at.is_parent.name))

place_of_child : (problem : ProblemState) (i j : ℕ) → IsProblem problem → IsChildAt problem.blocks i j
    → parent_place problem.blocks j ≡ Some i
place_of_child problem i j is at =
    first_parent problem.blocks j i at.child at.parent at.child_stands at.parent_stands
    (λ k l. false_from_ne_true (names (get_or problem.blocks k at.child) at.child)
    (λ e. (let same = no_other problem i j k is at l at.child e in let wrong : 0 < 0 = omega (arith, l, same) in omega (arith, wrong))))
    (parent_named at.parent at.child at.is_parent)

pub place : (problem : ProblemState) (i j : ℕ) → IsProblem problem → (parent_place problem.blocks j ≡ Some i) ↔ IsChildAt problem.blocks i j
place problem i j is = (child_at problem.blocks i j, place_of_child problem i j is)

-- a chain that leads there is one of children
chain_descends : (blocks : List Block) (i n j : ℕ) (o : Option ℕ) → parent_place blocks j ≡ o → leads_to n blocks i o ≡ true
    → Descends blocks i j
chain_descends blocks i n j None e leads = absurd (cc)
chain_descends blocks i zero j (Some p) e leads = absurd (cc)
chain_descends blocks i (suc n) j (Some p) e leads = elim (cases_eq p i) [
  | inl same ↦ Child j (child_at blocks i j (e ∙ ap (λ (m : ℕ). Some m) same))
  | inr apart ↦
      (let further : leads_to n blocks i (parent_place blocks p) ≡ true = ap (λ (x : Bool). x || leads_to n blocks i
      (parent_place blocks p)) (sym (unequal p i apart)) ∙ leads in
      OfChild p j (chain_descends blocks i n p (parent_place blocks p) refl further) (child_at blocks p j e))
]

-- two numbers of steps that both reach back to the first block see the same chain
enough : (problem : ProblemState) (i m n : ℕ) (o : Option ℕ) → IsProblem problem → ((p : ℕ) → o ≡ Some p → p < m)
    → ((p : ℕ) → o ≡ Some p → p < n)
    → leads_to m problem.blocks i o ≡ leads_to n problem.blocks i o
enough problem i m n None is within also = refl
enough problem i zero n (Some p) is within also = absurd (let wrong = within p refl in omega (arith, wrong))
enough problem i (suc m) zero (Some p) is within also = absurd (let wrong = also p refl in omega (arith, wrong))
enough problem i (suc m) (suc n) (Some p) is within also =
    let near = within p refl in
    let near_too = also p refl in
    ap (λ (x : Bool). (p == i) || x) (enough problem i m n (parent_place problem.blocks p) is
    (λ q e. (let before = parent_stands_before problem p q is e in omega (arith, before, near)))
    (λ q e. (let before = parent_stands_before problem p q is e in omega (arith, before, near_too))))

-- a block whose parent is known descends from that one, or from an ancestor of it
of_parent : (problem : ProblemState) (i j p n : ℕ) → IsProblem problem → parent_place problem.blocks j ≡ Some p
    → length problem.blocks ≡ suc n → p < suc n
    → descends problem.blocks i j ≡ ((p == i) || descends problem.blocks i p)
of_parent problem i j p n is e long l =
    ap (λ (o : Option ℕ). leads_to (length problem.blocks) problem.blocks i o) e
    ∙ ap (λ (m : ℕ). leads_to m problem.blocks i (Some p)) long
    ∙ ap (λ (x : Bool). (p == i) || x) (enough problem i n (length problem.blocks) (parent_place problem.blocks p) is
    (λ q at. (let before = parent_stands_before problem p q is at in omega (arith, before, l)))
    (λ q at. (let before = parent_stands_before problem p q is at in omega (arith, before, l, long))))

some_more : (n k : ℕ) → k < n → (m : ℕ) × (n ≡ suc m)
some_more zero k l = absurd (omega (arith, l))
some_more (suc m) k l = (m, refl)

of_child : (problem : ProblemState) (i j p : ℕ) → IsProblem problem → IsChildAt problem.blocks p j
    → descends problem.blocks i j ≡ ((p == i) || descends problem.blocks i p)
of_child problem i j p is at =
    let inside = slice_get_within problem.blocks p at.parent at.parent_stands in
    let long = some_more (length problem.blocks) p inside in
    let l = long.1 in
    of_parent problem i j p long.0 is (place_of_child problem p j is at) long.1 (omega (arith, inside, l))

or_true : (x : Bool) → (x || true) ≡ true
or_true true = refl
or_true false = refl

descends_by_chain : (problem : ProblemState) (i j : ℕ) → IsProblem problem → Descends problem.blocks i j
    → descends problem.blocks i j ≡ true
descends_by_chain problem i _ is (Child j at) =
    of_child problem i j i is at ∙ ap (λ (x : Bool). x || descends problem.blocks i i) (eq-eqb i i refl)
descends_by_chain problem i _ is (OfChild k j further at) =
    of_child problem i j k is at ∙ ap (λ (x : Bool). (k == i) || x) (descends_by_chain problem i k is further) ∙ or_true (k == i)

pub descends_is : (problem : ProblemState) (i j : ℕ) → IsProblem problem
    → (descends problem.blocks i j ≡ true) ↔ Descends problem.blocks i j
descends_is problem i j is =
    (chain_descends problem.blocks i (length problem.blocks) j (parent_place problem.blocks j) refl, descends_by_chain problem i j is)
