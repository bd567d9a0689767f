-- The front of an admissible selection is admissible.
use Rattle.dam_blocks.proofs.Common.{◌≡◌, ℕ, zero, suc, ◌-◌, ◌<◌, Bool, true, false, Some, List, [], ◌∷◌, ◌++◌, length, replicate, ◌∙◌, sym, arith, most_blocks}
use Rattle.dam_blocks.proofs.Common.{Block, ProblemState, IsParent, IsProblem, accepts, padded, IsAllowed, IsAdmissible}
use Rattle.std.specs.List.{slice_get}
use Rattle.dam_blocks.proofs.Choices.{accepts-replicate}
use Rattle.dam_blocks.proofs.AdmissionDecided.{accepted_within}
use Rattle.dam_blocks.proofs.GroupCounts.{count_at_most}

-- the whole accepts each block that the front accepts ..
whole_accepts : (xs ys : List Bool) (i : ℕ) → accepts xs i ≡ true → accepts (xs ++ ys) i ≡ true
whole_accepts [] ys i e = absurd (cc)
whole_accepts (x ∷ xs) ys zero e = e
whole_accepts (x ∷ xs) ys (suc i) e = whole_accepts xs ys i e

-- .. and at the front's places nothing else
front_accepts : (xs ys : List Bool) (i : ℕ) → i < length xs → accepts (xs ++ ys) i ≡ true → accepts xs i ≡ true
front_accepts [] ys i l e = absurd (omega arith)
front_accepts (x ∷ xs) ys zero l e = e
front_accepts (x ∷ xs) ys (suc i) l e = front_accepts xs ys i (omega (arith, l)) e

unpadded : (xs : List Bool) (n i : ℕ) → accepts (xs ++ replicate n false) i ≡ true → accepts xs i ≡ true
unpadded [] n i e = absurd (accepts-replicate n i e)
unpadded (x ∷ xs) n zero e = e
unpadded (x ∷ xs) n (suc i) e = unpadded xs n i e

padded_accepts : (xs : List Bool) (i : ℕ) → accepts (padded xs) i ≡ true → accepts xs i ≡ true
padded_accepts xs i e = unpadded xs (most_blocks - length xs) i e

-- the parent of a block stands at a lesser place
parent_before : (problem : ProblemState) (i j : ℕ) (block other : Block) → IsProblem problem → slice_get problem.blocks i ≡ Some block
    → slice_get problem.blocks j ≡ Some other → IsParent other block → j < i
parent_before problem i j block other is at stands p =
    let found = is.parents i block other.name at p.name in
    let who : found.parent.who ≡ other.who = found.is_parent.who ∙ sym p.who in
    let name : found.parent.name ≡ other.name = (let a = found.is_parent.name in let b = p.name in cc) in
    let same = is.unique found.place j found.parent other found.stands stands who name in
    let lesser = found.lesser in
    omega (arith, same, lesser)

front_allowed : (problem : ProblemState) (xs ys : List Bool) (i : ℕ) → IsProblem problem → accepts xs i ≡ true
    → IsAllowed problem.blocks (xs ++ ys) i → IsAllowed problem.blocks (padded xs) i
front_allowed problem xs ys i is e allowed = record {
  block = allowed.block;
  stands = allowed.stands;
  parent = λ j other at p.
      (let before = parent_before problem i j allowed.block other is allowed.stands at p in
      let inside = accepted_within xs i e in
      whole_accepts xs (replicate (most_blocks - length xs) false) j
      (front_accepts xs ys j (omega (arith, before, inside)) (allowed.parent j other at p)));
  group =
      (let fewer = count_at_most allowed.block problem.blocks (padded xs) (xs ++ ys)
      (λ j other at one a. whole_accepts xs ys j (padded_accepts xs j a)) in
      let most = allowed.group in
      omega (arith, fewer, most));
}

pub front_admissible : (problem : ProblemState) (xs ys : List Bool) → IsProblem problem
    → IsAdmissible problem.blocks (xs ++ ys) → IsAdmissible problem.blocks (padded xs)
front_admissible problem xs ys is whole = record {
  each = λ i e. (let own = padded_accepts xs i e in front_allowed problem xs ys i is own (whole.each i (whole_accepts xs ys i own)));
}
