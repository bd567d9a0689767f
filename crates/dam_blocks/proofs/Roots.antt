-- An accepted block has just one root, an accepted block without a parent, and a family has one owner.
use Rattle.dam_blocks.proofs.Common.{◌≡◌, ℕ, Bool, true, Some, List, length, ◌∙◌, sym, refl, arith, eq-eqb, eqb-true, slice_get_within, Block, ProblemState}
use Rattle.dam_blocks.proofs.Common.{IsProblem, accepts, IsAdmissible, parent_place, descends}
use Rattle.std.specs.List.{slice_get}
use Rattle.dam_blocks.specs.Market.{IsRootOf}
use Rattle.dam_blocks.proofs.Families.{root, root_is_top, in_family}
use Rattle.dam_blocks.proofs.WelfareAtLeastZero.{are_chains}
use Rattle.dam_blocks.proofs.Descending.{descends_is}
use Rattle.dam_blocks.proofs.Participants.{one_owner}

pub one_root : (problem : ProblemState) (sel : List Bool) (j : ℕ) → IsProblem problem → IsAdmissible problem.blocks sel
    → accepts sel j ≡ true
    → (i : ℕ) × IsRootOf problem.blocks sel i j × ((k : ℕ) → IsRootOf problem.blocks sel k j → k ≡ i)
one_root problem sel j is admissible acc =
    let blocks = problem.blocks in
    let chains = are_chains problem sel is admissible in
    let stands = chains.within j acc in
    let inside = slice_get_within blocks j stands.0 stands.1 in
    let top = root_is_top blocks sel (length blocks) j (parent_place blocks j) chains refl acc
    (λ p e. (let below = chains.before j p e in omega (arith, below, inside))) in (
      root blocks j,
      record {
        accepted = top.0.accepted;
        no_parent = top.0.top;
        family = sym (in_family blocks sel (root blocks j) j (parent_place blocks j) chains top.0.top refl inside)
            ∙ eq-eqb (root blocks j) (root blocks j) refl;
      },
      λ k other. sym (eqb-true (root blocks j) k
          (in_family blocks sel k j (parent_place blocks j) chains other.no_parent refl inside ∙ other.family)),
    )

pub family_owner : (problem : ProblemState) (i j : ℕ) (a b : Block) → IsProblem problem → slice_get problem.blocks i ≡ Some a
    → slice_get problem.blocks j ≡ Some b → descends problem.blocks i j ≡ true → a.who ≡ b.who
family_owner problem i j a b is first second e = one_owner problem.blocks i j a b ((descends_is problem i j is).0 e) first second
