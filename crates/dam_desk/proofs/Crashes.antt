-- The lines that a file keeps through a crash.
use Rattle.std.proofs.Common.{◌≡◌, inl, inr, List, ℕ, [], ◌++◌, sym, ap, ◌∙◌, subst, append_assoc, append-nil}
use Rattle.dam_store.specs.FileLines.{StandsFor, StandsForEither}
use Rattle.dam_desk.specs.Desk.{KeepsLines}

pub stands_keeps : (lines : List (List ℕ)) (file : List ℕ) → StandsFor lines file → (more : List (List ℕ)) × StandsFor (lines ++ more) file
stands_keeps lines file stands = ([], subst (λ (l : List (List ℕ)). StandsFor l file) (sym (append-nil lines)) stands)

pub either_keeps : (lines batch : List (List ℕ)) (file : List ℕ) → StandsForEither lines batch file
    → (more : List (List ℕ)) × StandsFor (lines ++ more) file
either_keeps lines batch file (inl stands) = stands_keeps lines file stands
either_keeps lines batch file (inr stands) = (batch, stands)

-- what keeps more lines keeps the first of them
pub keeps_first : (outcomes : List ℕ → Type 0) (first now more : List (List ℕ)) → now ≡ first ++ more → KeepsLines outcomes now
    → KeepsLines outcomes first
keeps_first outcomes first now more is keeps file left =
    let k = keeps file left in (
      more ++ k.0,
      subst (λ (l : List (List ℕ)). StandsFor l file) (ap (λ (l : List (List ℕ)). l ++ k.0) is ∙ append_assoc first more k.0) k.1,
    )

pub grown_more : (first now later more batch : List (List ℕ)) → now ≡ first ++ more → later ≡ now ++ batch
    → later ≡ first ++ (more ++ batch)
grown_more first now later more batch is after = after ∙ ap (λ (l : List (List ℕ)). l ++ batch) is ∙ append_assoc first more batch
