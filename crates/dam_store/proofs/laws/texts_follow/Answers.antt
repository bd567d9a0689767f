use Rattle.std.proofs.Common.{◌≡◌, ℕ, List, [], ◌∷◌, ◌++◌, refl, sym, ap, ◌∙◌, append_assoc}
use Rattle.dam_store.specs.FileLines.{text_of}
use Rattle.dam_store.proofs.laws.texts_follow.Goals as goal

text_more : (lines more : List (List ℕ)) → text_of (lines ++ more) ≡ text_of lines ++ text_of more
text_more [] more = refl
text_more (line ∷ lines) more =
    ap (λ (t : List ℕ). line ++ 10 ∷ t) (text_more lines more) ∙ sym (append_assoc line (10 ∷ text_of lines) (text_of more))

-- one text after the other
pub returns : goal.returns
returns c = text_more
