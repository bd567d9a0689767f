-- The text that was read is the front of the reader's bytes, if these are known, and the reader has lost
-- just that.
use Rattle.std.proofs.Common.{◌≡◌, ◌≤◌, ℕ, List, [], ◌++◌, length, take, Some, None, IfSome, Option, sym, ap, subst, ◌∙◌, append-nil}
use Rattle.std.proofs.lemmas.List.{take_all}
use Rattle.std.proofs.Math.Seq.{take-append_seam}
use Rattle.std.proofs.KnownBytes.{Consumes-trans}
use Rattle.std.specs.Io.KnownBytes.{Consumes, IsAtEnd}
use Rattle.dam_engines.specs.Engine.{most_read}
use Rattle.dam_engines.specs.Device.{GivesAll}

-- as many bytes as may be read
pub read-most : (before after : Option (List ℕ)) (text : List ℕ) (most : ℕ) → Consumes before after text → length text ≡ most
    → IfSome before (λ given. text ≡ take most given)
read-most None after text most taken full = tt
read-most (Some given) None text most taken full = absurd taken
read-most (Some given) (Some left) text most taken full =
    sym (ap (take most) taken ∙ ap (λ n. take n (text ++ left)) (sym full) ∙ take-append_seam text left)

-- all bytes
pub read-all : (before after : Option (List ℕ)) (text : List ℕ) (most : ℕ) → Consumes before after text → IsAtEnd after → length text ≤ most
    → IfSome before (λ given. text ≡ take most given)
read-all None after text most taken ended short = tt
read-all (Some given) None text most taken ended short = absurd taken
read-all (Some given) (Some left) text most taken ended short =
    let whole : given ≡ text = taken ∙ ap (λ bs. text ++ bs) ended ∙ append-nil text in
    sym (ap (take most) whole ∙ take_all most text short)

-- a read that gave nothing
pub read-nothing : (before mid after : Option (List ℕ)) (text chunk : List ℕ) (count : ℕ)
    → Consumes before mid text → Consumes mid after (take count chunk) → count ≡ 0 → Consumes before after text
read-nothing before mid after text chunk count taken last none =
    let nothing : take count chunk ≡ [] = ap (λ n. take n chunk) none in
    let same : text ++ take count chunk ≡ text = ap (λ bs. text ++ bs) nothing ∙ append-nil text in
    subst (Consumes before after) same (Consumes-trans before mid after text (take count chunk) taken last)

-- the text is the front that is read of the bytes
pub gives-all : (before after : Option (List ℕ)) (text : List ℕ) → Consumes before after text → IfSome before
    (λ given. text ≡ take most_read given) → GivesAll before after
gives-all None after text taken front = tt
gives-all (Some given) after text taken front = subst (Consumes (Some given) after) front taken
