-- The text of the pairs is the first pair's, and then each later pair's after a semicolon.
use Rattle.dam_book.proofs.Common.{Err, List, Ok, Pair, Result, [], ap, append_assoc, arith, get_or, length, pair_text, sym, take, take-append_seam}
use Rattle.dam_book.proofs.Common.{take_all, take_more, volumes_text, ℕ, ◌++◌, ◌+◌, ◌<◌, ◌∙◌, ◌∷◌, ◌≡◌, ◌≤◌}
use Rattle.std.proofs.Common.{OnErr}
use Rattle.std.proofs.Common.{length-append}
use Rattle.std.proofs.lemmas.List.{take-take}
use Rattle.dam_book.proofs.FieldTexts.{parted, first_and_parted, parted-push}
use Rattle.dam_book.proofs.fields.append_pairs_or_part.Goals as goal

parted_more : (before out pushed written : List ℕ) (rest : List Pair) (i : ℕ) (p : Pair) → out ≡ before ++ parted (take i rest)
    → pushed ≡ out ++ 59 ∷ [] → written ≡ pushed ++ pair_text p → i < length rest → p ≡ get_or rest i p
    → written ≡ before ++ parted (take (i + 1) rest)
parted_more before out pushed written rest i p so_far semicolon text within is =
    let longer : take (i + 1) rest ≡ take i rest ++ p ∷ [] = take_more rest i p within ∙ ap (λ q. take i rest ++ q ∷ []) (sym is) in
    text ∙ ap (λ x. x ++ pair_text p) (semicolon ∙ ap (λ x. x ++ 59 ∷ []) so_far)
    ∙ append_assoc (before ++ parted (take i rest)) (59 ∷ []) (pair_text p) ∙ append_assoc before (parted (take i rest)) (59 ∷ pair_text p)
    ∙ ap (λ x. before ++ x) (sym (ap parted longer ∙ parted-push (take i rest) p))

parted_all : (old before out : List ℕ) (first : Pair) (rest pairs : List Pair) (i : ℕ) → before ≡ old ++ pair_text first
    → out ≡ before ++ parted (take i rest) → length rest ≤ i → pairs ≡ first ∷ rest
    → out ≡ old ++ volumes_text pairs
parted_all old before out first rest pairs i start so_far end is =
    so_far ∙ ap (λ x. before ++ parted x) (take_all i rest end) ∙ ap (λ x. x ++ parted rest) start
    ∙ append_assoc old (pair_text first) (parted rest)
    ∙ ap (λ x. old ++ x) (first_and_parted first rest ∙ ap volumes_text (sym is))

front_of : (xs ys zs more : List ℕ) → take (length ys) zs ≡ ys → ys ≡ xs ++ more → take (length xs) zs ≡ xs
front_of xs ys zs more front e =
    let count : length ys ≡ length xs + length more = ap length e ∙ length-append xs more in
    sym (take-take (length xs) (length ys) zs (omega arith)) ∙ ap (take (length xs)) (front ∙ e) ∙ take-append_seam xs more

on_err : {T E : Type 0} (r : Result T E) (P : Type 0) → P → OnErr r P
on_err (Ok x) P p = tt
on_err (Err e) P p = p

pub returns-in_err-append_pair_or_part-2-clause-err : goal.returns-in_err-append_pair_or_part-2-clause-err
returns-in_err-append_pair_or_part-2-clause-err g c = on_err _ _
    (front_of _ _ _ _ (front_of _ _ _ _ (front_of _ _ _ _ c.in_err-append_pair_or_part-2.ensures.err c.in_ok-push.ensures.items) c.loop-pair.invariant)
    c.in_ok-append_pair_or_part.ensures.ok)

pub loop-pair-preserved : goal.loop-pair-preserved
loop-pair-preserved g c = parted_more _ _ _ _ _ _ _ c.loop-pair.invariant c.in_ok-push.ensures.items c.in_ok-append_pair_or_part-2.ensures.ok
    (omega arith) c.pair-item.is

pub returns-clause-ok : goal.returns-clause-ok
returns-clause-ok g c = parted_all _ _ _ _ _ _ _ c.in_ok-append_pair_or_part.ensures.ok c.loop-pair.invariant c.loop-pair-test.false
    c.in-Some.ensures.cases.0

unpushed : (old before out now first more : List ℕ) → before ≡ old ++ first → out ≡ before ++ more → now ≡ out → take (length old) now ≡ old
unpushed old before out now first more start so_far same =
    ap (take (length old)) (same ∙ so_far ∙ ap (λ x. x ++ more) start ∙ append_assoc old first more) ∙ take-append_seam old (first ++ more)

pub returns-in_err-push-clause-err : goal.returns-in_err-push-clause-err
returns-in_err-push-clause-err g c =
    on_err _ _ (unpushed _ _ _ _ _ _ c.in_ok-append_pair_or_part.ensures.ok c.loop-pair.invariant c.in_err-push.ensures.items)
