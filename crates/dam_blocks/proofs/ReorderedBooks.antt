-- Two books with the same rows in another order have problems that differ in the same.
use Rattle.dam_blocks.proofs.Common.{◌≡◌, ℕ, zero, suc, Option, Some, None, List, [], ◌∷◌, sym, subst, cons_option, IsPermutation, Row, BookState, step_in}
use Rattle.dam_blocks.proofs.Common.{hours_from, block_under, problem_of}
use Rattle.std.specs.List.{filter_map}
use Rattle.std.proofs.lemmas.List.Sorted.{IsPermutation-refl, IsPermutation-cons, IsPermutation-trans, IsPermutation-middle}
use Rattle.dam_blocks.specs.Changes.{AreReordered, IsReordered, HasBlocksReordered}
use Rattle.dam_blocks.proofs.Exchanges.{Reordered, Same, Kept, Exchanged, Then, reordered}

one_more : {Y : Type 0} (o : Option Y) (xs ys : List Y) → IsPermutation xs ys → IsPermutation (cons_option o xs) (cons_option o ys)
one_more None xs ys is = is
one_more (Some y) xs ys is = IsPermutation-cons y xs ys is

two_more : {Y : Type 0} (o p : Option Y) (xs : List Y)
    → IsPermutation (cons_option o (cons_option p xs)) (cons_option p (cons_option o xs))
two_more None p xs = IsPermutation-refl (cons_option p xs)
two_more (Some y) None xs = IsPermutation-refl (y ∷ xs)
two_more (Some y) (Some z) xs = IsPermutation-middle (y ∷ []) z xs

picked : {X Y : Type 0} (f : X → Option Y) (xs ys : List X) → Reordered xs ys → IsPermutation (filter_map f xs) (filter_map f ys)
picked f _ _ (Same xs) = IsPermutation-refl (filter_map f xs)
picked f _ _ (Kept x xs ys rest) = one_more (f x) (filter_map f xs) (filter_map f ys) (picked f xs ys rest)
picked f _ _ (Exchanged x y xs) = two_more (f x) (f y) (filter_map f xs)
picked f _ _ (Then xs ys zs first second) =
    IsPermutation-trans (filter_map f xs) (filter_map f ys) (filter_map f zs) (picked f xs ys first) (picked f ys zs second)

day_reordered : (t n : ℕ) (rows others : List Row) → Reordered rows others → AreReordered (hours_from t n rows) (hours_from t n others)
day_reordered t zero rows others is = tt
day_reordered t (suc n) rows others is =
    (picked (λ (r : Row). step_in t r.1) rows others is, day_reordered (suc t) n rows others is)

pub hours_reordered : (book other : BookState) → IsPermutation book.rows other.rows → other.periods ≡ book.periods
    → (problem_of other).blocks ≡ (problem_of book).blocks → IsReordered (problem_of book) (problem_of other)
hours_reordered book other is periods same = record {
  hours = subst (λ (n : ℕ). AreReordered (hours_from 1 book.periods book.rows) (hours_from 1 n other.rows)) (sym periods)
      (day_reordered 1 book.periods book.rows other.rows (reordered book.rows other.rows is));
  blocks = same;
}

pub blocks_reordered : (book other : BookState) → IsPermutation book.rows other.rows
    → (problem_of other).hours ≡ (problem_of book).hours → HasBlocksReordered (problem_of book) (problem_of other)
blocks_reordered book other is same = record {
  hours = same;
  blocks = picked (λ (r : Row). block_under r.0.0 r.0.1 r.1) book.rows other.rows (reordered book.rows other.rows is);
}
