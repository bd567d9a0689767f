-- Two books that differ in a block, or in its limit, have problems that differ in the same.
use Rattle.dam_blocks.proofs.Common.{◌≡◌, ℕ, zero, suc, ℤ, Some, List, [], ◌∷◌, ◌++◌, length, slice_set, ap, ap₂, ◌∙◌, sym, refl, filter_map-append, BlockTerms}
use Rattle.dam_blocks.proofs.Common.{Key, Row, BookState, Step, Block, step_in, steps_in, hours_from, blocks_in, problem_of, with_limit, IsWithLimit}
use Rattle.std.specs.List.{slice_get, remove}
use Rattle.dam_book.specs.declared.order.Order.TheVariants.{Block as BlockVariant}
use Rattle.dam_blocks.specs.Changes.{IsWithoutBlock}
use Rattle.dam_blocks.proofs.FromBook.{blocks-append, get_seam}

abbrev pub block_at : Key → BlockTerms → Block
block_at key order = record { who = key.0; name = key.1; order = order }

-- ---- rows that agree on the steps of each period
steps_append : (t : ℕ) (front rest : List Row) → steps_in t (front ++ rest) ≡ steps_in t front ++ steps_in t rest
steps_append t front rest = filter_map-append (λ (r : Row). step_in t r.1) front rest

same_hours : (t n : ℕ) (rows others : List Row) → ((s : ℕ) → steps_in s rows ≡ steps_in s others) → hours_from t n rows ≡ hours_from t n others
same_hours t zero rows others same = refl
same_hours t (suc n) rows others same =
    ap₂ (λ (ss : List Step) (hours : List (List Step)). ss ∷ hours) (same t) (same_hours (suc t) n rows others same)

day_of : (book other : BookState) (front rest more : List Row) → book.rows ≡ front ++ rest → other.rows ≡ front ++ more
    → other.periods ≡ book.periods → ((s : ℕ) → steps_in s more ≡ steps_in s rest) → (problem_of other).hours ≡ (problem_of book).hours
day_of book other front rest more rows others periods same =
    ap₂ (λ (n : ℕ) (rs : List Row). hours_from 1 n rs) periods others
    ∙ same_hours 1 book.periods (front ++ more) (front ++ rest)
    (λ s. steps_append s front more ∙ ap (λ (ss : List Step). steps_in s front ++ ss) (same s) ∙ sym (steps_append s front rest))
    ∙ ap (λ (rs : List Row). hours_from 1 book.periods rs) (sym rows)

blocks_of : (book : BookState) (front back : List Row) (key : Key) (order : BlockTerms) → book.rows ≡ front ++ (key, BlockVariant order) ∷ back
    → blocks_in book.rows ≡ blocks_in front ++ block_at key order ∷ blocks_in back
blocks_of book front back key order rows = ap blocks_in rows ∙ blocks-append front ((key, BlockVariant order) ∷ back)

stands : (book : BookState) (front back : List Row) (key : Key) (order : BlockTerms) → book.rows ≡ front ++ (key, BlockVariant order) ∷ back
    → slice_get (blocks_in book.rows) (length (blocks_in front)) ≡ Some (block_at key order)
stands book front back key order rows =
    ap (λ (bs : List Block). slice_get bs (length (blocks_in front))) (blocks_of book front back key order rows)
    ∙ get_seam (blocks_in front) (blocks_in back) (block_at key order)

-- ---- another limit
set_seam : (bs cs : List Block) (b c : Block) → slice_set (bs ++ b ∷ cs) (length bs) c ≡ bs ++ c ∷ cs
set_seam [] cs b c = refl
set_seam (d ∷ bs) cs b c = ap (λ (ds : List Block). d ∷ ds) (set_seam bs cs b c)

pub limit_changed : (book other : BookState) (front back : List Row) (key : Key) (order : BlockTerms) (limit : ℤ)
    → book.rows ≡ front ++ (key, BlockVariant order) ∷ back
    → other.rows ≡ front ++ (key, BlockVariant (record order { price = limit })) ∷ back → other.periods ≡ book.periods
    → IsWithLimit (problem_of book) (problem_of other) (length (blocks_in front)) (block_at key order) limit
limit_changed book other front back key order limit rows others periods = record {
  stands = stands book front back key order rows;
  hours = day_of book other front ((key, BlockVariant order) ∷ back) ((key, BlockVariant (record order { price = limit })) ∷ back) rows others
      periods (λ s. refl);
  blocks = blocks_of other front back key (record order { price = limit }) others
      ∙ sym (set_seam (blocks_in front) (blocks_in back) (block_at key order) (with_limit (block_at key order) limit))
      ∙ ap (λ (bs : List Block). slice_set bs (length (blocks_in front)) (with_limit (block_at key order) limit))
      (sym (blocks_of book front back key order rows));
}

-- ---- without the block
gone : (bs cs : List Block) (b : Block) → remove (bs ++ b ∷ cs) (length bs) ≡ bs ++ cs
gone [] cs b = refl
gone (c ∷ bs) cs b = ap (λ (ds : List Block). c ∷ ds) (gone bs cs b)

pub block_gone : (book other : BookState) (front back : List Row) (key : Key) (order : BlockTerms)
    → book.rows ≡ front ++ (key, BlockVariant order) ∷ back → other.rows ≡ front ++ back → other.periods ≡ book.periods
    → IsWithoutBlock (problem_of book) (problem_of other) (length (blocks_in front)) (block_at key order)
block_gone book other front back key order rows others periods = record {
  stands = stands book front back key order rows;
  hours = day_of book other front ((key, BlockVariant order) ∷ back) back rows others periods (λ s. refl);
  blocks = ap blocks_in others ∙ blocks-append front back
      ∙ sym (gone (blocks_in front) (blocks_in back) (block_at key order))
      ∙ ap (λ (bs : List Block). remove bs (length (blocks_in front))) (sym (blocks_of book front back key order rows));
}
