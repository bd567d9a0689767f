-- A book still satisfies the book invariant without the row at a place, if no row names it as its
-- parent.
use Rattle.dam_book.proofs.Common.{AreRows, BookState, Bool, IsBook, Key, List, None, Row, Some, [], ap, are_linked, are_unique, arith, block_count}
use Rattle.dam_book.proofs.Common.{cond, false, hourly_count, is_block, is_day, is_hour, list_any, lookup, names_parent, remove_entry, same_key}
use Rattle.dam_book.proofs.Common.{subst, suc, sym, true, zero, ℕ, ◌∙◌, ◌∷◌, ◌≡◌}
use Rattle.std.specs.List.{slice_get, remove}
use Rattle.dam_book.proofs.Keys.{same_key-refl, same_key-flipped}
use Rattle.dam_book.proofs.RowFacts.{none_head, lookup-first, AreRows-remove_entry, are_unique-remove_entry, count_by-remove_entry}
use Rattle.dam_book.proofs.LinkFacts.{are_linked-removed}

same_row : (a b : Row) → Some a ≡ Some b → a ≡ b
same_row a b e = cc

-- a key that no row has isn't the key of a row that stands
other_key : (test : Key → Bool) (rs : List Row) (k : ℕ) (row : Row) → lookup test rs ≡ None → slice_get rs k ≡ Some row → test row.0 ≡ false
other_key test [] k row e at = absurd (cc)
other_key test (x ∷ xs) zero row e at =
    ap (λ (r : Row). test r.0) (sym (same_row x row at)) ∙ (none_head (test x.0) x.1 (lookup test xs) e).0
other_key test (x ∷ xs) (suc k) row e at = other_key test xs k row (none_head (test x.0) x.1 (lookup test xs) e).1 at

-- the first row isn't under the key of a later one
first_differs : (x : Row) (xs : List Row) (k : ℕ) (row : Row) → are_unique (x ∷ xs) ≡ true → slice_get xs k ≡ Some row
    → same_key row.0 x.0 ≡ false
first_differs x xs k row u at = same_key-flipped x.0 row.0 (other_key (same_key x.0) xs k row (lookup-first x xs u).0 at)

own_key : (x row : Row) → Some x ≡ Some row → same_key row.0 x.0 ≡ true
own_key x row at = ap (λ (r : Row). same_key row.0 r.0) (same_row x row at) ∙ same_key-refl row.0

found_there : (rs : List Row) (k : ℕ) (row : Row) → are_unique rs ≡ true → slice_get rs k ≡ Some row
    → lookup (same_key row.0) rs ≡ Some row.1
found_there [] k row u at = absurd (cc)
found_there (x ∷ xs) zero row u at =
    ap (λ (b : Bool). cond b (Some x.1) (lookup (same_key row.0) xs)) (own_key x row at)
    ∙ ap (λ (r : Row). Some r.1) (same_row x row at)
found_there (x ∷ xs) (suc k) row u at =
    ap (λ (b : Bool). cond b (Some x.1) (lookup (same_key row.0) xs)) (first_differs x xs k row u at)
    ∙ found_there xs k row (lookup-first x xs u).1 at

removed_there : (rs : List Row) (k : ℕ) (row : Row) → are_unique rs ≡ true → slice_get rs k ≡ Some row
    → remove_entry (same_key row.0) rs ≡ remove rs k
removed_there [] k row u at = absurd (cc)
removed_there (x ∷ xs) zero row u at =
    ap (λ (b : Bool). cond b xs (x ∷ remove_entry (same_key row.0) xs)) (own_key x row at)
removed_there (x ∷ xs) (suc k) row u at =
    ap (λ (b : Bool). cond b xs (x ∷ remove_entry (same_key row.0) xs)) (first_differs x xs k row u at)
    ∙ ap (λ (rs : List Row). x ∷ rs) (removed_there xs k row (lookup-first x xs u).1 at)

pub kept_without : (book other : BookState) (place : ℕ) (row : Row) → IsBook book → slice_get book.rows place ≡ Some row
    → list_any (names_parent row.0) book.rows ≡ false → other.periods ≡ book.periods → other.rows ≡ remove book.rows place → IsBook other
kept_without book other place row is at childless periods rows =
    let test = same_key row.0 in
    let found = found_there book.rows place row is.unique at in
    let gone : other.rows ≡ remove_entry test book.rows = rows ∙ sym (removed_there book.rows place row is.unique at) in
    let hours = count_by-remove_entry test is_hour book.rows row.1 found in
    let blocks = count_by-remove_entry test is_block book.rows row.1 found in
    let hourly = ap hourly_count gone in
    let many = ap block_count gone in
    let few_hourly = is.few_hourly in let few_blocks = is.few_blocks in
    record {
      day = ap is_day periods ∙ is.day;
      rows = subst (λ (n : ℕ). AreRows n other.rows) (sym periods)
          (subst (λ (rs : List Row). AreRows book.periods rs) (sym gone) (AreRows-remove_entry book.periods test book.rows is.rows));
      unique = ap are_unique gone ∙ are_unique-remove_entry test book.rows is.unique;
      linked = ap (are_linked []) gone ∙ are_linked-removed book.rows row.0 childless is.linked;
      few_hourly = omega (arith, hours, hourly, few_hourly);
      few_blocks = omega (arith, blocks, many, few_blocks);
    }
