-- A book whose rows stand in another order, each parent before its children, satisfies the book
-- invariant.
use Rattle.dam_blocks.proofs.Common.{◌≡◌, ℕ, Bool, true, false, cond, not, ◌&&◌, Option, Some, None, List, [], ap, ap₂, ◌∙◌, sym, subst, refl, arith}
use Rattle.dam_blocks.proofs.Common.{IsPermutation, bytes_decides, same_text, Key, Row, BookState, is_day, AreRows, Order}
use Rattle.std.proofs.Common.{is_some}
use Rattle.std.specs.Map.{lookup}
use Rattle.std.proofs.lemmas.List.Sorted.{sum_by-IsPermutation}
use Rattle.std.proofs.lemmas.Bool.Decides.{same_from_decides}
use Rattle.dam_book.specs.Order.{is_hour, is_block}
use Rattle.dam_book.specs.Book.{same_key, are_unique, are_linked, IsBook}
use Rattle.dam_blocks.proofs.Exchanges.{Reordered, Same, Kept, Exchanged, Then, reordered}

rows_too : (n : ℕ) (rows others : List Row) → Reordered rows others → AreRows n rows → AreRows n others
rows_too n _ _ (Same rows) are = are
rows_too n _ _ (Kept r rows others rest) are = (are.0, rows_too n rows others rest are.1)
rows_too n _ _ (Exchanged r s rows) are = (are.1.0, (are.0, are.1.1))
rows_too n _ _ (Then rows others more first second) are = rows_too n others more second (rows_too n rows others first are)

-- ---- no two rows have one key
found_later : (b : Bool) (o : Order) (x y : Option Order) → is_some x ≡ is_some y → is_some (cond b (Some o) x) ≡ is_some (cond b (Some o) y)
found_later true o x y e = refl
found_later false o x y e = e

found_either : (b c : Bool) (o p : Order) (x : Option Order)
    → is_some (cond b (Some o) (cond c (Some p) x)) ≡ is_some (cond c (Some p) (cond b (Some o) x))
found_either true true o p x = refl
found_either true false o p x = refl
found_either false true o p x = refl
found_either false false o p x = refl

found_too : (k : Key) (rows others : List Row) → Reordered rows others
    → is_some (lookup (same_key k) rows) ≡ is_some (lookup (same_key k) others)
found_too k _ _ (Same rows) = refl
found_too k _ _ (Kept r rows others rest) =
    found_later (same_key k r.0) r.1 (lookup (same_key k) rows) (lookup (same_key k) others) (found_too k rows others rest)
found_too k _ _ (Exchanged r s rows) = found_either (same_key k r.0) (same_key k s.0) r.1 s.1 (lookup (same_key k) rows)
found_too k _ _ (Then rows others more first second) = found_too k rows others first ∙ found_too k others more second

same_text-sym : (s t : List ℕ) → same_text s t ≡ same_text t s
same_text-sym s t = let other = bytes_decides t s in
    same_from_decides (same_text s t) (same_text t s) (bytes_decides s t) (λ e. sym (other.0 e), λ e. other.1 (sym e))

same_key-sym : (k l : Key) → same_key k l ≡ same_key l k
same_key-sym k l = ap₂ (λ (a b : Bool). a && b) (same_text-sym k.0 l.0) (same_text-sym k.1 l.1)

two_apart : (b : Bool) (o p : Order) (x y : Option Order) (rest : Bool)
    → (not (is_some (cond b (Some p) x)) && (not (is_some y) && rest)) ≡ (not (is_some (cond b (Some o) y)) && (not (is_some x) && rest))
two_apart true o p x y rest = refl
two_apart false o p None None rest = refl
two_apart false o p None (Some y) rest = refl
two_apart false o p (Some x) None rest = refl
two_apart false o p (Some x) (Some y) rest = refl

unique_too : (rows others : List Row) → Reordered rows others → are_unique rows ≡ are_unique others
unique_too _ _ (Same rows) = refl
unique_too _ _ (Kept r rows others rest) =
    ap₂ (λ (b c : Bool). not b && c) (found_too r.0 rows others rest) (unique_too rows others rest)
unique_too _ _ (Exchanged r s rows) =
    two_apart (same_key r.0 s.0) r.1 s.1 (lookup (same_key r.0) rows) (lookup (same_key s.0) rows) (are_unique rows)
    ∙ ap (λ (b : Bool). not (is_some (cond b (Some r.1) (lookup (same_key s.0) rows)))
    && (not (is_some (lookup (same_key r.0) rows)) && are_unique rows)) (same_key-sym r.0 s.0)
unique_too _ _ (Then rows others more first second) = unique_too rows others first ∙ unique_too others more second

pub reordered_book : (book other : BookState) → IsBook book → IsPermutation book.rows other.rows → other.periods ≡ book.periods
    → are_linked [] other.rows ≡ true → IsBook other
reordered_book book other is permuted periods linked =
    let change = reordered book.rows other.rows permuted in
    let hours = sum_by-IsPermutation (λ (r : Row). cond (is_hour r.1) 1 0) book.rows other.rows permuted in
    let blocks = sum_by-IsPermutation (λ (r : Row). cond (is_block r.1) 1 0) book.rows other.rows permuted in
    let few_hourly = is.few_hourly in let few_blocks = is.few_blocks in
    record {
      day = ap is_day periods ∙ is.day;
      rows = subst (λ (n : ℕ). AreRows n other.rows) (sym periods) (rows_too book.periods book.rows other.rows change is.rows);
      unique = sym (unique_too book.rows other.rows change) ∙ is.unique;
      linked = linked;
      few_hourly = omega (arith, hours, few_hourly);
      few_blocks = omega (arith, blocks, few_blocks);
    }
