-- The first text, the second one and the zeros that are left lie one after another.
use Rattle.dam_book.proofs.Common.{List, ap, ap₂, drop_at, length, replicate, rules, take_at, ℕ, ◌++◌, ◌∙◌, ◌≡◌}
use Rattle.std.proofs.Math.ListN.{drop}
use borrow.Rule.Slice.PartMut.{put_mid}
use Rattle.dam_book.proofs.rows.key_bytes.Goals as goal

placed : (first second zeros : List ℕ) → length first ≡ 8 → put_mid 8 12 (first ++ zeros) second ≡ first ++ (second ++ drop 12 zeros)
placed first second zeros e =
    ap₂ (λ (a b : List ℕ). a ++ (second ++ b)) (take_at first zeros 8 e) (ap (λ (l : List ℕ). drop 12 l) (drop_at first zeros 8 e))

pub returns : goal.returns
returns c =
    placed c.copy_from_slice.new.self c.copy_from_slice-2.new.self (replicate 16 0) (search rules)
    ∙ ap₂ (λ (a b : List ℕ). a ++ (b ++ replicate 4 0)) (c.copy_from_slice.ensures.after ∙ c.as_padded_bytes.ensures)
    (c.copy_from_slice-2.ensures.after ∙ c.as_padded_bytes-2.ensures)
