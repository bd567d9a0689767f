-- The places that stay are the places with an order.
use Rattle.dam_book.proofs.Common.{AreNumbered, List, MapPlace, ap, gap_count, is_some, rows_of, rules, subst, sym, ◌∙◌}
use Rattle.std.proofs.lemmas.Map.Made.{filter_same_pairs}
use Rattle.dam_book.proofs.GapFacts.{rows_of-filtered, numbered-filtered}
use Rattle.dam_book.proofs.rows.Rows.remove_gaps.Goals as goal

pub invariant_of-self : goal.invariant_of-self
invariant_of-self g c =
    let kept = filter_same_pairs _ (λ (p : MapPlace). is_some p.1) _ (λ k v b w f' t. search rules)
    c.self.inside.map.entries c.retain.new.self.entries c.retain.ensures.filtered in (
      sym (ap (λ (ps : List MapPlace). gap_count ps) kept ∙ (rows_of-filtered c.self.inside.map.entries).1),
      subst (λ (ps : List MapPlace). AreNumbered 1 ps) (sym kept) (numbered-filtered 1 1 c.self.inside.map.entries c.self.invariant.1),
      c.retain.ensures.unique,
    )

pub returns-then-self-gt0 : goal.returns-then-self-gt0
returns-then-self-gt0 g c =
    let kept = filter_same_pairs _ (λ (p : MapPlace). is_some p.1) _ (λ k v b w f' t. search rules)
    c.self.inside.map.entries c.retain.new.self.entries c.retain.ensures.filtered in
    ap (λ (ps : List MapPlace). rows_of ps) kept ∙ (rows_of-filtered c.self.inside.map.entries).0 ∙ c.self.view_is
