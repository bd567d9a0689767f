-- The greater of the products at the two ends.
use Rattle.std.proofs.Common.{ℤ, ◌*ℤ◌, ◌≤ℤ◌, to_z, of_z, w64, sym, subst, refl, rules}
use Rattle.dam_bound.proofs.Rivalry.{product_at_ends, ends_exact}
use Rattle.dam_bound.proofs.rivals.greatest_product.Goals as goal

pub returns : goal.returns
returns c price low high =
    subst (λ (z : ℤ). (price *ℤ c.args.volume) ≤ℤ z)
    (sym (ends_exact c.args.volume c.args.range.lowest c.args.range.highest c.from.result c.from-2.result (to_z w64 (of_z w64 c.max.result))
    c.args.range c.requires.volume c.requires.range refl refl (search rules) (search rules) (search rules)))
    (product_at_ends price c.args.volume c.args.range.lowest c.args.range.highest low high)
