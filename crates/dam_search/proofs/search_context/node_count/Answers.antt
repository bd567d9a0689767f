-- A power of two isn't 0, and this one fits in 32 bits.
use Rattle.std.proofs.Common.{◌+◌, ◌^◌, ◌<◌, arith}
use Rattle.std.proofs.lemmas.Nat.{pow_pos, pow_below}
use Rattle.dam_search.proofs.search_context.node_count.Goals as goal

pub overflow_sub-result : goal.overflow_sub-result
overflow_sub-result c =
    let some = pow_pos (c.args.undecided_count + 1) in
    let fits : 2 ^ (c.args.undecided_count + 1) < 2 ^ 32 = pow_below (c.args.undecided_count + 1) 32 (omega (arith, c.requires)) in
    omega (arith, some, fits)
