-- No hourly order loses at the price, and a participant's accepted blocks make up whole families.
use Rattle.dam_blocks.proofs.Participants.{GainLaws, order_at_least_zero, participant_gains, descendants_gain}
use Rattle.dam_blocks.proofs.Roots.{one_root, family_owner}
use Rattle.dam_blocks.proofs.market.nobody_loses.Goals as goal

pub returns : goal.returns
returns c =
    let laws : GainLaws = record { support = c.price_supports_best.ensures; at_least_zero = c.supported_surplus_is_greatest.ensures.at_least_zero } in
    record {
      order = order_at_least_zero laws;
      participant = participant_gains laws;
      descendants = descendants_gain;
      root = one_root;
      owner = family_owner;
    }
