-- A choice is as long as it has places.
use Rattle.dam_blocks.specs.Selection.{choice}
use Rattle.dam_search.proofs.Prefixes.{length-choice, prefix_is, prefix_kept}
use Rattle.dam_search.proofs.prefix.Prefix.of_piece.Goals as goal

pub invariant_of-result : goal.invariant_of-result
invariant_of-result c = (
  prefix_kept (choice c.args.depth c.args.piece) c.choice.result c.args.depth c.choice.ensures
      (length-choice c.args.depth c.args.piece),
  c.requires.depth,
)

pub returns : goal.returns
returns c =
    prefix_is (choice c.args.depth c.args.piece) c.choice.result c.args.depth c.choice.ensures (length-choice c.args.depth c.args.piece)
