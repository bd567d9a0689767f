-- The welfares are ordered, and the lists by the first place where they differ.
use Rattle.std.proofs.Common.{◌∙◌, sym}
use Rattle.dam_blocks.proofs.Ranks.{ranks_either, ranks_apart, ranks_self, ranks_trans, same_rank}
use Rattle.dam_blocks.proofs.laws.ranking_is_total.Goals as goal

pub returns : goal.returns
returns c = record {
  either = ranks_either;
  apart = ranks_apart;
  itself = ranks_self;
  transitive = λ u v w xs ys zs l m n. ranks_trans u xs v ys w zs (l ∙ sym m) (m ∙ sym n);
  same = λ v w xs ys l m. same_rank v xs w ys (l ∙ sym m);
}
