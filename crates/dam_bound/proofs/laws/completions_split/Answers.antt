use Rattle.dam_bound.proofs.Completing.{extended, shortened, padded_completes, all_complete, only_padded}
use Rattle.dam_bound.proofs.laws.completions_split.Goals as goal

pub returns : goal.returns
returns c = record { extended = extended; shortened = shortened; padded = padded_completes; all = all_complete; only = only_padded }
