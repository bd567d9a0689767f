-- A selection of another verdict isn't eligible.
use Rattle.dam_blocks.proofs.Ranks.{ranks_self}
use Rattle.dam_blocks.proofs.Verdicts.{verdict_eligible}
use Rattle.dam_blocks.proofs.result.best_after_trying.Goals as goal

pub returns-in_default : goal.returns-in_default
returns-in_default g c = record {
  eligible = c.requires;
  kept = ranks_self _ _;
  tried = λ v e. (let found = verdict_eligible c.args.problem.now c.args.selection c.score.result v c.score.ensures e in
      absurd (c.in_default.not-Eligible found.0 found.1));
}
