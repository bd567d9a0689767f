-- The field goes on from the parts that were joined.
use Rattle.std.proofs.Common.{length}
use Rattle.csv.specs.declared.parser.State.TheVariants as st
use Rattle.dam_results.specs.inside.Reader.{Continues}
use Rattle.dam_results.proofs.csv_records.read_joined.Given as goal

abbrev pub invariant-loop-doubled : goal.invariant-loop-doubled
invariant-loop-doubled l = Continues st.AfterQuote l.first l.text st.AfterQuote l.field.items l.rest

abbrev pub decreases-loop-doubled : goal.decreases-loop-doubled
decreases-loop-doubled l = length l.rest
