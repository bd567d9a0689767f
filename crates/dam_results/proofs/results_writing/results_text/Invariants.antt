-- The text so far is the day's and the welfare's lines, and the lines of the periods and of the rows before this one.
use Rattle.std.proofs.Common.{◌≡◌, ◌++◌, take, length}
use Rattle.std.specs.List.{flat_map}
use Rattle.dam_results.specs.Replies.{day_line}
use Rattle.dam_results.specs.Published.{welfare_line, period_lines, row_result_line}
use Rattle.dam_results.proofs.results_writing.results_text.Given as goal

abbrev pub invariant-loop-place : goal.invariant-loop-place
invariant-loop-place g l = l.text.items ≡ day_line (length l.results.periods.items) ++
    (welfare_line l.results.welfare ++ period_lines 1 (take l.place l.results.periods.items))

abbrev pub invariant-loop-row : goal.invariant-loop-row
invariant-loop-row g l =
    l.text.items ≡ day_line (length l.results.periods.items)
    ++ (welfare_line l.results.welfare ++
    (period_lines 1 l.results.periods.items ++ flat_map row_result_line (take l.row-index l.results.rows.items)))
