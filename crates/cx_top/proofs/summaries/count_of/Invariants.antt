use Rattle.std.proofs.Common.{◌≡◌, ◌≤◌, take, count_by}
use Rattle.cx_top.specs.summary.Summaries.{is_of}
use Rattle.cx_top.proofs.summaries.count_of.Given as goal

abbrev pub invariant-loop-entry : goal.invariant-loop-entry
invariant-loop-entry l = (l.count ≡ count_by (is_of l.kind) (take l.entry-index l.entries)) × (l.count ≤ l.entry-index)
