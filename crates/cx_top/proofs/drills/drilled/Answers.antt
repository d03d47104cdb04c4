-- What is written of a drill is of the run of its schedule.
use Rattle.std.proofs.Common.{◌≡◌, ◌∙◌, ◌++◌, ℕ, List, ap, subst}
use Rattle.cx_desk.specs.Held.{handlers_of}
use Rattle.cx_lines.specs.declared.lines.Numbered.{Numbered}
use Rattle.cx_world.specs.declared.idle.IdleLine.{IdleLine}
use Rattle.cx_world.specs.replayed.Serving.{IsReplayOf, idle_lines}
use Rattle.cx_schedule.specs.Drills.{drill_text}
use Rattle.cx_top.specs.summary.Summaries.{summary_text}
use Rattle.cx_top.specs.declared.summaries.Summary.{Summary}
use Rattle.cx_top.specs.Drills.{breach_line}
use Rattle.cx_top.specs.Told.{run_told}
use Rattle.cx_top.proofs.drills.drilled.Goals as goal

pub replay-requires : goal.replay-requires
replay-requires g c = (drill_text c.args.clients c.args.seed, c.in_ok-script.ensures.short, c.in_ok-script.ensures.found)

pub returns : goal.returns
returns g c = record {
  journal = c.in_ok-report.report.journal;
  found = c.in_ok-report.report.broken;
  replayed =
      subst (λ (s : List Numbered). IsReplayOf (handlers_of c.args.desk.now) s c.in_ok-report.report.journal c.in_ok-report.report.broken) c.in_ok-script.ensures.is
      c.in_ok-report.ensures.replayed;
  tells = c.is_some-is_broken.ensures;
  written = c.in_ok-text.ensures ∙ ap (λ (s : Summary). summary_text s ++ breach_line c.in_ok-report.report.broken) c.summary_of.ensures;
  besides =
      (rw c.all.ensures at c.in_ok-told.ensures)
      ∙ ap (λ (lines : List IdleLine). run_told c.in_ok-report.report.broken lines)
      (c.in_ok-report.ensures.idle ∙ ap (λ (s : List Numbered). idle_lines (handlers_of c.args.desk.now) s) c.in_ok-script.ensures.is);
}
