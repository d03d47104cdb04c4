-- The events of every schedule are such as may happen.
use Rattle.std.proofs.Common.{ℕ, List, []}
use Rattle.std.specs.Prelude.{refl}
use Rattle.cx_desk.specs.Handlers.{Handlers}
use Rattle.cx_schedule.specs.cx_lines.specs.declared.lines.Numbered.{Numbered}
use Rattle.cx_laws_links.specs.cx_laws_tickets.specs.cx_run.specs.Opening.{opening_world}
use Rattle.cx_laws_links.specs.cx_laws_tickets.specs.cx_run.specs.Runs.{setup_of, trace}
use Rattle.cx_laws_links.specs.cx_laws_tickets.specs.cx_run.proofs.Untold.{untold}
use Rattle.cx_schedule.proofs.Whole.{all_in_range}
use Rattle.cx_schedule.specs.Files.{Lines}
use Rattle.cx_words.specs.Cutting.{lines_of}
use Rattle.cx_laws_run.proofs.run.Beginning.{schedule-begins}
use Rattle.cx_laws_run.proofs.run.Clocks.{trace-low}
use Rattle.cx_laws_run.proofs.run.Draws.{drawn-after_lines}
use Rattle.cx_laws_run.specs.run.Laws.{MayHappen}

pub may-happen : (handlers : Handlers) (bytes : List ℕ) (script : List Numbered) → Lines bytes script → MayHappen (setup_of handlers script) (trace handlers script)
may-happen handlers bytes script said =
    let drawn = drawn-after_lines (opening_world (setup_of handlers script)) script (record { all = tt; bytes = tt }) in
    record {
      begins = schedule-begins handlers bytes script said;
      drawn = drawn.all;
      bytes = drawn.bytes;
      readings = trace-low handlers script (all_in_range 1 [] script (lines_of bytes) said refl);
      looks = untold handlers script;
    }
