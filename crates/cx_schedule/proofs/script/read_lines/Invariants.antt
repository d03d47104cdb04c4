use Rattle.std.proofs.Common.{◌≡◌, length}
use Rattle.cx_words.specs.Cutting.{lines_of}
use Rattle.cx_lines.specs.Knowing.{known_of}
use Rattle.cx_schedule.specs.Files.{SpellsBehind, bad_behind, numbered}
use Rattle.cx_schedule.proofs.Grammars.{Reads}
use Rattle.cx_schedule.proofs.Whole.{schedules}
use Rattle.cx_schedule.proofs.script.read_lines.Given as goal

abbrev pub invariant-lines : goal.invariant-lines
invariant-lines l = record {
  reads : Reads SpellsBehind numbered bad_behind schedules (lines_of l.fn.bytes) l.script l.number (lines_of l.rest);
  known : l.known ≡ known_of l.script;
}

abbrev pub decreases-lines : goal.decreases-lines
decreases-lines l = length l.rest
