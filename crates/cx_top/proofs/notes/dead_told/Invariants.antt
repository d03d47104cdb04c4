use Rattle.std.proofs.Common.{◌≡◌, ◌++◌, drop, string_bytes}
use Rattle.cx_top.specs.Notes.{dead_told}
use Rattle.cx_top.proofs.notes.dead_told.Given as goal

abbrev pub invariant-loop-numbered : goal.invariant-loop-numbered
invariant-loop-numbered l = string_bytes l.told ++ dead_told (drop l.numbered-index l.lines) ≡ dead_told l.lines
