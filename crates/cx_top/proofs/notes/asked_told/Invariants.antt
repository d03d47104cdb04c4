use Rattle.std.proofs.Common.{◌≡◌, ◌++◌, drop, string_bytes}
use Rattle.std.specs.List.{flat_map}
use Rattle.cx_top.specs.Notes.{asked_at, asked_told}
use Rattle.cx_top.proofs.notes.asked_told.Given as goal

abbrev pub invariant-loop-numbered : goal.invariant-loop-numbered
invariant-loop-numbered l = string_bytes l.told ++ flat_map (asked_at l.lines) (drop l.numbered-index l.lines) ≡ asked_told l.lines
