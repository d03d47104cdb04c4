use Rattle.std.proofs.Common.{take}
use Rattle.std.specs.Fmt.{HasWritten, IsPlainFormatter}
use Rattle.cx_help.specs.line.Words.{bytes_text}
use Rattle.cx_help.proofs.words.BytesDisplay.fmt.Given as goal

-- what was written so far
abbrev pub invariant-loop-byte : goal.invariant-loop-byte
invariant-loop-byte g l =
    IsPlainFormatter l.initial.f → HasWritten g.W.Write.write_str_gives l.initial.f (bytes_text (take l.byte-index l.bytes)) l.f
