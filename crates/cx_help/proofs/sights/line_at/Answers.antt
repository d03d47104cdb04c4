use Rattle.std.proofs.Common.{◌≡◌, ℕ, List}
use Rattle.cx_help.specs.line.Sights.{line_at}
use Rattle.cx_words.specs.Cutting.{lines_of}
use Rattle.cx_help.proofs.line.Ends.{no_lines_left}
use Rattle.cx_help.proofs.sights.line_at.Goals as goal

pub returns : goal.returns
returns c =
    no_lines_left (λ (lines : List (List ℕ)). line_at lines c.lines.left ≡ line_at (lines_of c.args.bytes.now) c.args.number) c.lines.rest.now c.in_default.ensures.cut c.lines.invariant
