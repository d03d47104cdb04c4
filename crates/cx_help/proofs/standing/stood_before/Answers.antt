use Rattle.std.proofs.Common.{◌≡◌, ℕ, List}
use Rattle.cx_help.proofs.line.Ends.{no_lines_left}
use Rattle.cx_words.specs.Cutting.{lines_of}
use Rattle.cx_help.specs.keyring.Standing.{stood_from}
use Rattle.cx_help.proofs.standing.stood_before.Goals as goal

pub returns : goal.returns
returns c =
    no_lines_left (λ (lines : List (List ℕ)). stood_from c.args.label.now c.args.stop c.lines.number c.lines.found lines ≡ stood_from c.args.label.now c.args.stop 1 0 (lines_of c.args.bytes.now))
    c.lines.rest.now c.in_default.ensures.cut c.lines.invariant.found
