use Rattle.std.proofs.Common.{◌≡◌, ℕ, List}
use Rattle.cx_help.proofs.line.Ends.{no_lines_left}
use Rattle.cx_words.specs.Cutting.{lines_of}
use Rattle.cx_help.specs.keyring.Standing.{key_like_from}
use Rattle.cx_help.proofs.standing.key_like_behind.Goals as goal

pub returns : goal.returns
returns c =
    no_lines_left (λ (lines : List (List ℕ)). key_like_from c.args.at c.lines.number lines ≡ key_like_from c.args.at 1 (lines_of c.args.bytes.now))
    c.lines.rest.now c.in_default.ensures.cut c.lines.invariant.found
