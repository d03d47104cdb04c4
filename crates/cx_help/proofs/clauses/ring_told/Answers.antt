use Rattle.std.proofs.Common.{◌≡◌, List, ℕ, [], ◌++◌, string_bytes, sym, ◌∙◌, append-nil}
use Rattle.cx_help.proofs.line.Ends.{no_lines_left}
use Rattle.cx_words.specs.Cutting.{lines_of}
use Rattle.cx_help.specs.keyring.Clauses.{lines_told}
use Rattle.cx_help.proofs.clauses.ring_told.Goals as goal

pub returns : goal.returns
unfolding lines_told
returns c =
    sym (append-nil (string_bytes c.lines.told))
    ∙ no_lines_left (λ (lines : List (List ℕ)). string_bytes c.lines.told ++ lines_told c.args.all c.lines.section.now lines ≡ lines_told c.args.all [] (lines_of c.args.bytes.now))
    c.lines.rest.now c.in_default.ensures.cut c.lines.invariant
