use Rattle.std.proofs.Common.{◌≡◌, ◌∙◌, ℕ, List, ap, string_bytes}
use Rattle.cx_help.specs.line.Sights.{sight_of}
use Rattle.cx_top.proofs.Besides.{bad_line_told}
use Rattle.cx_top.proofs.told.bad_line.Goals as goal

pub returns : goal.returns
returns c =
    bad_line_told c.args.bytes.now c.args.line c.args.bad.now c.in_ok-sight.sight (string_bytes c.in_ok-told.told) c.in_ok-told.ensures
    (c.in_ok-sight.ensures ∙ ap (λ (text : List ℕ). sight_of text c.args.bad.now) c.line_at.ensures)
