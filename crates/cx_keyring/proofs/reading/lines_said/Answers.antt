use Rattle.std.proofs.Common.{◌≡◌, List, [], ◌++◌, ℕ, refl, sym, ap, ◌∙◌}
use Rattle.std.proofs.lemmas.List.{append-nil}
use Rattle.cx_words.specs.Cutting.{lines_of}
use Rattle.cx_keyring.specs.declared.lines.Line.{Line}
use Rattle.cx_keyring.specs.Lines.{lines_said}
use Rattle.cx_keyring.proofs.reading.lines_said.Goals as goal

no_lines : lines_said [] ≡ []
unfolding lines_of
no_lines = refl

pub returns : goal.returns
returns c =
    sym (append-nil c.lines.lines)
    ∙ ap (λ (more : List Line). c.lines.lines ++ more) (sym no_lines)
    ∙ ap (λ (rest : List ℕ). c.lines.lines ++ lines_said rest) (sym c.in_default.ensures.cut)
    ∙ c.lines.invariant
