use Rattle.std.proofs.Common.{map, string_bytes, sym, ◌∙◌}
use Rattle.cx_commands.proofs.WrongWords.{wrong_said}
use Rattle.cx_commands.proofs.misread.misread_told.Goals as goal

pub returns-in-Some : goal.returns-in-Some
returns-in-Some c =
    wrong_said (λ t. string_bytes t) (map (λ w. w.now) c.args.words.now) c.in-Some.wrong c.word_of-word.result.now c.wrong_told.result
    (sym c.wrong_of.ensures ∙ c.in-Some.is) c.word_of-word.ensures c.wrong_told.ensures
