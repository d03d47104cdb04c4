use Rattle.std.proofs.Common.{◌∙◌, Bor, List, ℕ}
use Rattle.std.specs.Str.{bytes_eq}
use Rattle.cx_words.proofs.lines.Walks.{any_seen}
use Rattle.cx_words.proofs.values.stands.Goals as goal

pub returns : goal.returns
returns c = c.any_is.ensures ∙ any_seen (λ (w : Bor (List ℕ)). w.now) (bytes_eq c.args.word.now) c.args.before.now
