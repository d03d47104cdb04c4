use Rattle.std.proofs.Common.{List, ℕ, Bor, sym, ◌∙◌, arith}
use Rattle.cx_audit_text.proofs.words.Steps.{extra_here}
use Rattle.cx_audit_text.proofs.judge.wrong_word.Goals as goal

pub returns-then-shared-words : goal.returns-then-shared-words
returns-then-shared-words c =
    sym (extra_here (λ (w : Bor (List ℕ)). w.now) c.args.counted c.args.number c.loop-i.i c.min-shared.result c.args.places.now c.args.words.now (omega arith) (omega arith) (omega arith))
    ∙ c.loop-i.invariant
