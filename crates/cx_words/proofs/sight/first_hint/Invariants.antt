use Rattle.std.proofs.Common.{◌≡◌, drop, map}
use Rattle.cx_words.specs.lines.Sights.{first_hint}
use Rattle.cx_words.proofs.sight.first_hint.Given as goal

abbrev pub invariant-loop-word : goal.invariant-loop-word
invariant-loop-word l = first_hint (map (λ w. w.now) (drop l.word-index l.words)) ≡ first_hint (map (λ w. w.now) l.words)
