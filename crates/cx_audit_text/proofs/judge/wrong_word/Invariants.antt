use Rattle.std.proofs.Common.{◌≡◌, ◌+◌, map, drop}
use Rattle.cx_audit_text.specs.words.Wrong.{wrong_from}
use Rattle.cx_audit_text.proofs.judge.wrong_word.Given as goal

abbrev pub invariant-loop-i : goal.invariant-loop-i
invariant-loop-i l = wrong_from l.counted (l.number + l.i) (drop l.i l.places) (map (λ w. w.now) (drop l.i l.words)) ≡ wrong_from l.counted l.number l.places (map (λ w. w.now) l.words)
