use Rattle.std.proofs.Common.{◌≡◌, [], map, take, drop}
use Rattle.cx_words.specs.lines.Faults.{first_with}
use Rattle.cx_words.proofs.judge.first_with.Given as goal

abbrev pub invariant-loop-i : goal.invariant-loop-i
invariant-loop-i l = first_with l.known l.why (map (λ w. w.now) (take l.i l.words)) (drop l.i l.places) (map (λ w. w.now) (drop l.i l.words)) ≡ first_with l.known l.why [] l.places (map (λ w. w.now) l.words)
