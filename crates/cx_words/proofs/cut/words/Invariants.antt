use Rattle.std.proofs.Common.{◌≡◌, ◌≤◌, ◌-◌, ◌++◌, map, take, drop}
use Rattle.cx_words.specs.Cutting.{words_from, words_of}
use Rattle.cx_words.proofs.Pieces.{onto_all}
use Rattle.cx_words.proofs.cut.words.Given as goal

abbrev pub invariant-loop-i : goal.invariant-loop-i
invariant-loop-i l = record {
  start : l.start ≤ l.i;
  cut : map (λ word. word.now) l.found.items
      ++ onto_all (take (l.i - l.start) (drop l.start l.line)) (words_from l.groups l.quoted (drop l.i l.line))
      ≡ words_of l.groups l.line;
}
