use Rattle.std.proofs.Common.{◌∙◌, sym, map}
use Rattle.cx_lines.proofs.Faulty.{found_here, not_again, not_late, unfound_here}
use Rattle.cx_lines.proofs.reading.good_line.Goals as goal

pub returns-then-is_spent-clause-none : goal.returns-then-is_spent-clause-none
returns-then-is_spent-clause-none c = not_again c.args.known.now c.args.head (map (λ w. w.now) c.args.words.now) (sym c.is_spent.ensures ∙ c.if-is_spent.true)

pub returns-then-is_late-clause-none : goal.returns-then-is_late-clause-none
returns-then-is_late-clause-none c = not_late c.args.known.now c.args.head (map (λ w. w.now) c.args.words.now) (sym c.is_late.ensures ∙ c.if-is_late.true)

pub returns-clause-some : goal.returns-clause-some
returns-clause-some c = found_here c.args.known.now c.args.head (map (λ w. w.now) c.args.words.now) c.line_behind.result (sym c.is_spent.ensures ∙ c.if-is_spent.false) (sym c.is_late.ensures ∙ c.if-is_late.false) c.line_behind.ensures

pub returns-clause-none : goal.returns-clause-none
returns-clause-none c = unfound_here c.args.known.now c.args.head (map (λ w. w.now) c.args.words.now) c.line_behind.result c.line_behind.ensures
