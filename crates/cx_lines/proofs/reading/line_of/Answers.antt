use Rattle.std.proofs.Common.{map}
use Rattle.cx_lines.proofs.Laws.{caused}
use Rattle.cx_lines.proofs.reading.line_of.Goals as goal

pub returns-in_ok-bad-in-Faulty-clause-err : goal.returns-in_ok-bad-in-Faulty-clause-err
returns-in_ok-bad-in-Faulty-clause-err c =
    let found = rw c.in-Faulty.is at c.in_ok-line.ensures in
    caused c.args.known.now (map (λ w. w.now) c.args.words.now) c.in-Faulty.fault c.in_ok-bad-in-Faulty.bad found c.in_ok-bad-in-Faulty.ensures
