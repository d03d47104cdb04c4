use Rattle.cx_audit_text.proofs.lines_places.places.Goals as goal
use Rattle.std.proofs.Common.{map}

pub returns-in-Fetched : goal.returns-in-Fetched
returns-in-Fetched c = rw c.in-Fetched.is (c.fetched_places.ensures (map (λ w. w.now) c.args.words.now))
