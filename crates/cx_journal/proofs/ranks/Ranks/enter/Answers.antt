-- The cookies of the entries grow by that of the entry.
use Rattle.std.proofs.Common.{sym, ◌∙◌}
use Rattle.std.specs.List.{filter_map}
use Rattle.cx_journal.specs.Places.{cookie_of}
use Rattle.cx_journal.proofs.CountsLemmas.{filter_map_push, filter_map_same}
use Rattle.cx_journal.proofs.ranks.Ranks.enter.Goals as goal

pub returns-in-None : goal.returns-in-None
returns-in-None c = λ earlier h. rw (filter_map_same cookie_of earlier c.args.entry.now (sym c.cookie_of.ensures ∙ c.in-None.is)) h

pub returns-in-Some : goal.returns-in-Some
returns-in-Some c = λ earlier h. rw (filter_map_push cookie_of earlier c.args.entry.now c.in-Some.cookie (sym c.cookie_of.ensures ∙ c.in-Some.is)) (c.add.ensures (filter_map cookie_of earlier) h)
