use Rattle.std.proofs.Common.{◌≡◌, drop, map}
use Rattle.std.specs.Option.{option_copied, option_or}
use Rattle.cx_journal.specs.KeepsKeys.{is_look}
use Rattle.cx_journal.specs.Sessions.{last_such}
use Rattle.cx_audit.proofs.tickets.last_look.Given as goal

abbrev pub invariant-loop-entry : goal.invariant-loop-entry
invariant-loop-entry l = option_or (last_such (is_look l.daemon l.link) (map (λ e. e.now) (drop l.entry-index l.entries))) (option_copied l.found) ≡ last_such (is_look l.daemon l.link) (map (λ e. e.now) l.entries)
