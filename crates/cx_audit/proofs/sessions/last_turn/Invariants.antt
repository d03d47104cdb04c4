use Rattle.std.proofs.Common.{◌≡◌, drop, map}
use Rattle.std.specs.Option.{option_copied, option_or}
use Rattle.cx_journal.specs.Sessions.{is_turn_of, last_such}
use Rattle.cx_audit.proofs.sessions.last_turn.Given as goal

abbrev pub invariant-loop-entry : goal.invariant-loop-entry
invariant-loop-entry l = option_or (last_such (is_turn_of l.handled) (map (λ e. e.now) (drop l.entry-index l.entries))) (option_copied l.found) ≡ last_such (is_turn_of l.handled) (map (λ e. e.now) l.entries)
