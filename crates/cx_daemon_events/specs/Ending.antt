-- What is told of a session that ends, with its link or by a command.
use Rattle.std.specs.Prelude.{ℕ, ◌≡◌, Bool, true, List, [], ◌∷◌, Option, Some, None, filter, is_some, map, if◌then◌else◌}
use Rattle.cx_verifying.specs.cx_authorize.specs.Daemon.{Authority}
use Rattle.cx_journal.specs.declared.entries.Entry.TheVariants as entry
use Rattle.cx_verifying.specs.cx_rules_session.specs.DaemonRule.{Daemon}
use Rattle.cx_session.specs.Book.{Book, ended, with_number}
use Rattle.cx_steps.specs.Nothing.{nothing}
use Rattle.cx_steps.specs.declared.effects.Effects.{Effects}
use Rattle.cx_daemon_events.specs.Kinds.{DaemonLink}
use Rattle.cx_daemon_events.specs.Shutting.{is_shut_by}

-- that it ended is entered where it lived
abbrev pub told_ended : Daemon → ℕ → Bool → Effects
told_ended own session lived =
    if lived then record nothing { entries = entry.Ended (record { daemon = own.mon_client.name; session = session }) ∷ [] } else nothing

-- and its links are shut
abbrev pub told_dropped : Daemon → ℕ → List DaemonLink → Bool → Effects
told_dropped own session links lived =
    if lived then record (told_ended own session true) { shuts = map (λ link. link.number) (filter (is_shut_by session None) links) } else nothing

-- what is told of an incoming link that is gone, by the session that ends with it, if one does; and the book behind that
abbrev pub IsIncomingGone : Daemon → Option ℕ → Book Authority → Book Authority → Effects → Type 0
IsIncomingGone own None old new given = (given ≡ nothing) × (new ≡ old)
IsIncomingGone own (Some session) old new given = (given ≡ told_ended own session (is_some (with_number session old.live))) × (new ≡ ended old session)
