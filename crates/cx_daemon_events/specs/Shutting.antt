-- The links of a session that are shut.
use Rattle.std.specs.Prelude.{ℕ, Bool, Option, Some, None}
use Rattle.cx_verifying.specs.cx_rules_session.specs.DaemonRule.{is_in, is_older}
use Rattle.cx_daemon_events.specs.Kinds.{DaemonLink}

-- whether a link is shut with a session, all but the link of a number
abbrev pub is_shut_by : ℕ → Option ℕ → DaemonLink → Bool
is_shut_by session None link = is_in session link.stage
is_shut_by session (Some number) link = is_older number session link
