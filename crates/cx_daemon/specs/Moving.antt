-- The older links of a session that moved to a link are shut.
use Rattle.std.specs.Prelude.{◌≡◌, ℕ, ◌==◌, ◌++◌, not, filter, map, List, Option, Some, None}
use Rattle.std.specs.List.{list_any}
use Rattle.cx_steps.specs.declared.effects.Effects.{Effects}
use Rattle.cx_daemon_events.specs.Kinds.{DaemonLink}
use Rattle.cx_daemon_events.specs.Shutting.{is_shut_by}

-- the numbers of the older ones
abbrev pub older_numbers : ℕ → ℕ → List DaemonLink → List ℕ
older_numbers number session links = map (λ (l : DaemonLink). l.number) (filter (is_shut_by session (Some number)) links)

-- they are shut, which is told before all else that is
abbrev pub IsShutBehind : ℕ → Option ℕ → List DaemonLink → List DaemonLink → Effects → Effects → Type 0
IsShutBehind number None all links first given = (links ≡ all) × (given ≡ first)
IsShutBehind number (Some session) all links first given =
    (links ≡ filter (λ l. not (list_any (λ n. n == l.number) (older_numbers number session all))) all)
    × (given ≡ record first { shuts = older_numbers number session all ++ first.shuts })
