-- A request that was sealed ahead on a daemon's own link to the monitor.
use Rattle.std.specs.Prelude.{ℕ, ◌≡◌, List, Some}
use Rattle.std.specs.Option.{option_map}
use Rattle.cx_monclient.specs.connector.Stages.{IsAheadIn, stage_behind}
use Rattle.cx_monclient.specs.declared.links.OpenAhead.{OpenAhead}
use Rattle.cx_node.specs.Tables.{with_number}
use Rattle.cx_node.specs.declared.rows.Row.{Row as Made}
use Rattle.cx_verifying.specs.cx_rules_session.specs.DaemonRule.{DaemonStage, AsAcceptor, AsConnector}
use Rattle.cx_daemon_events.specs.Kinds.{DaemonLink}

-- it was so on this link
abbrev pub IsAheadAt : DaemonStage → OpenAhead → Type 0
IsAheadAt (AsConnector stage) a = IsAheadIn stage a
IsAheadAt (AsAcceptor stage) a = ⊥

-- the link behind it
abbrev pub stage_ahead : DaemonStage → OpenAhead → DaemonStage
stage_ahead (AsConnector stage) a = AsConnector (stage_behind stage a)
stage_ahead (AsAcceptor stage) a = AsAcceptor stage

abbrev pub link_ahead : DaemonLink → OpenAhead → DaemonLink
link_ahead link a = record link { stage = stage_ahead link.stage a }

-- it was so on the link of this number among these
pub record IsStanding (number : ℕ) (links : List DaemonLink) (a : OpenAhead) : Type 0 where
  pub link : DaemonLink
  pub found : with_number (λ (l : DaemonLink). l.number) number links ≡ Some link
  pub ahead : IsAheadAt link.stage a

-- a row by what its link goes on by, as the one of that link
abbrev pub row_on : DaemonLink → Made OpenAhead → Made DaemonLink
row_on link row = record { link = option_map (link_ahead link) row.link; sends = row.sends; save = row.save; entries = row.entries; seals = row.seals }
