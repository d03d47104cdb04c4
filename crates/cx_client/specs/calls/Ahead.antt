-- An operation that was sealed ahead on a client's link to a daemon.
use Rattle.std.specs.Prelude.{ℕ, ◌≡◌, List, Some}
use Rattle.std.specs.Option.{option_map}
use Rattle.cx_client_session.specs.operations.Frames.{IsAheadIn, stage_behind}
use Rattle.cx_client_session.specs.cx_rules_session.specs.ClientRule.{ClientStage, ToDaemon, ToMonitor}
use Rattle.cx_node.specs.Tables.{with_number}
use Rattle.cx_node.specs.cx_rules.specs.cx_secure.specs.declared.sealing.SealedAhead.{SealedAhead}
use Rattle.cx_node.specs.declared.rows.Row.{Row as Made}
use Rattle.cx_client_events.specs.linking.Kinds.{ClientLink}

-- it was so on this link
abbrev pub IsAheadAt : ClientStage → SealedAhead → Type 0
IsAheadAt (ToDaemon stage) a = IsAheadIn stage a
IsAheadAt (ToMonitor stage) a = ⊥

-- the link behind it
abbrev pub stage_ahead : ClientStage → SealedAhead → ClientStage
stage_ahead (ToDaemon stage) a = ToDaemon (stage_behind stage a)
stage_ahead (ToMonitor stage) a = ToMonitor stage

abbrev pub link_ahead : ClientLink → SealedAhead → ClientLink
link_ahead link a = record link { stage = stage_ahead link.stage a }

-- it was so on the link of this number among these
pub record IsStanding (number : ℕ) (links : List ClientLink) (a : SealedAhead) : Type 0 where
  pub link : ClientLink
  pub found : with_number (λ (l : ClientLink). l.number) number links ≡ Some link
  pub ahead : IsAheadAt link.stage a

-- a row by what its link goes on by, as the one of that link
abbrev pub row_on : ClientLink → Made SealedAhead → Made ClientLink
row_on link row = record { link = option_map (link_ahead link) row.link; sends = row.sends; save = row.save; entries = row.entries; seals = row.seals }
