-- A link that opens at an acceptor.
use Rattle.std.specs.Prelude.{Bool, [], if◌then◌else◌}
use Rattle.cx_journal.specs.declared.outcomes.Reason.TheVariants.{LinksFull}
use Rattle.cx_node.specs.cx_rules.specs.Acceptor.{Stage, AwaitsBanner}
use Rattle.cx_node.specs.cx_rules.specs.Greetings.{own_banner}
use Rattle.cx_node.specs.cx_rules.specs.Rows.{Arrival, Row, goes_on, refuses}

-- the banner is sent on it, unless the places are full
abbrev pub opening : {Own Pending Proven Peer : Type 0} → Bool → Arrival Own (Stage Pending Proven Peer) → Row Own (Stage Pending Proven Peer)
opening full a = if full then refuses a LinksFull [] else goes_on a AwaitsBanner own_banner []
