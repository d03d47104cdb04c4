-- What the machines stand for where memory is wanting.
use Rattle.std.proofs.Common.{ℕ, ◌≡◌}
use Rattle.cx_client.proofs.Regarding as client_links
pub use Rattle.cx_client.proofs.Standing.{client_loses}
pub use Rattle.cx_mon.proofs.Standing.{monitor_loses}
use Rattle.cx_drive.specs.Held.{regard_client, regard_monitor}
use Rattle.cx_mon.proofs.Regarding as monitor_links
use Rattle.cx_client.specs.cx_rules_session.specs.cx_rules.specs.Abridged.{MonitorStandsFor}
use Rattle.cx_client.specs.cx_rules_session.specs.cx_rules.specs.Monitor.{MonitorNode}
use Rattle.cx_client.specs.cx_rules_session.specs.ClientRule.{WholeClientNode}
use Rattle.cx_client.specs.cx_rules_session.specs.Forgets.{WholeClientStandsFor}

-- and they regard a link alike
pub monitor_regards : (m s : MonitorNode) (link : ℕ) → MonitorStandsFor m s → regard_monitor m link ≡ regard_monitor s link
monitor_regards m s link st = monitor_links.regard_stands m s link st

pub client_regards : (c s : WholeClientNode) (link : ℕ) → WholeClientStandsFor c s → regard_client c link ≡ regard_client s link
client_regards c s link st = client_links.regard_stands c s link st
