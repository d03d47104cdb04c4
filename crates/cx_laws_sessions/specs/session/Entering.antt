-- Who enters what: each entry of a session, an operation or an answer is made by the node that it names.
use Rattle.std.specs.Prelude.{◌≡◌, List}
use Rattle.std.specs.List.{AllByRecursion}
use Rattle.cx_base.specs.declared.nodes.NodeName.{NodeName}
use Rattle.cx_base.specs.declared.nodes.NodeName.TheVariants as node
use Rattle.cx_journal.specs.declared.entries.Entry.{Entry}
use Rattle.cx_journal.specs.declared.entries.Entry.TheVariants as entry
use Rattle.cx_run.specs.Points.{Point, entries_at}

-- this node makes the entry of itself: sessions are admitted, resumed and ended, and operations handled, by the daemon of which that is said; operations are
-- sent, and answers entered, by the client that sent them; and a node says of itself that it began anew
abbrev pub IsOwnEntry : NodeName → Entry → Type 0
IsOwnEntry who (entry.Admitted a) = who ≡ node.Entity a.daemon
IsOwnEntry who (entry.Resumed a) = who ≡ node.Entity a.daemon
IsOwnEntry who (entry.Ended e) = who ≡ node.Entity e.daemon
IsOwnEntry who (entry.Handled h) = who ≡ node.Entity h.daemon
IsOwnEntry who (entry.Sent s) = who ≡ node.Entity s.client
IsOwnEntry who (entry.Answered a) = who ≡ node.Entity a.client
IsOwnEntry who (entry.Restarted at) = who ≡ at
IsOwnEntry who _ = Unit {0}

-- so is each entry of this event made by the node whose event it is
abbrev pub EntersOwn : List Point → Point → Type 0
EntersOwn older p = AllByRecursion (IsOwnEntry p.happening.node) (entries_at p)
