-- A turn that is done, with the session that moved to its link.
use Rattle.std.proofs.Common.{◌≡◌, ℕ, List, Option, Some, None, ap}
use Rattle.cx_node.specs.cx_rules.specs.Holdings.{MonClient}
use Rattle.cx_node.specs.cx_rules.specs.Rows.{Handles}
use Rattle.cx_daemon_session.specs.cx_rules_session.specs.Asks.{Finished, Asking}
use Rattle.cx_daemon_session.specs.cx_rules_session.specs.IncomingLinks.{IncomingRow}
use Rattle.cx_daemon_session.specs.cx_rules_session.specs.Hosting.{Deciding, Hosted, comes_to}
use Rattle.cx_steps.specs.declared.seals.SealEntry.{SealEntry}
use Rattle.cx_node.specs.declared.came.Came.{Came}
use Rattle.cx_daemon_session.specs.cx_verifying.specs.Stages.{IncomingLink}
use Rattle.cx_daemon_session.specs.coming.Hosted.{done_as, due_behind}

abbrev moving : ℕ → Deciding Hosted → Deciding Hosted
moving number (Finished hosted) = Finished (record hosted { moved = Some number })
moving number (Asking call next) = Asking call next

-- a row by which a session moves
abbrev pub moves_by : IncomingRow → ℕ → Deciding Hosted
moves_by row number = Finished (record { turned = Handles row; moved = Some number })

pub moved_made : (mon_client : MonClient) (opened : List SealEntry) (row : IncomingRow) (number : ℕ) (came : Came IncomingLink (Unit {0}))
    → done_as mon_client came None ≡ due_behind opened (comes_to row) → done_as mon_client came (Some number) ≡ due_behind opened (moves_by row number)
moved_made mon_client opened row number came made = ap (moving number) made
