-- What is sent behind the entry that a cookie was drawn.
use Rattle.std.proofs.Common.{◌≡◌, List, [], ◌∷◌, Result, Ok, Err, refl}
use Rattle.cx_frame.specs.declared.frame.Frame.{Frame}
use Rattle.cx_journal.specs.declared.faults.BytesFault.{BytesFault}
use Rattle.cx_node.specs.cx_rules.specs.Abridged.{abridged_link}
use Rattle.cx_node.specs.cx_rules.specs.Rows.{secure_sent, sends_secure, with_opened}
use Rattle.cx_node.specs.cx_rules.specs.Secured.{SealedFrame, Secured, secure_frame}
use Rattle.cx_daemon_session.specs.cx_rules_session.specs.IncomingLinks.{IncomingArrival, IncomingStage}
use Rattle.cx_steps.specs.declared.seals.SealEntry.{SealEntry}
use Rattle.cx_node.proofs.steps.MadeRows.{behind_as}
use Rattle.cx_node.specs.steps.Making.{IsRowOf}
use Rattle.cx_node.specs.declared.steps_rows.NoRow.{NoRow}
use Rattle.cx_node.specs.declared.steps_rows.NodeRow.{NodeRow}
use Rattle.cx_daemon_session.specs.cx_verifying.specs.Rows.{MakesRow, unchanged}
use Rattle.cx_daemon_session.specs.cx_verifying.specs.Stages.{IncomingLink}

sent_behind : (a : IncomingArrival) (s : Secured) (stage : Secured → IncomingStage) (drawn : SealEntry) (made : Result SealedFrame BytesFault)
    → with_opened (drawn ∷ []) (secure_sent a s stage [] made) ≡ secure_sent a s stage (drawn ∷ []) made
sent_behind a s stage drawn (Ok sealed) = refl
sent_behind a s stage drawn (Err why) = refl

pub behind_drawn : (a : IncomingArrival) (s : Secured) (stage : Secured → IncomingStage) (drawn : SealEntry) (f : Frame)
    (made : Result (NodeRow IncomingLink (Unit {0})) NoRow) (row : NodeRow IncomingLink (Unit {0})) → MakesRow a (sends_secure a s stage [] f) made
    → IsRowOf a.me a.link.number (drawn ∷ []) made row
    → MakesRow a (sends_secure a s stage (drawn ∷ []) f) (let behind : Result (NodeRow IncomingLink (Unit {0})) NoRow = Ok row in behind)
behind_drawn a s stage drawn f made row m is =
    behind_as abridged_link unchanged a (drawn ∷ []) (sends_secure a s stage [] f) (sends_secure a s stage (drawn ∷ []) f) made row
    (sent_behind a s stage drawn (secure_frame s.keys f)) m is
