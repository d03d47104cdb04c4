-- An operation that was sealed ahead on a link, and the link behind it.
use Rattle.std.proofs.Common.{◌≡◌, ℕ, Option, Some, None, Result, Ok, Err, refl}
use Rattle.std.specs.Prelude.{IfSome}
use Rattle.cx_base.specs.declared.nodes.NodeName.TheVariants as node
use Rattle.cx_base.specs.declared.operations.Operation.{Operation}
use Rattle.cx_journal.specs.declared.faults.BytesFault.{BytesFault}
use Rattle.cx_link.specs.Wires.{SecureWire}
use Rattle.cx_link.specs.declared.links.AheadFrame.{AheadFrame}
use Rattle.cx_node.specs.cx_rules.specs.Holdings.{MonClient}
use Rattle.cx_node.specs.cx_rules.specs.Secured.{secure_frame}
use Rattle.cx_node.specs.cx_rules.specs.cx_secure.specs.declared.sealing.SealedAhead.{SealedAhead}
use Rattle.cx_node.specs.declared.moments.Moment.{Moment}
use Rattle.cx_node.specs.steps.Sending.{SealsSecure}
use Rattle.cx_client_session.specs.cx_rules_session.specs.Sessions.{Callee, operation_message}
use Rattle.cx_client_session.specs.cx_client_connect.specs.declared.links.Stage.{Stage}
use Rattle.cx_client_session.specs.cx_client_connect.specs.declared.links.Stage.TheVariants as held
use Rattle.cx_client_session.specs.cx_client_connect.specs.presenting.Stages.{link_held, open_link}
use Rattle.cx_client_session.specs.operations.Frames.{IsAheadAt, IsAheadOn, IsSent, behind_sent, held_behind, sealed_row}

pub ahead_held : (number : ℕ) (stage : Stage) (a : SealedAhead) → IsAheadOn (link_held number stage) a → IsAheadAt stage a
ahead_held number (held.AwaitsBanner wire called) a h = h
ahead_held number (held.AwaitsHello wire called) a h = h
ahead_held number (held.AwaitsChallenge wire callee presented) a h = h
ahead_held number (held.AwaitsDone wire callee answered) a h = h
ahead_held number (held.AwaitsSignature signing callee) a h = h
ahead_held number (held.AwaitsIdent link callee cookie) a h = h
ahead_held number (held.AwaitsReconnect link callee cookie) a h = h
ahead_held number (held.Open link callee cookie) a h = h

pub sent_held : (number : ℕ) (stage : Stage) (a : SealedAhead) → link_held number (held_behind stage a) ≡ behind_sent (link_held number stage) a
sent_held number (held.AwaitsBanner wire called) a = refl
sent_held number (held.AwaitsHello wire called) a = refl
sent_held number (held.AwaitsChallenge wire callee presented) a = refl
sent_held number (held.AwaitsDone wire callee answered) a = refl
sent_held number (held.AwaitsSignature signing callee) a = refl
sent_held number (held.AwaitsIdent link callee cookie) a = refl
sent_held number (held.AwaitsReconnect link callee cookie) a = refl
sent_held number (held.Open link callee cookie) a = refl

-- the row of an operation that was sealed, or couldn't be
pub sealed_is : (mon_client : MonClient) (at : Moment) (link : SecureWire) (callee : Callee) (cookie : ℕ) (ask : ℕ × Operation) (made : Result AheadFrame BytesFault)
    → SealsSecure link (secure_frame link.keys (operation_message ask)) made
    → IsSent mon_client at (open_link at.number link callee cookie) ask (sealed_row (node.Entity mon_client.name) at.number made)
sealed_is mon_client at link callee cookie ask (Ok sealed) (e, from) = ((λ session. rw e (record { row = refl; number_is = refl })), from)
sealed_is mon_client at link callee cookie ask (Err why) e = ((λ session. rw e (record { row = refl; number_is = tt })), tt)
