-- Rows that are logged behind what was drawn or opened.
use Rattle.std.proofs.Common.{◌≡◌, ℕ, List, [], ◌∷◌, Option, Some, None, Result, Ok, ap, append-nil}
use Rattle.std.specs.Prelude.{take}
use Rattle.cx_node.specs.cx_dice.specs.Draws.{challenge_of}
use Rattle.cx_journal.specs.declared.faults.BytesFault.{BytesFault}
use Rattle.cx_journal.specs.declared.faults.LoginFault.TheVariants.{Unopened}
use Rattle.cx_journal.specs.declared.outcomes.Reason.TheVariants.{Login as OfLogin}
use Rattle.cx_login.specs.Unlocking.{login_in}
use Rattle.cx_login.specs.declared.client.LoggedIn.{LoggedIn}
use Rattle.cx_node.specs.cx_rules.specs.Connector.{MonClientArrival, AwaitsDone, AwaitsSignature, Login, on_login_done, on_opened, proof_made, proves, signs}
use Rattle.cx_node.specs.cx_rules.specs.Rows.{goes_on, refuses, with_opened}
use Rattle.cx_node.specs.cx_rules.specs.Secured.{SealedFrame, connector_keys, signed_frame}
use Rattle.cx_steps.specs.declared.seals.DrawMark.TheVariants as draw
use Rattle.cx_steps.specs.declared.seals.SealEntry.{SealEntry}
use Rattle.cx_steps.specs.declared.seals.SealEntry.TheVariants as entry
use Rattle.cx_node.proofs.steps.MadeRows.{unless_behind}
use Rattle.cx_login.specs.cx_wire.specs.declared.logins.LoginDone.{LoginDone}
use Rattle.cx_monclient.specs.connector.Rows.{proof_sent}

-- the proof is sent behind one's own challenge
pub proved_behind : (a : MonClientArrival) (server : ℕ) (made : Result (List ℕ) BytesFault)
    → with_opened (entry.Drawn (draw.Challenge (challenge_of a.draw)) ∷ []) (proof_sent a server made) ≡ proves a server made
proved_behind a server made =
    unless_behind a (entry.Drawn (draw.Challenge (challenge_of a.draw)) ∷ []) made
    (λ (bytes : List ℕ). goes_on a AwaitsDone bytes (proof_made a.own.secret server (challenge_of a.draw) ∷ []))

-- AUTH_SIGNATURE is sent behind what opened
signed_behind : (a : MonClientArrival) (login : Login) (opened : List SealEntry) (made : Result SealedFrame BytesFault)
    → with_opened opened (signs a login [] made) ≡ signs a login opened made
signed_behind a login opened made =
    unless_behind a opened made (λ (sealed : SealedFrame).
    goes_on a (AwaitsSignature (record { keys = sealed.keys; session = login.opened.auth.session; covered = a.link.sent }) login) sealed.bytes sealed.seals)

pub opened_behind : (a : MonClientArrival) (gid : ℕ) (opened : List SealEntry) (login : Option LoggedIn) → with_opened opened (on_opened a gid [] login) ≡ on_opened a gid opened login
opened_behind a gid opened None = ap (λ (seals : List SealEntry). refuses a (OfLogin Unopened) seals) (append-nil opened)
opened_behind a gid opened (Some logged_in) =
    signed_behind a (record { gid = gid; opened = logged_in }) opened
    (signed_frame (connector_keys logged_in.secret) logged_in.auth.session (take a.link.taken a.link.received))

-- the LoginDone that was read was opened to this login
pub login_opened : (a : MonClientArrival) (gid : ℕ) (read : Result LoginDone BytesFault) (done : LoginDone) (login : Option LoggedIn) → read ≡ Ok done
    → login ≡ (login_in a.own.secret done).value → with_opened (login_in a.own.secret done).seals (on_opened a gid [] login) ≡ on_login_done a gid read
login_opened a gid read done login r v = rw (r, v) (opened_behind a gid (login_in a.own.secret done).seals (login_in a.own.secret done).value)
