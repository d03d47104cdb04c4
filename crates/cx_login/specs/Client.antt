-- The client's side of a login ("detailed cephx protocol": the client answers the monitor's challenge by an Authenticate, and opens
-- what it is given).
use Rattle.std.specs.Prelude.{ℕ, ◌≡◌, List, [], Option, Some, None, Result, Ok, Err, IfOk, IfErr}
use Rattle.cx_enc.specs.Whole.{Spells}
use Rattle.cx_enc.specs.declared.tickets.TicketBlob.{TicketBlob}
use Rattle.cx_wire.specs.cx_control.specs.Calls.{IsRefusedFor}
use Rattle.cx_wire.specs.cx_control.specs.declared.refusals.WireRefusal.TheVariants as wire
use Rattle.cx_steps.specs.declared.seals.SealEntry.{SealEntry}
use Rattle.cx_wire.specs.Logins.{server_challenge_layout, authenticate_layout, login_done_layout}
use Rattle.cx_wire.specs.declared.logins.ServerChallenge.{ServerChallenge}
use Rattle.cx_wire.specs.declared.logins.Authenticate.{Authenticate}
use Rattle.cx_wire.specs.declared.logins.LoginDone.{LoginDone}
use Rattle.cx_login.specs.Proving.{due_proof}
use Rattle.cx_login.specs.Held.{Held}
use Rattle.cx_login.specs.Unlocking.{Made, login_in}
use Rattle.cx_login.specs.declared.refusals.LoginRefusal.{LoginRefusal}
use Rattle.cx_login.specs.declared.refusals.LoginRefusal.TheVariants.{Malformed, Unopened, OutOfMemory}
use Rattle.cx_login.specs.declared.client.LoggedIn.{LoggedIn}

-- what a client logs in with: its secret, an old ticket if it hands one in, and the services for which it asks tickets
pub record Ask : Type 0 where
  pub secret : List ℕ
  pub old : Option Held
  pub other_keys : ℕ

-- version 3 asks that the global id be kept, and stands beside an old ticket; version 2 stands alone
abbrev pub version_of : Option Held → ℕ
version_of None = 2
version_of (Some old) = 3

-- the old ticket as it is shown; no ticket is the generation 0 with no bytes
abbrev pub shown_ticket : Option Held → TicketBlob
shown_ticket None = record { generation = 0; blob = [] }
shown_ticket (Some old) = record { generation = old.generation; blob = old.blob }

-- the Authenticate that answers the monitor's challenge with one of the client's own
abbrev pub authenticate : Ask → ℕ → ℕ → Authenticate
authenticate ask server client = record {
  version = version_of ask.old;
  client_challenge = client;
  key = due_proof ask.secret server client;
  old_ticket = shown_ticket ask.old;
  other_keys = ask.other_keys;
}

-- The answer to the challenge that a payload spells: the secret is kept, and the bytes are those of the Authenticate.
abbrev pub Answers : Ask → List ℕ → ℕ → List ℕ × List ℕ → Type 0
Answers ask payload client (secret, bytes) =
    (server : ServerChallenge) × Spells server_challenge_layout.form payload server
    × (secret ≡ ask.secret) × Spells authenticate_layout.form bytes (authenticate ask server.challenge client)

-- why no challenge is answered
abbrev pub IsNoChallenge : List ℕ → LoginRefusal → Type 0
IsNoChallenge payload (Malformed place) = IsRefusedFor server_challenge_layout.form payload (wire.Malformed place)
IsNoChallenge payload Unopened = ⊥
IsNoChallenge payload OutOfMemory = Unit {0}

-- a challenge is answered exactly where the payload spells one
pub record IsAnswered (ask : Ask) (payload : List ℕ) (client : ℕ) (result : Result (List ℕ × List ℕ) LoginRefusal) : Type 0 where
  pub found : IfOk result (Answers ask payload client)
  pub only : (server : ServerChallenge) → Spells server_challenge_layout.form payload server → IfErr result (λ e. e ≡ OutOfMemory)
  pub refused : IfErr result (IsNoChallenge payload)

-- A client is logged in exactly where the payload spells a LoginDone of which each part opens to its record; where it spells none, nothing
-- is opened.
abbrev pub IsDone : List ℕ → List ℕ → List SealEntry → List SealEntry → Result LoggedIn LoginRefusal → Type 0
IsDone secret payload old new (Ok login) = (done : LoginDone) × Spells login_done_layout.form payload done × Made (login_in secret done) old new (Some login)
IsDone secret payload old new (Err Unopened) = (done : LoginDone) × Spells login_done_layout.form payload done × Made (login_in secret done) old new None
IsDone secret payload old new (Err (Malformed place)) = IsRefusedFor login_done_layout.form payload (wire.Malformed place) × (new ≡ old)
IsDone secret payload old new (Err OutOfMemory) = Unit {0}
