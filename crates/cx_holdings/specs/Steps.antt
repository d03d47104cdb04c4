-- The steps of a login at its client, by what was read of the monitor's payloads ("detailed cephx protocol").
use Rattle.std.specs.Prelude.{ℕ, ◌≡◌, List, Option, Result, Ok, Err}
use Rattle.cx_journal.specs.declared.faults.BytesFault.{BytesFault}
use Rattle.cx_rules.specs.cx_login.specs.Client.{Ask, authenticate}
use Rattle.cx_rules.specs.cx_login.specs.Unlocking.{Made, login_in}
use Rattle.cx_rules.specs.cx_login.specs.declared.client.LoggedIn.{LoggedIn}
use Rattle.cx_steps.specs.declared.seals.SealEntry.{SealEntry}
use Rattle.cx_wire.specs.Logins.{authenticate_layout}
use Rattle.cx_wire.specs.declared.logins.LoginDone.{LoginDone}
use Rattle.cx_wire.specs.declared.logins.ServerChallenge.{ServerChallenge}
use Rattle.cx_holdings.specs.declared.answers.Answer.{Answer}

-- the challenge that was read is answered by the bytes of the Authenticate
abbrev pub IsAnswerTo : Ask → ℕ → Result ServerChallenge BytesFault → Result Answer BytesFault → Type 0
IsAnswerTo ask client read (Err why) = read ≡ Err why
IsAnswerTo ask client read (Ok answer) =
    (read ≡ Ok answer.server)
    × (answer.bytes ≡ authenticate_layout.form.text (authenticate ask answer.server.challenge client))

-- the LoginDone that was read is opened under the client's secret: what opened is logged, and there is a login where each part opened
abbrev pub IsOpenedBy : List ℕ → Result LoginDone BytesFault → List SealEntry → List SealEntry → Result (Option LoggedIn) BytesFault → Type 0
IsOpenedBy secret read old new (Err why) = (read ≡ Err why) × (new ≡ old)
IsOpenedBy secret read old new (Ok login) = (done : LoginDone) × (read ≡ Ok done) × Made (login_in secret done) old new login
