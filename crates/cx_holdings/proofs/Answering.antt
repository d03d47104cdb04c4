-- The steps of a login, by what was read.
use Rattle.std.proofs.Common.{◌≡◌, ℕ, List, Option, Some, None, Result, Ok, Err, sym, subst}
use Rattle.cx_control.specs.Calls.{IsReadBy}
use Rattle.cx_control.specs.declared.refusals.WireRefusal.TheVariants as wire
use Rattle.cx_enc.specs.Forms.{IsBytes}
use Rattle.cx_enc.specs.Whole.{Spells}
use Rattle.cx_journal.specs.declared.faults.BytesFault.TheVariants as fault
use Rattle.cx_rules.specs.cx_login.specs.Client.{Ask, IsAnswered, IsDone, authenticate}
use Rattle.cx_rules.specs.cx_login.specs.declared.client.LoggedIn.{LoggedIn}
use Rattle.cx_rules.specs.cx_login.specs.declared.refusals.LoginRefusal.TheVariants.{Malformed, Unopened}
use Rattle.cx_rules.specs.cx_login.proofs.Tried.{spells_one}
use Rattle.cx_rules.specs.Payloads.{whole}
use Rattle.cx_steps.specs.declared.seals.SealEntry.{SealEntry}
use Rattle.cx_wire.specs.Logins.{authenticate_layout, login_done_layout, server_challenge_layout}
use Rattle.cx_wire.specs.declared.logins.ServerChallenge.{ServerChallenge}
use Rattle.cx_holdings.specs.Steps.{IsAnswerTo, IsOpenedBy}
use Rattle.cx_rules.proofs.Payloads.{refused_is, spelled_is}

-- the challenge that the payload spells was answered
pub answer_is : (ask : Ask) (payload : List ℕ) (client : ℕ) (server : ServerChallenge) (secret bytes : List ℕ) → Spells server_challenge_layout.form payload server
    → IsAnswered ask payload client (Ok (secret, bytes)) → IsAnswerTo ask client (whole server_challenge_layout.form payload) (Ok (record { server = server; bytes = bytes }))
answer_is ask payload client server secret bytes spells is =
    let one : is.found.0 ≡ server = spells_one server_challenge_layout payload is.found.0 server is.found.1 spells in (
      spelled_is server_challenge_layout payload server spells,
      subst (λ (s : ServerChallenge). bytes ≡ authenticate_layout.form.text (authenticate ask s.challenge client)) one is.found.3.1,
    )

-- each part of the LoginDone opened
pub opened_all : (secret payload : List ℕ) (old new : List SealEntry) (login : LoggedIn) → IsDone secret payload old new (Ok login)
    → IsOpenedBy secret (whole login_done_layout.form payload) old new (Ok (Some login))
opened_all secret payload old new login (done, spells, made) = (done, spelled_is login_done_layout payload done spells, made)

-- one didn't
pub opened_none : (secret payload : List ℕ) (old new : List SealEntry) → IsDone secret payload old new (Err Unopened)
    → IsOpenedBy secret (whole login_done_layout.form payload) old new (Ok None)
opened_none secret payload old new (done, spells, made) = (done, spelled_is login_done_layout payload done spells, made)

-- there is no LoginDone
pub opened_nothing : (secret payload : List ℕ) (old new : List SealEntry) (place : ℕ) → IsBytes payload → IsDone secret payload old new (Err (Malformed place))
    → IsOpenedBy secret (whole login_done_layout.form payload) old new (Err (fault.Malformed place))
opened_nothing secret payload old new place octets (refused, same) = (refused_is login_done_layout payload place octets refused, same)
