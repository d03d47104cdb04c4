-- What a daemon makes of an authorizer that passes: the bytes that answer it, and what was sealed in them, as an entry of the log.
use Rattle.std.specs.Prelude.{ℕ, ◌≡◌, ◌<◌, ◌^◌, List, length, Option}
use Rattle.cx_base.specs.declared.kinds.EntityType.{EntityType}
use Rattle.cx_journal.specs.declared.premises.KeyKind.TheVariants as kind
use Rattle.cx_rotate.specs.declared.views.View.{View}
use Rattle.cx_sealed.specs.Records.{authorize_layout, authorize_challenge_layout, authorize_reply_layout}
use Rattle.cx_steps.specs.declared.seals.SealEntry.{SealEntry}
use Rattle.cx_steps.specs.declared.seals.SealEntry.TheVariants as entry
use Rattle.cx_authorize.specs.Answers.{IsChallenge, IsReply, shown_as}
use Rattle.cx_authorize.specs.Verdict.{raised}
use Rattle.cx_authorize.specs.declared.daemon.FirstPassed.{FirstPassed}
use Rattle.cx_authorize.specs.declared.daemon.SecondPassed.{SecondPassed}
use Rattle.cx_authorize.specs.declared.judging.Shown.{Shown}

-- ---- what was sealed

-- a content was sealed under a session key
abbrev pub session_sealed : List ℕ → List ℕ → SealEntry
session_sealed session content = entry.Sealed (record { key = session; kind = kind.Session; content = content })

-- what an authorizer shows: a nonce, and a challenge where one is answered
abbrev pub authorize_sealed : List ℕ → ℕ → Option ℕ → SealEntry
authorize_sealed session nonce challenge = session_sealed session (authorize_layout.form.text (shown_as nonce challenge))

-- a challenge
abbrev pub challenge_sealed : List ℕ → ℕ → SealEntry
challenge_sealed session challenge = session_sealed session (authorize_challenge_layout.form.text (record { challenge = challenge }))

-- the reply to a nonce, with the secret of the connection
abbrev pub reply_sealed : List ℕ → ℕ → List ℕ → SealEntry
reply_sealed session nonce secret =
    session_sealed session (authorize_reply_layout.form.text (record { nonce_plus_one = raised nonce; secret = secret }))

-- ---- what passes, in so few bytes that a frame can hold them

-- the first authorizer is answered by the daemon's challenge, under the ticket's session key
pub record IsChallenged (service : EntityType) (challenge : ℕ) (shown : Shown) (passed : FirstPassed) : Type 0 where
  pub awaiting : passed.awaiting ≡ record { service = service; challenge = challenge }
  pub bytes : IsChallenge shown.ticket.session challenge passed.bytes
  pub short : length passed.bytes < 2 ^ 32
  pub sealed : passed.sealed ≡ challenge_sealed shown.ticket.session challenge

-- the second authorizer is answered by the reply to its nonce and the secret of the connection, under the same key
pub record IsAdmitted (view : View) (reading : ℕ) (secret : List ℕ) (shown : Shown) (passed : SecondPassed) : Type 0 where
  pub authorized : passed.authorized ≡ record { ticket = shown.ticket; view = view; at = reading }
  pub bytes : IsReply shown.ticket.session shown.authorize.nonce secret passed.bytes
  pub short : length passed.bytes < 2 ^ 32
  pub sealed : passed.sealed ≡ reply_sealed shown.ticket.session shown.authorize.nonce secret
