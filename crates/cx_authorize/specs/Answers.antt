-- The payloads by which a client and a daemon answer each other ("detailed cephx protocol"), each a sealed record and the bytes
-- that hold it.
use Rattle.std.specs.Prelude.{ℕ, true, false, List, Option, Some, None}
use Rattle.cx_enc.specs.Whole.{Spells}
use Rattle.cx_sealed.specs.Records.{authorize_layout, authorize_challenge_layout, authorize_reply_layout}
use Rattle.cx_sealed.specs.Sealing.{IsSealed}
use Rattle.cx_sealed.specs.declared.authorize.Authorize.{Authorize}
use Rattle.cx_wire.specs.Logins as payload
use Rattle.cx_wire.specs.declared.authorizers.Authorizer.{Authorizer}
use Rattle.cx_login.specs.Held.{Held}
use Rattle.cx_authorize.specs.Verdict.{raised}

-- what a client shows of itself: at first its nonce, then with it the daemon's challenge plus one
abbrev pub shown_as : ℕ → Option ℕ → Authorize
shown_as nonce None = record { nonce = nonce; have_challenge = false; server_challenge_plus_one = 0 }
shown_as nonce (Some challenge) = record { nonce = nonce; have_challenge = true; server_challenge_plus_one = raised challenge }

-- the authorizer of a held ticket
abbrev pub authorizer_of : Held → ℕ → List ℕ → Authorizer
authorizer_of held gid authorize = record {
  gid = gid;
  service = held.service;
  ticket = record { generation = held.generation; blob = held.blob };
  authorize = authorize;
}

-- the bytes of the authorizer of a held ticket, for this global id, that shows this
abbrev pub IsAuthorizer : Held → ℕ → Authorize → List ℕ → Type 0
IsAuthorizer held gid shown bytes =
    (sealed : List ℕ) × IsSealed authorize_layout.form held.session shown sealed
    × Spells payload.authorizer_layout.form bytes (authorizer_of held gid sealed)

-- the bytes of a challenge under a session key
abbrev pub IsChallenge : List ℕ → ℕ → List ℕ → Type 0
IsChallenge session challenge bytes =
    (sealed : List ℕ) × IsSealed authorize_challenge_layout.form session (record { challenge = challenge }) sealed
    × Spells payload.authorize_challenge_layout.form bytes (record { sealed = sealed })

-- the bytes of the reply to a nonce under a session key, with the secret of the connection
abbrev pub IsReply : List ℕ → ℕ → List ℕ → List ℕ → Type 0
IsReply session nonce secret bytes =
    (sealed : List ℕ) × IsSealed authorize_reply_layout.form session (record { nonce_plus_one = raised nonce; secret = secret }) sealed
    × Spells payload.authorize_reply_layout.form bytes (record { sealed = sealed })
