-- What a client and a daemon seal for each other under the session key of a ticket ("detailed cephx protocol"), and plain frames that hold it.
use Rattle.std.specs.Prelude.{ℕ, List, ◌++◌, Option}
use Rattle.cx_rules.specs.cx_frame.specs.declared.frame.Frame.{Frame}
use Rattle.cx_authorize.specs.cx_journal.specs.declared.premises.KeyKind.TheVariants as kind
use Rattle.cx_authorize.specs.cx_sealed.specs.Records.{authorize_layout, authorize_challenge_layout, authorize_reply_layout}
use Rattle.cx_rules.specs.cx_steps.specs.declared.seals.SealEntry.{SealEntry}
use Rattle.cx_rules.specs.cx_steps.specs.declared.seals.SealEntry.TheVariants as entry
use Rattle.cx_authorize.specs.Answers.{shown_as}
use Rattle.cx_authorize.specs.Verdict.{raised}
use Rattle.cx_rules.specs.Rows.{Arrival, Row, goes_on, unless_refused}
use Rattle.cx_rules.specs.Secured.{plain_frame}

-- ---- the contents

-- the nonce of a client, and the daemon's challenge plus one where that is answered
abbrev pub authorize_content : ℕ → Option ℕ → List ℕ
authorize_content nonce challenge = authorize_layout.form.text (shown_as nonce challenge)

-- the challenge of a daemon
abbrev pub authorize_challenge_content : ℕ → List ℕ
authorize_challenge_content challenge = authorize_challenge_layout.form.text (record { challenge = challenge })

-- its reply to a nonce, with the secret of the connection
abbrev pub authorize_reply_content : ℕ → List ℕ → List ℕ
authorize_reply_content nonce secret = authorize_reply_layout.form.text (record { nonce_plus_one = raised nonce; secret = secret })

-- that it was sealed under a session key
abbrev pub session_sealed : List ℕ → List ℕ → SealEntry
session_sealed session content = entry.Sealed (record { key = session; kind = kind.Session; content = content })

-- ---- a frame that holds what was sealed

module _ {Own Stage : Type 0} where
  -- a plain frame is sent, and the link goes on in a stage; what was sealed for it is logged where it is sent
  abbrev pub sends_holding : Arrival Own Stage → Stage → List SealEntry → List SealEntry → Frame → Row Own Stage
  sends_holding a stage before held f = unless_refused a before (plain_frame f) (λ bytes. goes_on a stage bytes (before ++ held))
