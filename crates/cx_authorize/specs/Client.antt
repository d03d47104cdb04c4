-- The client's side of an authorizer ("detailed cephx protocol": the client shows its ticket, answers the daemon's challenge, and
-- takes the reply to its own nonce).
use Rattle.std.specs.Prelude.{ℕ, ◌≡◌, ◌≢◌, List, Some, None, Result, Ok, Err, IfOk, IfErr}
use Rattle.cx_enc.specs.Whole.{Spells}
use Rattle.cx_wire.specs.cx_control.specs.Calls.{IsRefusedFor}
use Rattle.cx_wire.specs.cx_control.specs.declared.refusals.WireRefusal.TheVariants as wire
use Rattle.cx_journal.specs.declared.premises.KeyKind.TheVariants.{Session}
use Rattle.cx_sealed.specs.Records.{authorize_challenge_layout, authorize_reply_layout}
use Rattle.cx_sealed.specs.declared.authorize_challenge.AuthorizeChallenge.{AuthorizeChallenge}
use Rattle.cx_sealed.specs.declared.authorize_reply.AuthorizeReply.{AuthorizeReply}
use Rattle.cx_steps.specs.declared.seals.SealEntry.{SealEntry}
use Rattle.cx_wire.specs.Logins as payload
use Rattle.cx_wire.specs.declared.authorizers.AuthorizeChallenge as challenge_payload
use Rattle.cx_wire.specs.declared.authorizers.AuthorizeReply as reply_payload
use Rattle.cx_login.specs.Held.{Held}
use Rattle.cx_login.specs.Opening.{IsShut, IsTried}
use Rattle.cx_login.specs.Unlocking.{Unlocked, unlocked, Made}
use Rattle.cx_authorize.specs.Answers.{shown_as, IsAuthorizer}
use Rattle.cx_authorize.specs.Verdict.{raised}
use Rattle.cx_authorize.specs.declared.client.Agreed.{Agreed}
use Rattle.cx_authorize.specs.declared.refusals.PresentRefusal.{PresentRefusal}
use Rattle.cx_authorize.specs.declared.refusals.PresentRefusal.TheVariants.{Malformed, Unopened, NonceWrong, OutOfMemory}

-- a ticket that is shown, for this global id, with this nonce
pub record Presented : Type 0 where
  pub held : Held
  pub gid : ℕ
  pub nonce : ℕ

-- what a client awaits the reply by
pub record Answered : Type 0 where
  pub session : List ℕ
  pub nonce : ℕ

-- the first authorizer: it shows the nonce alone
abbrev pub Presents : Held → ℕ → ℕ → Presented × List ℕ → Type 0
Presents held gid nonce (presented, bytes) =
    (presented ≡ record { held = held; gid = gid; nonce = nonce }) × IsAuthorizer held gid (shown_as nonce None) bytes

-- what the sealed part of a daemon's challenge opens to under the ticket's session key, and that it opened
abbrev pub challenge_in : List ℕ → List ℕ → Unlocked AuthorizeChallenge
challenge_in session sealed = unlocked authorize_challenge_layout.form Session session sealed

-- what that of its reply opens to
abbrev pub reply_in : List ℕ → List ℕ → Unlocked AuthorizeReply
reply_in session sealed = unlocked authorize_reply_layout.form Session session sealed

-- ---- what calls answer

-- Why no challenge is taken: the payload spells none, and nothing is opened; or its sealed part opens to no such record. What opened is appended
-- to the log.
abbrev pub IsUnasked : Presented → List ℕ → List SealEntry → List SealEntry → PresentRefusal → Type 0
IsUnasked presented bytes old new Unopened =
    (sent : challenge_payload.AuthorizeChallenge) × Spells payload.authorize_challenge_layout.form bytes sent
    × Made (challenge_in presented.held.session sent.sealed) old new None
IsUnasked presented bytes old new (Malformed place) = IsRefusedFor payload.authorize_challenge_layout.form bytes (wire.Malformed place) × (new ≡ old)
IsUnasked presented bytes old new (NonceWrong expected got) = ⊥
IsUnasked presented bytes old new OutOfMemory = Unit {0}

-- a challenge is taken exactly where the payload spells one whose sealed part opens to its record, and what opened is appended to the log
abbrev pub IsAsked : Presented → List ℕ → List SealEntry → List SealEntry → Result ℕ PresentRefusal → Type 0
IsAsked presented bytes old new (Ok challenge) =
    (sent : challenge_payload.AuthorizeChallenge) × Spells payload.authorize_challenge_layout.form bytes sent
    × (asked : AuthorizeChallenge) × Made (challenge_in presented.held.session sent.sealed) old new (Some asked)
    × (challenge ≡ asked.challenge)
IsAsked presented bytes old new (Err why) = IsUnasked presented bytes old new why

-- a challenge is answered by the second authorizer, which shows the same nonce and the challenge plus one
abbrev pub AnswersOne : Presented → ℕ → Answered × List ℕ → Type 0
AnswersOne presented challenge (answered, shown) =
    (answered ≡ record { session = presented.held.session; nonce = presented.nonce })
    × IsAuthorizer presented.held presented.gid (shown_as presented.nonce (Some challenge)) shown

-- A challenge is answered by the second authorizer, which shows the same nonce and the challenge plus one, exactly where the payload spells
-- one whose sealed part opens to its record. What opened is appended to the log, also where it is no such record; where the payload spells
-- none, nothing is opened.
abbrev pub IsAnswered : Presented → List ℕ → List SealEntry → List SealEntry → Result (Answered × List ℕ) PresentRefusal → Type 0
IsAnswered presented bytes old new (Ok (answered, shown)) =
    (sent : challenge_payload.AuthorizeChallenge) × Spells payload.authorize_challenge_layout.form bytes sent
    × (asked : AuthorizeChallenge) × Made (challenge_in presented.held.session sent.sealed) old new (Some asked)
    × (answered ≡ record { session = presented.held.session; nonce = presented.nonce })
    × IsAuthorizer presented.held presented.gid (shown_as presented.nonce (Some asked.challenge)) shown
IsAnswered presented bytes old new (Err Unopened) =
    (sent : challenge_payload.AuthorizeChallenge) × Spells payload.authorize_challenge_layout.form bytes sent
    × Made (challenge_in presented.held.session sent.sealed) old new None
IsAnswered presented bytes old new (Err (Malformed place)) = IsRefusedFor payload.authorize_challenge_layout.form bytes (wire.Malformed place) × (new ≡ old)
IsAnswered presented bytes old new (Err (NonceWrong expected got)) = ⊥
IsAnswered presented bytes old new (Err OutOfMemory) = Unit {0}

-- this is the reply that the payload holds, and what opened is appended to the log
abbrev pub IsReplied : Answered → List ℕ → List SealEntry → List SealEntry → AuthorizeReply → Type 0
IsReplied answered bytes old new reply =
    (sent : reply_payload.AuthorizeReply) × Spells payload.authorize_reply_layout.form bytes sent
    × Made (reply_in answered.session sent.sealed) old new (Some reply)

-- the secret of a reply is agreed on exactly where it is a reply to the client's own nonce
abbrev pub IsAgreed : Answered → List ℕ → List SealEntry → List SealEntry → Result Agreed PresentRefusal → Type 0
IsAgreed answered bytes old new (Ok agreed) =
    (reply : AuthorizeReply) × IsReplied answered bytes old new reply × (reply.nonce_plus_one ≡ raised answered.nonce)
    × (agreed ≡ record { secret = reply.secret; session = answered.session })
IsAgreed answered bytes old new (Err (NonceWrong expected got)) =
    (reply : AuthorizeReply) × IsReplied answered bytes old new reply
    × (expected ≡ raised answered.nonce) × (got ≡ reply.nonce_plus_one) × (got ≢ expected)
IsAgreed answered bytes old new (Err Unopened) =
    (sent : reply_payload.AuthorizeReply) × Spells payload.authorize_reply_layout.form bytes sent
    × Made (reply_in answered.session sent.sealed) old new None
IsAgreed answered bytes old new (Err (Malformed place)) = IsRefusedFor payload.authorize_reply_layout.form bytes (wire.Malformed place) × (new ≡ old)
IsAgreed answered bytes old new (Err OutOfMemory) = Unit {0}

-- ---- what they mean, by what sealed bytes open to

-- The second authorizer: it shows the same nonce, and the challenge plus one that the payload holds.
abbrev pub Answers : Presented → List ℕ → Answered × List ℕ → Type 0
Answers presented bytes (answered, shown) =
    (sent : challenge_payload.AuthorizeChallenge) × Spells payload.authorize_challenge_layout.form bytes sent
    × (asked : AuthorizeChallenge) × IsTried authorize_challenge_layout.form presented.held.session sent.sealed (Some asked)
    × (answered ≡ record { session = presented.held.session; nonce = presented.nonce })
    × IsAuthorizer presented.held presented.gid (shown_as presented.nonce (Some asked.challenge)) shown

-- why no challenge is answered
abbrev pub IsNoChallenge : Presented → List ℕ → PresentRefusal → Type 0
IsNoChallenge presented bytes (Malformed place) = IsRefusedFor payload.authorize_challenge_layout.form bytes (wire.Malformed place)
IsNoChallenge presented bytes Unopened =
    (sent : challenge_payload.AuthorizeChallenge) × Spells payload.authorize_challenge_layout.form bytes sent
    × IsShut authorize_challenge_layout.form presented.held.session sent.sealed
IsNoChallenge presented bytes (NonceWrong expected got) = ⊥
IsNoChallenge presented bytes OutOfMemory = Unit {0}

-- an answer to the challenge that a payload holds
pub record IsAnswerTo (presented : Presented) (bytes : List ℕ) (result : Result (Answered × List ℕ) PresentRefusal) : Type 0 where
  pub found : IfOk result (Answers presented bytes)
  pub refused : IfErr result (IsNoChallenge presented bytes)

-- this is the reply that a payload holds
abbrev pub Replies : Answered → List ℕ → AuthorizeReply → Type 0
Replies answered bytes reply =
    (sent : reply_payload.AuthorizeReply) × Spells payload.authorize_reply_layout.form bytes sent
    × IsTried authorize_reply_layout.form answered.session sent.sealed (Some reply)

-- the secret of a reply to the client's own nonce
abbrev pub Agrees : Answered → List ℕ → Agreed → Type 0
Agrees answered bytes agreed =
    (reply : AuthorizeReply) × Replies answered bytes reply × (reply.nonce_plus_one ≡ raised answered.nonce)
    × (agreed ≡ record { secret = reply.secret; session = answered.session })

-- why nothing is agreed
abbrev pub IsNoReply : Answered → List ℕ → PresentRefusal → Type 0
IsNoReply answered bytes (Malformed place) = IsRefusedFor payload.authorize_reply_layout.form bytes (wire.Malformed place)
IsNoReply answered bytes Unopened =
    (sent : reply_payload.AuthorizeReply) × Spells payload.authorize_reply_layout.form bytes sent
    × IsShut authorize_reply_layout.form answered.session sent.sealed
IsNoReply answered bytes (NonceWrong expected got) =
    (reply : AuthorizeReply) × Replies answered bytes reply
    × (expected ≡ raised answered.nonce) × (got ≡ reply.nonce_plus_one) × (got ≢ expected)
IsNoReply answered bytes OutOfMemory = Unit {0}

-- an agreement on the secret of the reply that a payload holds
pub record IsAgreementOn (answered : Answered) (bytes : List ℕ) (result : Result Agreed PresentRefusal) : Type 0 where
  pub found : IfOk result (Agrees answered bytes)
  pub refused : IfErr result (IsNoReply answered bytes)
