-- A client that holds what the key server issued, and a daemon whose view has that generation, agree; and what the functions of both sides
-- mean.
use Rattle.std.specs.Prelude.{ℕ, ◌≡◌, ◌<◌, ◌↔◌, true, List, All, Some, Result, Ok, IfOk, IfErr}
use Rattle.std.specs.List.{AllByRecursion}
use Rattle.cx_sealed.specs.cx_aes.specs.Cipher.{IsBlock}
use Rattle.cx_base.specs.Names.{same_kind}
use Rattle.cx_sealed.specs.Records.{service_ticket_layout}
use Rattle.cx_sealed.specs.Sealing.{OpensTo}
use Rattle.cx_sealed.specs.declared.service_ticket.ServiceTicket.{ServiceTicket}
use Rattle.cx_steps.specs.declared.seals.SealEntry.{SealEntry}
use Rattle.cx_login.specs.Held.{Held}
use Rattle.cx_login.specs.Opening.{generation_key}
use Rattle.cx_authorize.specs.Verdict.{IsVerdict}
use Rattle.cx_authorize.specs.Answers.{shown_as, IsAuthorizer, IsChallenge, IsReply}
use Rattle.cx_authorize.specs.Client.{Presented, Answered, IsAnswered, IsAnswerTo, IsAgreed, IsAgreementOn}
use Rattle.cx_authorize.specs.Judging.{judged}
use Rattle.cx_authorize.specs.declared.judging.Terms.{Terms}
use Rattle.cx_authorize.specs.declared.judging.Shown.{Shown}
use Rattle.cx_authorize.specs.declared.client.Agreed.{Agreed}
use Rattle.cx_authorize.specs.declared.refusals.AuthRefusal.{AuthRefusal}
use Rattle.cx_authorize.specs.declared.refusals.PresentRefusal.{PresentRefusal}
use Rattle.cx_authorize.specs.declared.refusals.PresentRefusal.TheVariants.{OutOfMemory}

-- The held ticket is this one as the key server issued it: its blob opens to it under this key of a generation, and the client was
-- told its session key.
pub record HoldsTicket (held : Held) (ticket : ServiceTicket) (key : List ℕ) : Type 0 where
  pub opens : OpensTo service_ticket_layout.form key held.blob ticket
  pub told : held.session ≡ ticket.session

-- The daemon is one of the ticket's service, its view has the ticket's generation, and the ticket expires after the reading.
pub record IsWelcome (held : Held) (ticket : ServiceTicket) (key : List ℕ) (terms : Terms) : Type 0 where
  pub served : same_kind terms.service held.service ≡ true
  pub known : generation_key terms.view.generations held.generation ≡ Some key
  pub live : terms.reading < ticket.expires

-- Such a daemon refuses neither authorizer of the ticket: the verdict is what it shows, with the challenge where one is due.
abbrev pub IsAccepted : Type 0
IsAccepted =
    (held : Held) (ticket : ServiceTicket) (key : List ℕ) (terms : Terms) (nonce : ℕ) (bytes : List ℕ) (verdict : Result Shown AuthRefusal)
    → HoldsTicket held ticket key → IsWelcome held ticket key terms
    → IsAuthorizer held ticket.gid (shown_as nonce terms.challenge) bytes → IsVerdict terms bytes verdict
    → verdict ≡ Ok (record { ticket = ticket; authorize = shown_as nonce terms.challenge })

-- the client refuses no challenge under its ticket's session key, and answers that challenge
abbrev pub AnswersChallenge : Type 0
AnswersChallenge =
    (presented : Presented) (challenge : ℕ) (bytes : List ℕ) (result : Result (Answered × List ℕ) PresentRefusal)
    → IsChallenge presented.held.session challenge bytes → IsAnswerTo presented bytes result
    → IfErr result (λ why. why ≡ OutOfMemory)
    × IfOk result (λ made. (made.0 ≡ record { session = presented.held.session; nonce = presented.nonce })
    × IsAuthorizer presented.held presented.gid (shown_as presented.nonce (Some challenge)) made.1)

-- it refuses no reply to its nonce under that key, and has its secret
abbrev pub TakesReply : Type 0
TakesReply =
    (answered : Answered) (secret bytes : List ℕ) (result : Result Agreed PresentRefusal)
    → IsReply answered.session answered.nonce secret bytes → IsAgreementOn answered bytes result
    → IfErr result (λ why. why ≡ OutOfMemory) × IfOk result (λ agreed. agreed ≡ record { secret = secret; session = answered.session })

-- ---- what the functions mean, by what sealed bytes open to

-- What is judged is the one verdict.
abbrev pub IsTheVerdict : Type 0
IsTheVerdict =
    (terms : Terms) (payload : List ℕ) (verdict : Result Shown AuthRefusal)
    → All (λ b. b < 256) payload → AllByRecursion (λ g. IsBlock g.key) terms.view.generations
    → IsVerdict terms payload verdict ↔ (verdict ≡ (judged terms payload).value)

-- a challenge is answered by what its sealed part opens to
abbrev pub AnswersWhatOpens : Type 0
AnswersWhatOpens =
    (presented : Presented) (bytes : List ℕ) (old new : List SealEntry) (result : Result (Answered × List ℕ) PresentRefusal)
    → IsBlock presented.held.session → IsAnswered presented bytes old new result → IsAnswerTo presented bytes result

-- and a reply is agreed on by what its own opens to
abbrev pub AgreesOnWhatOpens : Type 0
AgreesOnWhatOpens =
    (answered : Answered) (bytes : List ℕ) (old new : List SealEntry) (result : Result Agreed PresentRefusal)
    → IsBlock answered.session → IsAgreed answered bytes old new result → IsAgreementOn answered bytes result
