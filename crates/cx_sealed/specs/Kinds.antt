-- The records that cephx seals as one type, for the laws over all of them.
use Rattle.std.specs.Prelude.{ℕ, ◌≡◌, ◌≢◌, List, length}
use Rattle.cx_enc.specs.Whole.{Spells}
use Rattle.cx_sealed.specs.Records.{service_ticket_layout, ticket_info_layout, authorize_layout, authorize_challenge_layout, authorize_reply_layout, rotating_reply_layout, connection_secret_layout}
use Rattle.cx_sealed.specs.declared.service_ticket.ServiceTicket.{ServiceTicket}
use Rattle.cx_sealed.specs.declared.ticket_info.TicketInfo.{TicketInfo}
use Rattle.cx_sealed.specs.declared.authorize.Authorize.{Authorize}
use Rattle.cx_sealed.specs.declared.authorize_challenge.AuthorizeChallenge.{AuthorizeChallenge}
use Rattle.cx_sealed.specs.declared.authorize_reply.AuthorizeReply.{AuthorizeReply}
use Rattle.cx_sealed.specs.declared.rotating_reply.RotatingReply.{RotatingReply}
use Rattle.cx_sealed.specs.declared.connection_secret.ConnectionSecret.{ConnectionSecret}

pub data AnyRecord : Type 0 where
  of_service_ticket : ServiceTicket → AnyRecord
  of_ticket_info : TicketInfo → AnyRecord
  of_authorize : Authorize → AnyRecord
  of_authorize_challenge : AuthorizeChallenge → AnyRecord
  of_authorize_reply : AuthorizeReply → AnyRecord
  of_rotating_reply : RotatingReply → AnyRecord
  of_connection_secret : ConnectionSecret → AnyRecord

-- the content spells this value of this kind
abbrev pub SpellsAny : List ℕ → AnyRecord → Type 0
SpellsAny content (of_service_ticket x) = Spells service_ticket_layout.form content x
SpellsAny content (of_ticket_info x) = Spells ticket_info_layout.form content x
SpellsAny content (of_authorize x) = Spells authorize_layout.form content x
SpellsAny content (of_authorize_challenge x) = Spells authorize_challenge_layout.form content x
SpellsAny content (of_authorize_reply x) = Spells authorize_reply_layout.form content x
SpellsAny content (of_rotating_reply x) = Spells rotating_reply_layout.form content x
SpellsAny content (of_connection_secret x) = Spells connection_secret_layout.form content x

-- no content spells two records of different kinds, nor two values of one
abbrev pub SpellsOne : Type 0
SpellsOne = (content : List ℕ) (x y : AnyRecord) → SpellsAny content x → SpellsAny content y → x ≡ y

-- no content has the 16 bytes that the proof of a login seals
abbrev pub IsNoProof : Type 0
IsNoProof = (content : List ℕ) (x : AnyRecord) → SpellsAny content x → length content ≢ 16
