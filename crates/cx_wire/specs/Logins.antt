-- The payloads of cephx in the frames of authentication ("detailed cephx protocol").
use Rattle.std.specs.Prelude.{ℕ, ◌==◌, ◌||◌, Bool, None, refl}
use Rattle.cx_enc.specs.Layouts.{Layout, ◌⊗◌, ◌⊳◌, seen_as, constant, only_if, chain_by, u8_field, u16_field, u32_field, u64_field, kind_field, name_field, blob_field, ticket_field, count_field}
use Rattle.cx_wire.specs.Services.{ticket_part_layout, behind}
use Rattle.cx_wire.specs.declared.logins.LoginHello.{LoginHello}
use Rattle.cx_wire.specs.declared.logins.ServerChallenge.{ServerChallenge}
use Rattle.cx_wire.specs.declared.logins.Authenticate.{Authenticate}
use Rattle.cx_wire.specs.declared.logins.LoginDone.{LoginDone}
use Rattle.cx_wire.specs.declared.authorizers.Authorizer.{Authorizer}
use Rattle.cx_wire.specs.declared.authorizers.AuthorizeChallenge.{AuthorizeChallenge}
use Rattle.cx_wire.specs.declared.authorizers.AuthorizeReply.{AuthorizeReply}

-- LoginHello, in AUTH_REQUEST to the monitor: a byte 10, the name, and the global id that is held
abbrev pub login_hello_layout : Layout LoginHello
login_hello_layout = seen_as (constant 10 u8_field ⊳ name_field ⊗ u64_field)
    (λ (name, gid). record { name = name; gid = gid })
    (λ h. (h.name, h.gid))
    (λ _ _. refl) (λ _ _. refl)

-- ServerChallenge, in AUTH_REPLY_MORE: a byte 1, and the challenge
abbrev pub server_challenge_layout : Layout ServerChallenge
server_challenge_layout = seen_as (constant 1 u8_field ⊳ u64_field) (λ challenge. record { challenge = challenge }) (λ c. c.challenge) (λ _ _. refl) (λ _ _. refl)

-- Authenticate, in AUTH_REQUEST_MORE: the code 0x0100, the version 2 or 3, the client's challenge, the proof, the old ticket, and
-- the services for which tickets are asked
abbrev pub is_version : ℕ → Bool
is_version version = (version == 2) || (version == 3)

abbrev pub authenticate_layout : Layout Authenticate
authenticate_layout = seen_as (constant 0x0100 u16_field ⊳ only_if is_version u8_field ⊗ u64_field ⊗ u64_field ⊗ ticket_field ⊗ u32_field)
    (λ (version, (client_challenge, (key, (old_ticket, other_keys)))). record {
      version = version;
      client_challenge = client_challenge;
      key = key;
      old_ticket = old_ticket;
      other_keys = other_keys;
    })
    (λ a. (a.version, (a.client_challenge, (a.key, (a.old_ticket, a.other_keys)))))
    (λ _ _. refl) (λ _ _. refl)

-- LoginDone, in AUTH_DONE from the monitor: the code 0x0100, a result 0, a byte 1, at least one ticket, the first of them for AUTH,
-- and the sealed connection secret
abbrev pub login_done_layout : Layout LoginDone
login_done_layout = seen_as (constant 0x0100 u16_field ⊳ constant 0 u32_field ⊳ constant 1 u8_field ⊳ chain_by (count_field 1 4294967295) ticket_part_layout behind None ⊗ blob_field)
    (λ (tickets, connection_secret). record { tickets = tickets; connection_secret = connection_secret })
    (λ d. (d.tickets, d.connection_secret))
    (λ _ _. refl) (λ _ _. refl)

-- Authorizer, in AUTH_REQUEST and AUTH_REQUEST_MORE to a daemon: a byte 1, the global id, the service, the ticket and the sealed
-- Authorize
abbrev pub authorizer_layout : Layout Authorizer
authorizer_layout = seen_as (constant 1 u8_field ⊳ u64_field ⊗ kind_field ⊗ ticket_field ⊗ blob_field)
    (λ (gid, (service, (ticket, authorize))). record { gid = gid; service = service; ticket = ticket; authorize = authorize })
    (λ a. (a.gid, (a.service, (a.ticket, a.authorize))))
    (λ _ _. refl) (λ _ _. refl)

-- AuthorizeChallenge, in AUTH_REPLY_MORE, and AuthorizeReply, in AUTH_DONE from a daemon: the sealed record
abbrev pub authorize_challenge_layout : Layout AuthorizeChallenge
authorize_challenge_layout = seen_as blob_field (λ sealed. record { sealed = sealed }) (λ c. c.sealed) (λ _ _. refl) (λ _ _. refl)

abbrev pub authorize_reply_layout : Layout AuthorizeReply
authorize_reply_layout = seen_as blob_field (λ sealed. record { sealed = sealed }) (λ r. r.sealed) (λ _ _. refl) (λ _ _. refl)
