-- The contents of the records that cephx seals, each behind a kind byte of this project's own (docs/formats.md, after "The
-- Ceph authentication protocol" and "Cephx"). Times are readings; session keys and generations' keys are keys of the time 0.
use Rattle.std.specs.Prelude.{ℕ, ◌≡◌, ◌+◌, ◌==◌, ◌&&◌, ◌||◌, Bool, true, false, List, [], ◌∷◌, Option, Some, None, Result, Ok, Err, refl}
use Rattle.cx_base.specs.Texts.{is_caps}
use Rattle.cx_rotate.specs.declared.generations.Generation.{Generation}
use Rattle.cx_enc.specs.Moments.{IsReading}
use Rattle.cx_enc.specs.Forms.{passed}
use Rattle.cx_enc.specs.declared.faults.ReadFault.{ReadFault}
use Rattle.cx_enc.specs.declared.faults.ReadFault.TheVariants.{BadField}
use Rattle.cx_enc.specs.Layouts.{Layout, ◌⊗◌, ◌⊳◌, constant, only_if, list_by, seen_as, u8_field, u32_field, u64_field, flag_field, sized_field, blob_field, reading_field, secret_field, kind_field, name_field}
use Rattle.cx_sealed.specs.declared.service_ticket.ServiceTicket.{ServiceTicket}
use Rattle.cx_sealed.specs.declared.ticket_info.TicketInfo.{TicketInfo}
use Rattle.cx_sealed.specs.declared.authorize.Authorize.{Authorize}
use Rattle.cx_sealed.specs.declared.authorize_challenge.AuthorizeChallenge.{AuthorizeChallenge}
use Rattle.cx_sealed.specs.declared.authorize_reply.AuthorizeReply.{AuthorizeReply}
use Rattle.cx_sealed.specs.declared.rotating_reply.RotatingReply.{RotatingReply}
use Rattle.cx_sealed.specs.declared.connection_secret.ConnectionSecret.{ConnectionSecret}

-- the byte that a content begins with
abbrev pub kind_byte : ℕ → Layout (Unit {0})
kind_byte n = constant n u8_field

-- 1: the session key, the name, the global id, the times of making and of expiry, and the caps
abbrev pub service_ticket_layout : Layout ServiceTicket
service_ticket_layout =
    seen_as (kind_byte 1 ⊳ secret_field ⊗ name_field ⊗ u64_field ⊗ reading_field ⊗ reading_field ⊗ only_if is_caps blob_field)
    (λ (session, (name, (gid, (created, (expires, caps))))). record { session = session; name = name; gid = gid; created = created; expires = expires; caps = caps })
    (λ t. (t.session, (t.name, (t.gid, (t.created, (t.expires, t.caps))))))
    (λ _ _. refl) (λ _ _. refl)

-- 2: the service, the session key, and the times of making and of expiry
abbrev pub ticket_info_layout : Layout TicketInfo
ticket_info_layout =
    seen_as (kind_byte 2 ⊳ kind_field ⊗ secret_field ⊗ reading_field ⊗ reading_field)
    (λ (service, (session, (created, expires))). record { service = service; session = session; created = created; expires = expires })
    (λ t. (t.service, (t.session, (t.created, t.expires))))
    (λ _ _. refl) (λ _ _. refl)

-- 3: the nonce, whether a challenge was asked for, and the daemon's challenge plus one
abbrev pub authorize_layout : Layout Authorize
authorize_layout =
    seen_as (kind_byte 3 ⊳ u64_field ⊗ flag_field ⊗ u64_field)
    (λ (nonce, (have, raised)). record { nonce = nonce; have_challenge = have; server_challenge_plus_one = raised })
    (λ a. (a.nonce, (a.have_challenge, a.server_challenge_plus_one)))
    (λ _ _. refl) (λ _ _. refl)

-- 4: the challenge
abbrev pub authorize_challenge_layout : Layout AuthorizeChallenge
authorize_challenge_layout =
    seen_as (kind_byte 4 ⊳ u64_field) (λ challenge. record { challenge = challenge }) (λ c. c.challenge) (λ _ _. refl) (λ _ _. refl)

-- 5: the nonce plus one, and the connection secret in a blob
abbrev pub authorize_reply_layout : Layout AuthorizeReply
authorize_reply_layout =
    seen_as (kind_byte 5 ⊳ u64_field ⊗ sized_field 64)
    (λ (raised, secret). record { nonce_plus_one = raised; secret = secret })
    (λ r. (r.nonce_plus_one, r.secret))
    (λ _ _. refl) (λ _ _. refl)

-- a generation: its id, its key and its expiry
abbrev pub generation_layout : Layout Generation
generation_layout =
    seen_as (u64_field ⊗ secret_field ⊗ reading_field)
    (λ (id, (key, expires)). record { id = id; key = key; expires = expires })
    (λ g. (g.id, (g.key, g.expires)))
    (λ _ _. refl) (λ _ _. refl)

-- none or three
abbrev pub is_none_or_three : ℕ → Bool
is_none_or_three n = (n == 0) || (n == 3)

-- the ids rise by one
abbrev pub is_rising : List Generation → Bool
is_rising [] = true
is_rising (a ∷ []) = true
is_rising (a ∷ b ∷ gs) = (b.id == a.id + 1) && is_rising (b ∷ gs)

-- none or three generations whose ids rise by one
abbrev pub generations_layout : Layout (List Generation)
generations_layout = only_if is_rising (list_by (only_if is_none_or_three u32_field) generation_layout)

-- these generations stand, or the field that begins at this place is a bad one
abbrev pub IsJudged : ℕ → List Generation → Result (List Generation) ReadFault → Type 0
IsJudged place three (Ok generations) = (passed is_rising three ≡ Some three) × (generations ≡ three)
IsJudged place three (Err e) = (passed is_rising three ≡ None) × (e ≡ BadField place)

-- each expiry is one that a time can spell
abbrev pub AreReadings : List Generation → Type 0
AreReadings [] = Unit {0}
AreReadings (g ∷ gs) = IsReading g.expires × AreReadings gs

-- 6: the service, and none or three generations whose ids rise by one
abbrev pub rotating_reply_layout : Layout RotatingReply
rotating_reply_layout =
    seen_as (kind_byte 6 ⊳ kind_field ⊗ generations_layout)
    (λ (service, generations). record { service = service; generations = generations })
    (λ r. (r.service, r.generations))
    (λ _ _. refl) (λ _ _. refl)

-- 7: the connection secret in a blob
abbrev pub connection_secret_layout : Layout ConnectionSecret
connection_secret_layout =
    seen_as (kind_byte 7 ⊳ sized_field 64) (λ secret. record { secret = secret }) (λ c. c.secret) (λ _ _. refl) (λ _ _. refl)
