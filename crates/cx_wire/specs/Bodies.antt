-- The bodies of messages 17 and 18 ("detailed cephx protocol").
use Rattle.std.specs.Prelude.{ℕ, ◌≡◌, ◌<◌, ◌^◌, ◌⊎◌, List, length, Some, refl}
use Rattle.std.proofs.Common.{inl, inr}
use Rattle.cx_base.specs.declared.kinds.EntityType.TheVariants.{Auth}
use Rattle.cx_enc.specs.Layouts.{Layout, ◌⊳◌, seen_as, constant, chain_by, u8_field, u32_field, blob_field}
use Rattle.cx_wire.specs.CodeLaws.{coded, inside}
use Rattle.cx_wire.specs.Services.{ticket_part_layout, behind, AreTickets}
use Rattle.cx_wire.specs.declared.tickets.TicketPart.{TicketPart}
use Rattle.cx_wire.specs.declared.bodies.Request.{Request}
use Rattle.cx_wire.specs.declared.bodies.Request.TheVariants as asked
use Rattle.cx_wire.specs.declared.bodies.Reply.{Reply}
use Rattle.cx_wire.specs.declared.bodies.Reply.TheVariants as given

-- Request, message 17: for tickets of services, a byte 1 and the services as a sum of their numbers; for generations, a byte 1
abbrev pub request_of : ℕ ⊎ Unit {0} → Request
request_of (inl keys) = asked.Tickets keys
request_of (inr _) = asked.Rotating

abbrev pub request_parts : Request → ℕ ⊎ Unit {0}
request_parts (asked.Tickets keys) = inl keys
request_parts asked.Rotating = inr tt

pub request_back : (a : ℕ ⊎ Unit {0}) → request_parts (request_of a) ≡ a
request_back (inl keys) = refl
request_back (inr _) = refl

pub request_again : (x : Request) → request_of (request_parts x) ≡ x
request_again (asked.Tickets keys) = refl
request_again asked.Rotating = refl

abbrev pub request_content : Layout Request
request_content = seen_as (coded (constant 1 u8_field ⊳ u32_field) (constant 1 u8_field)) request_of request_parts (λ a _. request_back a) (λ x _. request_again x)

-- Reply, message 18: for tickets, a byte 1 and the tickets as in LoginDone, without the one for AUTH; for generations, the sealed
-- RotatingReply
abbrev pub reply_of : List TicketPart ⊎ List ℕ → Reply
reply_of (inl tickets) = given.Tickets tickets
reply_of (inr sealed) = given.Rotating sealed

abbrev pub reply_parts : Reply → List TicketPart ⊎ List ℕ
reply_parts (given.Tickets tickets) = inl tickets
reply_parts (given.Rotating sealed) = inr sealed

pub reply_back : (a : List TicketPart ⊎ List ℕ) → reply_parts (reply_of a) ≡ a
reply_back (inl tickets) = refl
reply_back (inr sealed) = refl

pub reply_again : (x : Reply) → reply_of (reply_parts x) ≡ x
reply_again (given.Tickets tickets) = refl
reply_again (given.Rotating sealed) = refl

abbrev pub reply_content : Layout Reply
reply_content = seen_as (coded (constant 1 u8_field ⊳ chain_by u32_field ticket_part_layout behind (Some Auth)) blob_field) reply_of reply_parts (λ a _. reply_back a) (λ x _. reply_again x)

-- a reply that can be written: tickets in order, and each blob shorter than 2^32 bytes
abbrev pub IsShortReply : Reply → Type 0
IsShortReply (given.Tickets tickets) = AreTickets (Some Auth) tickets
IsShortReply (given.Rotating sealed) = length sealed < 2 ^ 32

-- each of them in a blob
abbrev pub request_layout : Layout Request
request_layout = inside request_content

abbrev pub reply_layout : Layout Reply
reply_layout = inside reply_content
