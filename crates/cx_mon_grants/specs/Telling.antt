-- Which replies can be spelled, and how long they are.
use Rattle.std.specs.Prelude.{◌<◌, ◌≤◌, ◌^◌, Some, All, length}
use Rattle.cx_base.specs.declared.kinds.EntityType.TheVariants.{Auth}
use Rattle.cx_rules.specs.declared.responses.ReplyMade.{ReplyMade}
use Rattle.cx_rules.specs.declared.responses.Response.{Response}
use Rattle.cx_rules.specs.declared.responses.Response.TheVariants.{Refuses, Replies}
use Rattle.cx_wire.specs.Services.{AreTickets}
use Rattle.cx_wire.specs.declared.bodies.Reply.{Reply}
use Rattle.cx_wire.specs.declared.bodies.Reply.TheVariants.{Tickets, Rotating}
use Rattle.cx_mon_grants.specs.Handing.{IsShort}

-- tickets stand in their order, behind the one for AUTH, and no part of them is longer than an envelope; nor are generations, which are sealed
abbrev pub IsTellable : Reply → Type 0
IsTellable (Tickets parts) = AreTickets (Some Auth) parts × All IsShort parts
IsTellable (Rotating sealed) = length sealed ≤ 1048601

-- the body of a reply fits a segment
abbrev pub IsBodyShort : ReplyMade → Type 0
IsBodyShort made = length made.body < 2 ^ 32

-- of a reply
abbrev pub IfReplies : (ReplyMade → Type 0) → Response → Type 0
IfReplies P (Refuses why seals) = Unit {0}
IfReplies P (Replies made) = P made
