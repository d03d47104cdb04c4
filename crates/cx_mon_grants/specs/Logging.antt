-- What is logged of a ticket, entry by entry.
use Rattle.cx_keyserver.specs.declared.tickets.Ticket.{Ticket}
use Rattle.cx_steps.specs.declared.seals.DrawMark.TheVariants as draw
use Rattle.cx_steps.specs.declared.seals.SealEntry.{SealEntry}
use Rattle.cx_steps.specs.declared.seals.SealEntry.TheVariants.{Drawn}

-- its session key was drawn
abbrev pub drawn_seal : Ticket → SealEntry
drawn_seal ticket = Drawn (draw.Session ticket.session ticket.entity)
