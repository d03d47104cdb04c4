-- Names and ticket blobs in borrowed bytes.
use Rattle.cx_base.specs.Names.{Name}
use Rattle.cx_enc.specs.declared.names.NameRef.{NameRef}
use Rattle.cx_enc.specs.declared.tickets.TicketBlob.{TicketBlob}
use Rattle.cx_enc.specs.declared.tickets.TicketRef.{TicketRef}

-- the name, without where its id lies
abbrev pub name_seen : NameRef → Name
name_seen name = record { kind = name.kind; id = name.id.now }

-- the ticket blob, without where its bytes lie
abbrev pub ticket_seen : TicketRef → TicketBlob
ticket_seen ticket = record { generation = ticket.generation; blob = ticket.blob.now }
