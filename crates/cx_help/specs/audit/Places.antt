-- What a user is told that each place of a journal's line takes.
use Rattle.std.specs.Prelude.{ℕ, List, codes}
use Rattle.cx_audit_text.specs.declared.words_places.JournalPlace.{JournalPlace}
use Rattle.cx_audit_text.specs.declared.words_places.JournalPlace.TheVariants as at

abbrev pub place_text : JournalPlace → List ℕ
place_text at.Number = codes "a number below 18,446,744,073,709,551,616, in digits alone"
place_text at.Short = codes "a number below 4,294,967,296, in digits alone"
place_text at.Byte = codes "a number below 256, in digits alone"
place_text at.Next = codes "the number of the ticket, which is its place among the issued ones, from 1"
place_text at.Reading = codes "a reading of a clock in seconds below 4,000,000,000, as 4599, or with a point and nine digits where it has nanoseconds, as 4599.999999999"
place_text at.Asked = codes "the reading at which the view was asked for, as 4599 or 4599.999999999, or `-` where it was not"
place_text at.Entity = codes "the name of an entity, as osd.0"
place_text at.Node = codes "a node: mon, or the name of an entity"
place_text at.Type = codes "a type of entities: mon, mds, osd, client, mgr or auth"
place_text at.Caps = codes "a capability text in quotation marks, as \"allow *\""
place_text at.Ids = codes "the ids of three generations that rise by one, joined by commas, as 1,2,3, or `-` for none"
place_text at.Cookie = codes "a cookie: c and the rank of one that stands above, or the next rank, from c1"
place_text at.Access = codes "read, write or exec"
place_text at.Part = codes "a pool, a namespace or an object, or - for none"
place_text at.Data = codes "bytes in hex, in lower case, or `-` for none"
place_text at.Outcome = codes "done, denied or no-handler"
place_text at.Premise = codes "sealing or draw"
place_text at.KeyKind = codes "the kind of a key or of a draw, as service or challenge; docs/formats.md has them all"
place_text at.Reason = codes "the first word of a reason, as lost or expired; docs/formats.md has them all"
place_text at.Full = codes "1024"
place_text at.FullBook = codes "4096"
place_text at.Ticket = codes "`ticket=` and the number of a ticket that was issued above, or 0"
place_text at.Verb = codes "caps, del or get"
place_text at.AdminOutcome = codes "done, denied, rejected or no-handler"
