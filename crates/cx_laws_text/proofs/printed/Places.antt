-- The places of a line are those of its values, and what a line tells of an entry is such that a line can hold it.
use Rattle.std.proofs.Common.{◌≡◌, List, ◌∷◌, map, refl, ap, ◌∙◌}
use Rattle.std.specs.List.{AllByRecursion}
use Rattle.cx_journal.specs.Places.{ticket_number}
use Rattle.cx_journal.specs.declared.entries.Admitted.{Admitted}
use Rattle.cx_journal.specs.declared.entries.Entry.{Entry}
use Rattle.cx_journal.specs.declared.entries.Entry.TheVariants as entry
use Rattle.cx_journal.specs.declared.entries.Refused.{Refused}
use Rattle.cx_journal.specs.declared.faults.BytesFault.TheVariants as bytes
use Rattle.cx_journal.specs.declared.faults.LoginFault.TheVariants as login
use Rattle.cx_journal.specs.declared.faults.SessionFault.TheVariants as session
use Rattle.cx_journal.specs.declared.outcomes.Reason.{Reason}
use Rattle.cx_journal.specs.declared.outcomes.Reason.TheVariants as reason
use Rattle.cx_journal.specs.declared.outcomes.TicketFault.TheVariants as fault
use Rattle.cx_audit_text.proofs.words.Chosen.{reason_form_of-word}
use Rattle.cx_audit_text.specs.words.Items.{item_word}
use Rattle.cx_audit_text.specs.declared.words_places.JournalPlace.{JournalPlace}
use Rattle.cx_audit_text.specs.declared.words_places.JournalPlace.TheVariants as at
use Rattle.cx_audit_text.specs.lines.Lines.{behind_reason, entry_head, entry_items, places}
use Rattle.cx_audit_text.specs.lines.Reasons.{reason_form, reason_places, reason_values}
use Rattle.cx_laws_text.specs.told.Told.{entry_told, reason_told}
use Rattle.cx_laws_text.proofs.printed.Counted.{counted_of, rank-high, rank-low, ticket-high}
use Rattle.cx_laws_text.proofs.printed.Good.{AreItems, place_of}
use Rattle.cx_laws_text.proofs.printed.Tellables.{IsTellable, IsTellableItem}

-- ---- places

reason-places : (why : Reason) → reason_places (reason_form why) ≡ map place_of (reason_values why)
reason-places (reason.Bytes bytes.BadBanner) = refl
reason-places (reason.Bytes bytes.BadCrc) = refl
reason-places (reason.Bytes bytes.BadShape) = refl
reason-places (reason.Bytes bytes.TooLong) = refl
reason-places (reason.Bytes bytes.BadTag) = refl
reason-places (reason.Bytes bytes.Aborted) = refl
reason-places (reason.Bytes bytes.CounterSpent) = refl
reason-places (reason.Bytes (bytes.Features n)) = refl
reason-places (reason.Bytes (bytes.Unexpected n)) = refl
reason-places (reason.Bytes (bytes.Malformed n)) = refl
reason-places reason.LinksFull = refl
reason-places (reason.Login login.Method) = refl
reason-places (reason.Login login.Mode) = refl
reason-places (reason.Login login.UnknownEntity) = refl
reason-places (reason.Login login.WrongProof) = refl
reason-places (reason.Login login.GidsSpent) = refl
reason-places (reason.Login login.IdsSpent) = refl
reason-places (reason.Login login.SignatureWrong) = refl
reason-places (reason.Login login.Unopened) = refl
reason-places (reason.Login (login.Reclaim gid)) = refl
reason-places (reason.Login (login.NonceWrong expected got)) = refl
reason-places reason.NotADaemon = refl
reason-places reason.BadRequest = refl
reason-places reason.BadReply = refl
reason-places reason.Reset = refl
reason-places reason.Lost = refl
reason-places reason.NoSession = refl
reason-places reason.NoLink = refl
reason-places reason.Busy = refl
reason-places reason.Spent = refl
reason-places reason.QueueFull = refl
reason-places (reason.Denied code) = refl
reason-places (reason.NoTicket service) = refl
reason-places (reason.WrongService kept got) = refl
reason-places (reason.Session session.BookFull) = refl
reason-places (reason.Session session.UnknownSession) = refl
reason-places (reason.Session (session.CookieInUse n)) = refl
reason-places (reason.Session (session.StaleConnect n)) = refl
reason-places (reason.Session (session.StaleGlobal n)) = refl
reason-places (reason.Session (session.Gap n)) = refl
reason-places (reason.Session (session.Stale n)) = refl
reason-places (reason.Session (session.OwnerDiffers entity gid)) = refl
reason-places (reason.Ticket (fault.UnknownGeneration id) blob) = refl
reason-places (reason.Ticket (fault.TicketUnopened id) blob) = refl
reason-places (reason.Ticket (fault.GidDiffers claimed sealed) blob) = refl
reason-places (reason.Ticket (fault.Expired expires now) blob) = refl
reason-places (reason.Ticket fault.AuthorizerUnopened blob) = refl
reason-places (reason.Ticket (fault.ChallengeWrong expected got) blob) = refl

refused-places : (r : Refused) → places (entry_head (entry.Refused r)) (map item_word (entry_items (entry.Refused r))) ≡ map place_of (entry_items (entry.Refused r))
refused-places r =
    ap (λ (ps : List JournalPlace). at.Node ∷ at.Short ∷ at.Reason ∷ ps) (ap behind_reason (reason_form_of-word (reason_form r.reason)) ∙ reason-places r.reason)

pub entry-places : (e : Entry) → places (entry_head e) (map item_word (entry_items e)) ≡ map place_of (entry_items e)
entry-places (entry.Saved x) = refl
entry-places (entry.Issued x) = refl
entry-places (entry.Fetched x) = refl
entry-places (entry.Looked x) = refl
entry-places (entry.Admitted x) = refl
entry-places (entry.Resumed x) = refl
entry-places (entry.Sent x) = refl
entry-places (entry.Handled x) = refl
entry-places (entry.Answered x) = refl
entry-places (entry.Ended x) = refl
entry-places (entry.Restarted x) = refl
entry-places (entry.Broken x) = refl
entry-places (entry.Leaked x) = refl
entry-places (entry.Refused r) = refused-places r

-- ---- what is told

told-session : (earlier : List Entry) (a : Admitted) → IsTellable (entry.Admitted a) → AreItems (counted_of earlier) (entry_items (entry_told earlier (entry.Admitted a)))
told-session earlier a (daemon, (number, (epoch, (cookie, (entity, (gid, (at, (caps, end)))))))) =
    ((daemon, tt), ((number, tt), ((epoch, tt), (((rank-low earlier a.cookie, rank-high earlier a.cookie), tt), ((entity, tt), ((gid, tt), ((at, tt), ((caps, tt), tt))))))))

told-reason : (earlier : List Entry) (why : Reason) → AllByRecursion IsTellableItem (reason_values why) → AreItems (counted_of earlier) (reason_values (reason_told earlier why))
told-reason earlier (reason.Bytes bytes.BadBanner) h = tt
told-reason earlier (reason.Bytes bytes.BadCrc) h = tt
told-reason earlier (reason.Bytes bytes.BadShape) h = tt
told-reason earlier (reason.Bytes bytes.TooLong) h = tt
told-reason earlier (reason.Bytes bytes.BadTag) h = tt
told-reason earlier (reason.Bytes bytes.Aborted) h = tt
told-reason earlier (reason.Bytes bytes.CounterSpent) h = tt
told-reason earlier (reason.Bytes (bytes.Features n)) (one, end) = ((one, tt), tt)
told-reason earlier (reason.Bytes (bytes.Unexpected n)) (one, end) = ((one, tt), tt)
told-reason earlier (reason.Bytes (bytes.Malformed n)) (one, end) = ((one, tt), tt)
told-reason earlier reason.LinksFull (one, end) = ((one, tt), tt)
told-reason earlier (reason.Login login.Method) h = tt
told-reason earlier (reason.Login login.Mode) h = tt
told-reason earlier (reason.Login login.UnknownEntity) h = tt
told-reason earlier (reason.Login login.WrongProof) h = tt
told-reason earlier (reason.Login login.GidsSpent) h = tt
told-reason earlier (reason.Login login.IdsSpent) h = tt
told-reason earlier (reason.Login login.SignatureWrong) h = tt
told-reason earlier (reason.Login login.Unopened) h = tt
told-reason earlier (reason.Login (login.Reclaim gid)) (one, end) = ((one, tt), tt)
told-reason earlier (reason.Login (login.NonceWrong expected got)) (one, (two, end)) = ((one, tt), ((two, tt), tt))
told-reason earlier reason.NotADaemon h = tt
told-reason earlier reason.BadRequest h = tt
told-reason earlier reason.BadReply h = tt
told-reason earlier reason.Reset h = tt
told-reason earlier reason.Lost h = tt
told-reason earlier reason.NoSession h = tt
told-reason earlier reason.NoLink h = tt
told-reason earlier reason.Busy h = tt
told-reason earlier reason.Spent h = tt
told-reason earlier reason.QueueFull (one, end) = ((one, tt), tt)
told-reason earlier (reason.Denied code) (one, end) = ((one, tt), tt)
told-reason earlier (reason.NoTicket service) (one, end) = ((one, tt), tt)
told-reason earlier (reason.WrongService kept got) (one, (two, end)) = ((one, tt), ((two, tt), tt))
told-reason earlier (reason.Session session.BookFull) (one, end) = ((one, tt), tt)
told-reason earlier (reason.Session session.UnknownSession) h = tt
told-reason earlier (reason.Session (session.CookieInUse n)) (one, end) = ((one, tt), tt)
told-reason earlier (reason.Session (session.StaleConnect n)) (one, end) = ((one, tt), tt)
told-reason earlier (reason.Session (session.StaleGlobal n)) (one, end) = ((one, tt), tt)
told-reason earlier (reason.Session (session.Gap n)) (one, end) = ((one, tt), tt)
told-reason earlier (reason.Session (session.Stale n)) (one, end) = ((one, tt), tt)
told-reason earlier (reason.Session (session.OwnerDiffers entity gid)) (one, (two, end)) = ((one, tt), ((two, tt), tt))
told-reason earlier (reason.Ticket (fault.UnknownGeneration id) blob) (one, end) = ((one, tt), ((((ticket_number earlier blob), ticket-high earlier blob, refl), tt), tt))
told-reason earlier (reason.Ticket (fault.TicketUnopened id) blob) (one, end) = ((one, tt), ((((ticket_number earlier blob), ticket-high earlier blob, refl), tt), tt))
told-reason earlier (reason.Ticket (fault.GidDiffers claimed sealed) blob) (one, (two, end)) = ((one, tt), ((two, tt), ((((ticket_number earlier blob), ticket-high earlier blob, refl), tt), tt)))
told-reason earlier (reason.Ticket (fault.Expired expires now) blob) (one, (two, end)) = ((one, tt), ((two, tt), ((((ticket_number earlier blob), ticket-high earlier blob, refl), tt), tt)))
told-reason earlier (reason.Ticket fault.AuthorizerUnopened blob) h = ((((ticket_number earlier blob), ticket-high earlier blob, refl), tt), tt)
told-reason earlier (reason.Ticket (fault.ChallengeWrong expected got) blob) (one, (two, end)) = ((one, tt), ((two, tt), ((((ticket_number earlier blob), ticket-high earlier blob, refl), tt), tt)))

pub told-items : (earlier : List Entry) (e : Entry) → IsTellable e → AreItems (counted_of earlier) (entry_items (entry_told earlier e))
told-items earlier (entry.Saved next) (n, end) = ((n, tt), tt)
told-items earlier (entry.Issued t) (blob, (entity, (service, (gid, (generation, (created, (expires, (caps, end)))))))) =
    ((refl, tt), ((entity, tt), ((tt, tt), ((gid, tt), ((generation, tt), ((created, tt), ((expires, tt), ((caps, tt), tt))))))))
told-items earlier (entry.Fetched f) (daemon, (asked, (ids, end))) = ((daemon, tt), ((asked, tt), ((ids, tt), tt)))
told-items earlier (entry.Looked l) (daemon, (link, (ids, (asked, end)))) = ((daemon, tt), ((link, tt), ((ids, tt), ((asked, tt), tt))))
told-items earlier (entry.Admitted a) h = told-session earlier a h
told-items earlier (entry.Resumed a) h = told-session earlier a h
told-items earlier (entry.Sent s) (client, (daemon, (cookie, (seq, (access, (pool, (namespace, (object, (bytes, end))))))))) =
    ((client, tt), ((daemon, tt), (((rank-low earlier s.cookie, rank-high earlier s.cookie), tt), ((seq, tt), ((tt, tt), ((pool, tt), ((namespace, tt), ((object, tt), ((tt, bytes), tt)))))))))
told-items earlier (entry.Handled h) (daemon, (number, (epoch, (cookie, (seq, (access, (pool, (namespace, (object, (bytes, (outcome, end))))))))))) =
    ((daemon, tt), ((number, tt), ((epoch, tt), (((rank-low earlier h.cookie, rank-high earlier h.cookie), tt), ((seq, tt), ((tt, tt), ((pool, tt), ((namespace, tt), ((object, tt), ((tt, bytes), ((tt, tt), tt)))))))))))
told-items earlier (entry.Answered a) (client, (daemon, (tid, (outcome, end)))) = ((client, tt), ((daemon, tt), ((tid, tt), ((tt, tt), tt))))
told-items earlier (entry.Refused r) (node, (link, (form, values))) = ((node, tt), ((link, tt), ((tt, tt), told-reason earlier r.reason values)))
told-items earlier (entry.Ended x) (daemon, (number, end)) = ((daemon, tt), ((number, tt), tt))
told-items earlier (entry.Restarted x) (node, end) = ((node, tt), tt)
told-items earlier (entry.Broken b) (why, (node, (kind, (line, end)))) = ((tt, tt), ((node, tt), ((tt, tt), ((line, tt), tt))))
told-items earlier (entry.Leaked x) (client, end) = ((client, tt), tt)
