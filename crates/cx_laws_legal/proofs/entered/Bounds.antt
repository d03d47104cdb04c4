-- Each value of each entry of a journal is within its bound, where its steps show their part of it and the laws of tickets and looks hold.
use Rattle.std.proofs.Common.{◌≡◌, ◌<◌, ℕ, Option, Some, None, List, [], ◌∷◌, ◌++◌, inl, inr, ◌⊎◌, refl, subst, arith}
use Rattle.std.specs.Prelude.{Contains, IsTrue}
use Rattle.std.specs.List.{AllByRecursion}
use Rattle.std.proofs.lemmas.List.Elements.{Contains-append_right, Contains-push_cases}
use Rattle.cx_base.specs.Names.{Name}
use Rattle.cx_base.specs.Texts.{is_caps}
use Rattle.cx_base.specs.declared.nodes.NodeName.{NodeName}
use Rattle.cx_base.specs.declared.nodes.NodeName.TheVariants as node
use Rattle.cx_journal.specs.Backed.{HasTicket, IsBackedBy}
use Rattle.cx_journal.specs.Behind.{EachBehind}
use Rattle.cx_journal.specs.declared.entries.Admitted.{Admitted}
use Rattle.cx_journal.specs.declared.entries.Entry.{Entry}
use Rattle.cx_journal.specs.declared.entries.Entry.TheVariants as journal
use Rattle.cx_journal.specs.declared.entries.Fetched.{Fetched}
use Rattle.cx_journal.specs.declared.entries.Issued.{Issued}
use Rattle.cx_journal.specs.declared.faults.BytesFault.{BytesFault}
use Rattle.cx_journal.specs.declared.faults.BytesFault.TheVariants as bytes
use Rattle.cx_journal.specs.declared.faults.LoginFault.{LoginFault}
use Rattle.cx_journal.specs.declared.faults.LoginFault.TheVariants as login
use Rattle.cx_journal.specs.declared.faults.SessionFault.{SessionFault}
use Rattle.cx_journal.specs.declared.faults.SessionFault.TheVariants as session
use Rattle.cx_journal.specs.declared.outcomes.Reason.{Reason}
use Rattle.cx_journal.specs.declared.outcomes.Reason.TheVariants as reason
use Rattle.cx_journal.specs.declared.outcomes.TicketFault.{TicketFault}
use Rattle.cx_journal.specs.declared.outcomes.TicketFault.TheVariants as fault
use Rattle.cx_audit_text.specs.lines.Lines.{entry_items, session_items}
use Rattle.cx_audit_text.specs.lines.Reasons.{bytes_values, login_values, reason_values, session_values, ticket_values}
use Rattle.cx_audit_text.specs.words.Items.{IsAsked}
use Rattle.cx_rotate.specs.declared.views.View.{View}
use Rattle.cx_laws_run.specs.cx_laws_tickets.proofs.fetch.Looking.{WasFetched, view-fetched}
use Rattle.cx_laws_keys.specs.keys.KeepsExpiry.{ExpiredFor, KeepsExpiryBy, WasIssuedUntil}
use Rattle.cx_laws_keys.specs.keys.LooksLast.{LooksLastBy, view_behind}
use Rattle.cx_laws_legal.proofs.entered.Shown.{FaultShows, ReasonShows, Shows}
use Rattle.cx_laws_legal.proofs.entered.Tickets.{IsLow}
use Rattle.cx_laws_text.specs.printed.Tellable.{AreBounded, IsBounded}

-- ---- reasons without a ticket

bytes-bounded : (why : BytesFault) → AllByRecursion IsBounded (bytes_values why)
bytes-bounded (bytes.Features bits) = (tt, tt)
bytes-bounded (bytes.Unexpected tag) = (tt, tt)
bytes-bounded (bytes.Malformed place) = (tt, tt)
bytes-bounded _ = tt

login-bounded : (why : LoginFault) → AllByRecursion IsBounded (login_values why)
login-bounded (login.Reclaim gid) = (tt, tt)
login-bounded (login.NonceWrong expected got) = (tt, (tt, tt))
login-bounded _ = tt

session-bounded : (why : SessionFault) → AllByRecursion IsBounded (session_values why)
session-bounded session.BookFull = (tt, tt)
session-bounded session.UnknownSession = tt
session-bounded (session.OwnerDiffers entity gid) = (tt, (tt, tt))
session-bounded (session.CookieInUse number) = (tt, tt)
session-bounded (session.StaleConnect kept) = (tt, tt)
session-bounded (session.StaleGlobal kept) = (tt, tt)
session-bounded (session.Gap expected) = (tt, tt)
session-bounded (session.Stale epoch) = (tt, tt)

-- ---- an entry, behind those before it

module _ (J : List Entry) (tickets : (t : Issued) → Contains J (journal.Issued t) → IsLow t) (fetches : (f : Fetched) → Contains J (journal.Fetched f) → f.asked < 4000000000000000000) where
  expired-bounded : (daemon : NodeName) (expires now : ℕ) (blob : List ℕ) → FaultShows daemon (fault.Expired expires now) → ExpiredFor J daemon (reason.Ticket (fault.Expired expires now) blob)
      → AllByRecursion IsBounded (ticket_values (fault.Expired expires now) blob)
  expired-bounded node.Monitor expires now blob shows needs = absurd shows.0
  expired-bounded (node.Entity daemon) expires now blob (of, low) (was, over) = by_issue was
    where
      by_issue : WasIssuedUntil J daemon expires blob → AllByRecursion IsBounded (ticket_values (fault.Expired expires now) blob)
      by_issue w =
          let t : IsLow w.ticket = tickets w.ticket w.issued in
          let below : w.ticket.expires < 5000000000000000000 = t.expires in
          let until : w.ticket.expires ≡ expires = w.until in
          (omega arith, (omega arith, (tt, tt)))

  fault-bounded : (at : NodeName) (why : TicketFault) (blob : List ℕ) → FaultShows at why → ExpiredFor J at (reason.Ticket why blob) → AllByRecursion IsBounded (ticket_values why blob)
  fault-bounded at (fault.UnknownGeneration id) blob shows needs = (tt, (tt, tt))
  fault-bounded at (fault.TicketUnopened id) blob shows needs = (tt, (tt, tt))
  fault-bounded at (fault.GidDiffers claimed sealed) blob shows needs = (tt, (tt, (tt, tt)))
  fault-bounded at (fault.Expired expires now) blob shows needs = expired-bounded at expires now blob shows needs
  fault-bounded at fault.AuthorizerUnopened blob shows needs = (tt, tt)
  fault-bounded at (fault.ChallengeWrong expected got) blob shows needs = (tt, (tt, (tt, tt)))

  reason-bounded : (at : NodeName) (why : Reason) → ReasonShows at why → ExpiredFor J at why → AllByRecursion IsBounded (reason_values why)
  reason-bounded at (reason.Bytes why) shows needs = bytes-bounded why
  reason-bounded at reason.LinksFull shows needs = (tt, tt)
  reason-bounded at (reason.Login why) shows needs = login-bounded why
  reason-bounded at (reason.Denied code) shows needs = (tt, tt)
  reason-bounded at (reason.NoTicket service) shows needs = (tt, tt)
  reason-bounded at reason.QueueFull shows needs = (tt, tt)
  reason-bounded at (reason.Session why) shows needs = session-bounded why
  reason-bounded at (reason.WrongService kept got) shows needs = (tt, (tt, tt))
  reason-bounded at (reason.Ticket why blob) shows needs = fault-bounded at why blob shows needs
  reason-bounded at _ shows needs = tt

  asked-bounded : (daemon : Name) (v : View) (asked : Option ℕ) → v.asked ≡ asked → v ≡ view_behind daemon J → IsAsked asked
  asked-bounded daemon v None told is = tt
  asked-bounded daemon v (Some asked) told is =
      let w : WasFetched daemon asked v.generations J = view-fetched daemon asked v told J is in
      let low : w.of.asked < 4000000000000000000 = fetches w.of w.has in
      let same : w.of.asked ≡ asked = w.asked_is in
      omega arith

  session-within : (s : Admitted) → HasTicket J s → AllByRecursion IsBounded (session_items s)
  session-within s (ticket, issued, backs) =
      let t : IsLow ticket = tickets ticket issued in
      let below : ticket.expires < 5000000000000000000 = t.expires in
      let live : s.at < ticket.expires = backs.live in
      (tt, (tt, (tt, (tt, (tt, (tt, (omega arith, (subst (λ (c : List ℕ). IsTrue (is_caps c)) backs.caps t.caps, tt))))))))

  ticket-within : (t : Issued) → IsLow t → AllByRecursion IsBounded (entry_items (journal.Issued t))
  ticket-within t low =
      let created : t.created < 4000000000000000000 = low.created in
      let expires : t.expires < 5000000000000000000 = low.expires in
      (tt, (tt, (tt, (tt, (tt, (omega arith, (omega arith, (low.caps, tt))))))))

  fetched-within : (f : Fetched) → f.asked < 4000000000000000000 → AllByRecursion IsBounded (entry_items (journal.Fetched f))
  fetched-within f low = (tt, (omega arith, (tt, tt)))

  -- each entry that is itself among those of which the tickets and fetches are known
  entry-within : (e : Entry) → ((t : Issued) → e ≡ journal.Issued t → IsLow t) → ((f : Fetched) → e ≡ journal.Fetched f → f.asked < 4000000000000000000)
      → Shows e → IsBackedBy J e → KeepsExpiryBy J e → LooksLastBy J e → AllByRecursion IsBounded (entry_items e)
  entry-within (journal.Saved next) ticket fetch shows backed expiry looks = (tt, tt)
  entry-within (journal.Issued t) ticket fetch shows backed expiry looks = ticket-within t (ticket t refl)
  entry-within (journal.Fetched f) ticket fetch shows backed expiry looks = fetched-within f (fetch f refl)
  entry-within (journal.Looked l) ticket fetch shows backed expiry looks = (tt, (tt, (tt, (asked-bounded l.daemon l.view l.view.asked refl looks, tt))))
  entry-within (journal.Admitted s) ticket fetch shows backed expiry looks = session-within s backed
  entry-within (journal.Resumed s) ticket fetch shows backed expiry looks = session-within s backed
  entry-within (journal.Sent s) ticket fetch (pool, namespace, object) backed expiry looks = (tt, (tt, (tt, (tt, (tt, (pool, (namespace, (object, (tt, tt)))))))))
  entry-within (journal.Handled h) ticket fetch (pool, namespace, object) backed expiry looks =
      (tt, (tt, (tt, (tt, (tt, (tt, (pool, (namespace, (object, (tt, (tt, tt)))))))))))
  entry-within (journal.Answered a) ticket fetch shows backed expiry looks = (tt, (tt, (tt, (tt, tt))))
  entry-within (journal.Refused r) ticket fetch shows backed expiry looks = (tt, (tt, (tt, reason-bounded r.node r.reason shows expiry)))
  entry-within (journal.Ended e) ticket fetch shows backed expiry looks = (tt, (tt, tt))
  entry-within (journal.Restarted at) ticket fetch shows backed expiry looks = (tt, tt)
  entry-within (journal.Broken b) ticket fetch shows backed expiry looks = (tt, (tt, (tt, (tt, tt))))
  entry-within (journal.Leaked client) ticket fetch shows backed expiry looks = (tt, tt)

-- ---- all of them

module _ (whole : List Entry) (tickets : (t : Issued) → Contains whole (journal.Issued t) → IsLow t)
    (fetches : (f : Fetched) → Contains whole (journal.Fetched f) → f.asked < 4000000000000000000) where
  -- each of these is an entry of the journal
  abbrev Within : List Entry → Type 0
  Within es = (x : Entry) → Contains es x → Contains whole x

  within-next : (J es : List Entry) (e : Entry) → Within J → Within (e ∷ es) → Within (J ++ e ∷ [])
  within-next J es e before later x has = by_place (Contains-push_cases J e x has)
    where
      by_place : Contains J x ⊎ (e ≡ x) → Contains whole x
      by_place (inl was) = before x was
      by_place (inr same) = later x (subst (λ (y : Entry). Contains (e ∷ es) y) same (0, omega arith, refl))

  all-within : (J es : List Entry) → Within J → Within es → AllByRecursion Shows es → EachBehind IsBackedBy J es → EachBehind KeepsExpiryBy J es → EachBehind LooksLastBy J es → AreBounded es
  all-within J [] before later shows backed expiry looks = tt
  all-within J (e ∷ es) before later shows backed expiry looks =
      let here : Contains whole e = later e (0, omega arith, refl) in (
        entry-within J (λ t has. tickets t (before (journal.Issued t) has)) (λ f has. fetches f (before (journal.Fetched f) has)) e
            (λ t is. tickets t (subst (λ (x : Entry). Contains whole x) is here)) (λ f is. fetches f (subst (λ (x : Entry). Contains whole x) is here)) shows.0 backed.0 expiry.0 looks.0,
        all-within (J ++ e ∷ []) es (within-next J es e before later) (λ x has. later x (Contains-append_right (e ∷ []) es x has)) shows.1 backed.1 expiry.1 looks.1,
      )

  pub whole-bounded : AllByRecursion Shows whole → EachBehind IsBackedBy [] whole → EachBehind KeepsExpiryBy [] whole → EachBehind LooksLastBy [] whole → AreBounded whole
  whole-bounded shows backed expiry looks = all-within [] whole (λ x (k, below, is). absurd (omega arith)) (λ x has. has) shows backed expiry looks
