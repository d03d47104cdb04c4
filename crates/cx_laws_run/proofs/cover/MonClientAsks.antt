-- A request that one that logs in makes on an open link to the monitor, where nothing was read: it is said on that link, and all stays known.
use Rattle.std.proofs.Common.{◌≡◌, ℕ, List, ◌∷◌, ◌++◌, Option, inl, sym, ◌∙◌}
use Rattle.cx_base.specs.Names.{Name}
use Rattle.cx_base.specs.declared.nodes.NodeName.{NodeName}
use Rattle.cx_base.specs.declared.nodes.NodeName.TheVariants as node
use Rattle.cx_journal.specs.declared.entries.Entry.{Entry}
use Rattle.cx_laws_run.proofs.cover.MonClientBehind.{MonClientBehind, MonClientReady, mon_client-says}
use Rattle.cx_laws_run.specs.cx_laws_tickets.proofs.fetch.AskedKnown.{MonClientTold, IsMonClient, Told}
use Rattle.cx_laws_run.specs.cx_laws_tickets.proofs.fetch.AskedWords.{Asked}
use Rattle.cx_laws_run.specs.cx_laws_tickets.proofs.fetch.MonClientMoves.{words_of}
use Rattle.cx_laws_run.specs.cx_laws_tickets.proofs.fetch.MonClientPlain.{request-plain}
use Rattle.cx_laws_run.specs.cx_laws_tickets.proofs.fetch.MonClientRequests.{rotating-moves, tickets-moves}
use Rattle.cx_laws_run.specs.cx_laws_tickets.proofs.fetch.MonClientSays.{IsSaidAt, KeepsOpen, rotating-says, tickets-says}
use Rattle.cx_laws_run.specs.cx_laws_tickets.proofs.fetch.MonClientTurn.{open-told}
use Rattle.cx_laws_run.specs.cx_laws_tickets.proofs.fetch.HandedLogin.{no-login}
use Rattle.cx_laws_run.specs.cx_laws_tickets.proofs.fetch.MonitorMoves.{IsAnyLogin}
use Rattle.cx_laws_run.specs.cx_laws_tickets.proofs.fetch.PointEvents.{events_of, more-events}
use Rattle.cx_laws_run.specs.cx_laws_tickets.proofs.fetch.Retied.{Handed}
use Rattle.cx_laws_run.specs.cx_laws_tickets.proofs.fetch.Words.{said_under}
use Rattle.cx_laws_run.specs.cx_laws_keys.proofs.keys.Premises.{behind}
use Rattle.cx_laws_run.specs.cx_laws_keys.proofs.keys.Uses.{AtMonitor, Connected, Means, Use, Uses, WholeRun}
use Rattle.cx_laws_run.specs.cx_rules.specs.Connector.{Open}
use Rattle.cx_laws_run.specs.cx_rules.specs.Holdings.{MonClient}
use Rattle.cx_laws_run.specs.cx_rules.specs.Links.{Link}
use Rattle.cx_laws_run.specs.cx_rules.specs.Requests.{Requests, asks_rotating, asks_tickets}
use Rattle.cx_laws_run.specs.cx_rules.specs.Rows.{Arrival, Row}
use Rattle.cx_laws_run.specs.cx_rules.specs.Secured.{Secured}
use Rattle.cx_laws_run.specs.cx_rules.specs.declared.requests.Want.TheVariants as want
use Rattle.cx_laws_run.specs.cx_run.specs.Points.{Point}
use Rattle.cx_steps.specs.declared.seals.Logged.{Logged}
use Rattle.cx_laws_run.specs.cx_wire.specs.declared.bodies.Request.TheVariants as asked

-- the link is open, with what it has of its requests
abbrev pub HasOpen : {S : Type 0} → Uses → List Point → Name → ℕ → (Secured → Requests → S) → Told → List Logged → List ℕ → S → Type 0
HasOpen vs points name link open_with next later sent stage =
    (u : Secured) × (w : Requests) × (stage ≡ open_with u w) × MonClientTold (events_of points) vs next later name link (Open u w)

module _ (run : WholeRun) (whole : List Logged) (us vs : Uses) (logins : List Handed) (told : Told) (past : List Point) (p : Point) (name : Name) (log : List Logged) (J : List Entry)
    (r : MonClientReady run whole us vs logins told past p name log J) (link : ℕ) {S : Type 0} (open_with : Secured → Requests → S) (a : Arrival MonClient S) (here : a.link.number ≡ link)
    (reads : a.reading ≡ p.happening.reading) (s : Secured) (q : Requests) (so : MonClientTold (events_of past) us told log name link (Open s q)) where
  abbrev n : NodeName
  n = node.Entity name

  abbrev line : ℕ
  line = p.happening.line

  abbrev pub Opens : Told → List Logged → List ℕ → S → Type 0
  Opens next later sent stage = HasOpen vs (p ∷ past) name link open_with next later sent stage

  abbrev Behind : Row MonClient S → Type 0
  Behind row = MonClientBehind Opens run us vs logins told past p name log link row

  now : (events_of (p ∷ past)).was_asked name a.reading
  now = inl (record { daemon_is = r.here; reading = sym reads })

  abbrev use_of : Use
  use_of = Connected node.Monitor so.0.is.number name (AtMonitor so.0.challenge)

  means : Means vs s.keys.key use_of
  means = r.grows.means s.keys.key use_of so.0.is.means

  open-has : (later : List Logged) (sent : List ℕ) (next : Told) (l : Link S) (word : Option Asked) (u : Secured) → KeepsOpen open_with a.link.number q word u l
      → IsMonClient (events_of (p ∷ past)) vs next later name link u → u.keys.key ≡ s.keys.key → said_under s.keys.key next.asked ≡ said_under s.keys.key told.asked ++ words_of word
      → (l.number ≡ link) × Opens next later sent l.stage
  open-has later sent next l word u kept mon_client same said = (
    kept.0 ∙ here,
    (u, kept.1, kept.2, open-told (events_of (p ∷ past)) vs told next later name link s.keys.key q kept.1 word u kept.3 mon_client same said so.1 so.2),
  )

  -- for generations
  pub rotating-behind : Behind (asks_rotating open_with a s q)
  rotating-behind =
      let row : Row MonClient S = asks_rotating open_with a s q in
      let moves = rotating-moves run whole us vs log J n line r.one r.grows r.inv (events_of past) (events_of (p ∷ past)) (more-events p past) told r.known_of name link s q so open_with a now in
      mon_client-says run whole us vs logins told past p name log J r link Opens (KeepsOpen open_with a.link.number q) (IsSaidAt a.reading q.count) s so.0.challenge so.0.is so.0.drew so.0.out row
      (rotating-says open_with (IsAnyLogin vs) a s q) moves
      (request-plain vs s use_of means (no-login node.Monitor so.0.is.number name (AtMonitor so.0.challenge)) open_with a q (want.Rotating a.reading) asked.Rotating)
      (λ l word u kept mon_client same said. open-has (behind n line row.seals log) (l.sent ++ row.sends) moves.next l word u kept mon_client same said)

  -- for tickets
  pub tickets-behind : (services : ℕ) → Behind (asks_tickets open_with a s q services)
  tickets-behind services =
      let row : Row MonClient S = asks_tickets open_with a s q services in
      let moves = tickets-moves run whole us vs log J n line r.one r.grows r.inv (events_of past) (events_of (p ∷ past)) (more-events p past) told r.known_of name link s q so open_with a now services in
      mon_client-says run whole us vs logins told past p name log J r link Opens (KeepsOpen open_with a.link.number q) (IsSaidAt a.reading q.count) s so.0.challenge so.0.is so.0.drew so.0.out row
      (tickets-says open_with (IsAnyLogin vs) a s q services) moves
      (request-plain vs s use_of means (no-login node.Monitor so.0.is.number name (AtMonitor so.0.challenge)) open_with a q want.Tickets (asked.Tickets services))
      (λ l word u kept mon_client same said. open-has (behind n line row.seals log) (l.sent ++ row.sends) moves.next l word u kept mon_client same said)
