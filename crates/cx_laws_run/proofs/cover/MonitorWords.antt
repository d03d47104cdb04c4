-- A row of a link of the monitor that has keys, where what it says was said: all stays known, and the other links keep what they have.
use Rattle.std.proofs.Common.{◌≡◌, ℕ, false, List, [], ◌∷◌, ◌++◌, Option, Some, None, inl, inr, refl, sym, ap, ◌∙◌, subst}
use Rattle.std.specs.Prelude.{IfSome}
use Rattle.std.specs.List.{AllByRecursion}
use Rattle.std.specs.Str.{bytes_eq}
use Rattle.cx_base.specs.Names.{Name}
use Rattle.cx_base.specs.declared.nodes.NodeName.TheVariants as node
use Rattle.cx_journal.specs.declared.entries.Entry.{Entry}
use Rattle.cx_laws_run.specs.cx_laws_keys.proofs.keys.Premises.{behind}
use Rattle.cx_laws_run.specs.cx_laws_keys.proofs.keys.Uses.{AtMonitor, Connected, Means, Uses, WholeRun}
use Rattle.cx_laws_run.specs.cx_laws_keys.proofs.series.Contents.{contents_by}
use Rattle.cx_laws_run.specs.cx_rules.specs.Links.{Link}
use Rattle.cx_laws_run.specs.cx_rules.specs.Monitor.{Monitor, MonitorRow, MonitorStage}
use Rattle.cx_laws_run.specs.cx_rules.specs.Rows.{links_behind}
use Rattle.cx_laws_run.specs.cx_rules.specs.Secured.{Secured}
use Rattle.cx_laws_run.specs.cx_run.specs.Points.{Point}
use Rattle.cx_steps.specs.declared.seals.Logged.{Logged}
use Rattle.cx_steps.specs.declared.seals.SealEntry.{SealEntry}
use Rattle.cx_laws_run.specs.cx_laws_tickets.proofs.fetch.AskedKnown.{IsBearing, Told}
use Rattle.cx_laws_run.specs.cx_laws_tickets.proofs.fetch.AskedMoving.{GivesUnder, IsNotGiven, Moved, gives-alone, gives-apart}
use Rattle.cx_laws_run.specs.cx_laws_tickets.proofs.fetch.AskedWords.{Given, given_frame}
use Rattle.cx_laws_run.specs.cx_laws_tickets.proofs.fetch.Handed.{IsPlain, handed-stays}
use Rattle.cx_laws_run.specs.cx_laws_tickets.proofs.fetch.Later.{IsEnd, acceptors-apart, next-frame, of_acceptor, of_connector}
use Rattle.cx_laws_run.specs.cx_laws_tickets.proofs.fetch.MonitorMoves.{IsAnyLogin, MonitorMoves, both-none}
use Rattle.cx_laws_run.specs.cx_laws_tickets.proofs.fetch.PointEvents.{events_of, more-events}
use Rattle.cx_laws_run.specs.cx_laws_tickets.proofs.fetch.Retied.{Handed, retied}
use Rattle.cx_laws_run.specs.cx_laws_tickets.proofs.fetch.RowOthers.{numbers-apart}
use Rattle.cx_laws_run.specs.cx_laws_tickets.proofs.fetch.RowWords.{RowSays}
use Rattle.cx_laws_run.proofs.cover.MonitorQuiet.{MonitorReady, grows-here, inv-here, one-behind}
use Rattle.cx_laws_run.proofs.cover.MonitorStays.{monitor_has-stays}
use Rattle.cx_laws_run.proofs.cover.OtherLinks.{behind-others}
use Rattle.cx_laws_run.proofs.cover.State.{MonitorHas}
use Rattle.cx_laws_run.proofs.cover.Steps.{MonitorBehind}

-- what the monitor says under one of its keys is none of what those that log in seal
pub row-connector : (P : List ℕ → Type 0) (Kept : Option Given → Secured → Link MonitorStage → Type 0) (Tells : Given → Type 0) (s : Secured) (row : MonitorRow)
    → RowSays given_frame P Kept Tells s row → IsEnd of_acceptor s.keys.out.fixed → (key : List ℕ) → P key → contents_by key of_connector row.seals ≡ []
row-connector P Kept Tells s row (inl h) out key p = h.still key of_connector p
row-connector P Kept Tells s row (inr h) out key p =
    ap (λ (es : List SealEntry). contents_by key of_connector es) h.seals
    ∙ both-none key of_connector h.before h.sealed.seals (h.still key of_connector p)
    ((next-frame of_acceptor s.keys (given_frame h.word) h.sealed out h.made).apart key of_connector (acceptors-apart s.keys.out.fixed out))

module _ (run : WholeRun) (whole : List Logged) (us vs : Uses) (logins : List Handed) (told : Told) (past : List Point) (p : Point) (log : List Logged) (J K : List Entry)
    (es : List SealEntry) (own : Monitor) (links : List (Link MonitorStage)) (r : MonitorReady run whole us vs logins told past p log J K es own links) (number : ℕ) (name : Name) (key : List ℕ)
    (challenge : ℕ) (means : Means (retied logins us) key (Connected node.Monitor number name (AtMonitor challenge)))
    (others : (other : List ℕ) → IsAnyLogin (retied logins vs) other → bytes_eq key other ≡ false → contents_by other of_acceptor es ≡ []) where
  abbrev later : List Logged
  later = behind node.Monitor p.happening.line es log

  abbrev Had : Link MonitorStage → Type 0
  Had l = MonitorHas run (retied logins us) told log l.number l.stage

  module _ (next : Told) (moved : Moved told next) (only : GivesUnder moved key) where
    abbrev Has : Link MonitorStage → Type 0
    Has l = MonitorHas run (retied logins vs) next later l.number l.stage

    -- nothing is said at a link of another number
    untouched : (l : Link MonitorStage) → (l.number ≡ number → ⊥) → (other : List ℕ) (whose : Name) (c : ℕ) → Means (retied logins us) other (Connected node.Monitor l.number whose (AtMonitor c))
        → IsNotGiven moved other × (contents_by other of_acceptor es ≡ [])
    untouched l apart other whose c m =
        let off : bytes_eq key other ≡ false =
        numbers-apart (retied logins us) (inv-here run whole us vs logins told past p log J K es own links r).one key number name challenge means other l.number whose c m (λ e. apart (sym e)) in (
          gives-apart told next moved key other only off,
          others other
              (whose, c, record { number = l.number; means = (grows-here run whole us vs logins told past p log J K es own links r).means other (Connected node.Monitor l.number whose (AtMonitor c)) m })
              off,
        )

    pub other-links : (l : Link MonitorStage) → (l.number ≡ number → ⊥) → Had l → Has l
    other-links l apart h =
        monitor_has-stays run whole (retied logins us) (retied logins vs) log J node.Monitor p.happening.line es (one-behind run whole us vs logins told past p log J K es own links r)
        (grows-here run whole us vs logins told past p log J K es own links r) (inv-here run whole us vs logins told past p log J K es own links r) (events_of past) (events_of (p ∷ past))
        (more-events p past) told r.has.known_of next moved l.number l.stage (untouched l apart) h

    -- all links behind a row of this one
    pub row-links : (bytes : List ℕ) (left : Option (Link MonitorStage)) → IfSome left (λ (l : Link MonitorStage). (l.number ≡ number) × MonitorHas run (retied logins vs) next later number l.stage)
        → AllByRecursion Has (links_behind p.nodes.monitor.links number bytes left)
    row-links bytes left here =
        behind-others Had Has number other-links p.nodes.monitor.links bytes left (by_link left here) r.has.monitor
      where
        by_link : (l : Option (Link MonitorStage)) → IfSome l (λ (x : Link MonitorStage). (x.number ≡ number) × MonitorHas run (retied logins vs) next later number x.stage)
            → IfSome l (λ (x : Link MonitorStage). (x.number ≡ number) × Has (record x { sent = x.sent ++ bytes }))
        by_link None h = tt
        by_link (Some x) h = (h.0, subst (λ (k : ℕ). MonitorHas run (retied logins vs) next later k x.stage) (sym h.0) h.1)

  -- behind a row that says what is known then
  module _ (Kept : Option Given → Secured → Link MonitorStage → Type 0) (row : MonitorRow)
      (moves : MonitorMoves Kept run (events_of (p ∷ past)) (retied logins vs) told later number name key row)
      (connector : (other : List ℕ) → IsAnyLogin (retied logins vs) other → contents_by other of_connector es ≡ []) (plain : AllByRecursion (IsPlain (retied logins vs)) es)
      (keeps : (l : Link MonitorStage) (word : Option Given) (u : Secured) → Kept word u l → IsBearing run (retied logins vs) moves.next later number u name
      → (l.number ≡ number) × MonitorHas run (retied logins vs) moves.next later number l.stage) where
    pub moves-behind : (bytes : List ℕ) → MonitorBehind run us vs logins told past p log es (links_behind p.nodes.monitor.links number bytes row.link)
    moves-behind bytes = record {
      more = logins;
      stay = λ other acceptor n whose c m. refl;
      within = λ h has. has;
      next = moves.next;
      moved = moves.moved;
      apart = λ m link c drew other is. (gives-alone told moves.next moves.moved key other moves.only, connector other (m, c, is));
      known_of = moves.known;
      handed = handed-stays run whole (retied logins us) (retied logins vs) log J node.Monitor p.happening.line es (one-behind run whole us vs logins told past p log J K es own links r)
          (grows-here run whole us vs logins told past p log J K es own links r) (inv-here run whole us vs logins told past p log J K es own links r) logins r.has.handed plain;
      monitor_has = row-links moves.next moves.moved moves.only bytes row.link (by_link row.link moves.link);
    }
      where
        by_link : (l : Option (Link MonitorStage))
            → IfSome l (λ (x : Link MonitorStage). (word : Option Given) × (u : Secured) × Kept word u x × IsBearing run (retied logins vs) moves.next later number u name)
            → IfSome l (λ (x : Link MonitorStage). (x.number ≡ number) × MonitorHas run (retied logins vs) moves.next later number x.stage)
        by_link None h = tt
        by_link (Some x) (word, u, kept, bearing) = keeps x word u kept bearing
