-- The turn of a link of the monitor that hands over a login: one login more is known, and its link has sent AUTH_SIGNATURE alone. Where the save fails, nothing is
-- sealed or signed; but the keys are drawn, and the link has them.
use Rattle.std.proofs.Common.{◌≡◌, ℕ, List, ◌∷◌, ◌++◌, length, take, Option, Some, None, inr, refl, sym, subst}
use Rattle.std.specs.List.{AllByRecursion}
use Rattle.std.specs.Option.{option_map}
use Rattle.std.specs.Prelude.{IfSome, find}
use Rattle.cx_base.specs.Names.{Name}
use Rattle.cx_base.specs.declared.kinds.EntityType.{EntityType}
use Rattle.cx_base.specs.declared.kinds.EntityType.TheVariants.{Auth}
use Rattle.cx_base.specs.declared.nodes.NodeName.TheVariants as node
use Rattle.cx_dice.specs.Draws.{connection_of, session_of}
use Rattle.cx_enc.specs.declared.keys.Key.{Key}
use Rattle.cx_journal.specs.declared.entries.Entry.{Entry}
use Rattle.cx_keyring.specs.Entries.{is_named}
use Rattle.cx_keyring.specs.declared.entries.Entry.{Entry as Principal}
use Rattle.cx_laws_run.specs.cx_keyserver.specs.Servers.{Server, generations_of}
use Rattle.cx_laws_run.specs.cx_laws_keys.proofs.keys.Known.{HasLogin}
use Rattle.cx_laws_run.specs.cx_laws_keys.proofs.keys.Premises.{behind}
use Rattle.cx_laws_run.specs.cx_laws_keys.proofs.keys.Uses.{AreGenerated, AtMonitor, Connected, Grows, Login, Means, Secret, Use, Uses, WholeRun}
use Rattle.cx_laws_run.specs.cx_laws_keys.proofs.login.Facts.{BearerOk, StageOk}
use Rattle.cx_laws_run.specs.cx_laws_keys.proofs.login.Named.{found_secret}
use Rattle.cx_laws_run.specs.cx_rules.specs.Acceptor.{AwaitsSignature}
use Rattle.cx_laws_run.specs.cx_rules.specs.Judged.{LogsDraw, LogsLink, LogsStage}
use Rattle.cx_laws_run.specs.cx_rules.specs.Links.{Link}
use Rattle.cx_laws_run.specs.cx_rules.specs.Monitor.{MonitorArrival, MonitorRow, MonitorStage}
use Rattle.cx_laws_run.specs.cx_rules.specs.Rows.{links_behind}
use Rattle.cx_laws_run.specs.cx_rules.specs.Verdicts.{key_of}
use Rattle.cx_laws_run.specs.cx_run.specs.Points.{Point}
use Rattle.cx_steps.specs.declared.seals.DrawMark.TheVariants as draw
use Rattle.cx_steps.specs.declared.seals.Logged.{Logged}
use Rattle.cx_steps.specs.declared.seals.SealEntry.{SealEntry}
use Rattle.cx_laws_run.specs.cx_laws_tickets.proofs.fetch.AskedKnown.{Told}
use Rattle.cx_laws_run.specs.cx_laws_tickets.proofs.fetch.AskedMoving.{Quiets}
use Rattle.cx_laws_run.specs.cx_laws_tickets.proofs.fetch.Handed.{AreHanded}
use Rattle.cx_laws_run.specs.cx_laws_tickets.proofs.fetch.HeardFrames.{HeardAnswer, LinkHeard}
use Rattle.cx_laws_run.specs.cx_laws_tickets.proofs.fetch.MonitorHands.{HandsOver}
use Rattle.cx_laws_run.specs.cx_laws_tickets.proofs.fetch.PointEvents.{events_of, more-events}
use Rattle.cx_laws_run.specs.cx_laws_tickets.proofs.fetch.Retied.{Handed, StayHanded, grows-retied, inv-retied, retied}
use Rattle.cx_laws_run.specs.cx_laws_tickets.proofs.fetch.SameChallenge.{TellsChallenge, heard-tells}
use Rattle.cx_laws_run.specs.cx_laws_tickets.proofs.fetch.ToldStays.{SealsNone, told-stays}
use Rattle.cx_laws_run.proofs.cover.MonitorQuiet.{MonitorReady, inv-here}
use Rattle.cx_laws_run.proofs.cover.MonitorStays.{monitor_has-stays}
use Rattle.cx_laws_run.proofs.cover.OtherLinks.{behind-others, put-itself}
use Rattle.cx_laws_run.proofs.cover.State.{MonitorHas}
use Rattle.cx_laws_run.proofs.cover.Steps.{MonitorBehind}

-- ---- one login more

module _ (run : WholeRun) (whole : List Logged) (us vs : Uses) (logins : List Handed) (told : Told) (past : List Point) (p : Point) (log : List Logged) (J K : List Entry)
    (es : List SealEntry) (number : ℕ) (bytes : List ℕ) (row : MonitorRow)
    (r : MonitorReady run whole us vs logins told past p log J K es row.own (links_behind p.nodes.monitor.links number bytes row.link)) where
  abbrev links : List (Link MonitorStage)
  links = links_behind p.nodes.monitor.links number bytes row.link

  abbrev later : List Logged
  later = behind node.Monitor p.happening.line es log

  -- of each link that the row leaves, what is so of all links behind it
  left-has : (P : Link MonitorStage → Type 0) → AllByRecursion P links → (l : Link MonitorStage) → row.link ≡ Some l → P (record l { sent = l.sent ++ bytes })
  left-has P all l is =
      put-itself P (record l { sent = l.sent ++ bytes }) p.nodes.monitor.links
      (subst (λ (o : Option (Link MonitorStage)). AllByRecursion P (links_behind p.nodes.monitor.links number bytes o)) is all)

  -- where nothing is sealed under the key of a login but with the number 0, and what was handed over is known
  module _ (new : Handed) (stay : StayHanded us logins (new ∷ logins)) (none : SealsNone (retied (new ∷ logins) vs) es) (handed : AreHanded (retied (new ∷ logins) vs) (new ∷ logins) later)
      (left : IfSome row.link (λ (l : Link MonitorStage). (l.number ≡ number) × MonitorHas run (retied (new ∷ logins) vs) told later number l.stage)) where
    abbrev ws : Uses
    ws = retied (new ∷ logins) vs

    one : (k : List ℕ) (u v : Use) → Means ws k u → Means ws k v → u ≡ v
    one = (inv-retied (new ∷ logins) vs K run whole later r.inv_behind).one

    grows : Grows (retied logins us) ws
    grows = grows-retied us vs logins (new ∷ logins) stay r.grows

    abbrev Had : Link MonitorStage → Type 0
    Had l = MonitorHas run (retied logins us) told log l.number l.stage

    abbrev Has : Link MonitorStage → Type 0
    Has l = MonitorHas run ws told later l.number l.stage

    still-has : (l : Link MonitorStage) → (l.number ≡ number → ⊥) → Had l → Has l
    still-has l apart h =
        monitor_has-stays run whole (retied logins us) ws log J node.Monitor p.happening.line es one grows (inv-here run whole us vs logins told past p log J K es row.own links r)
        (events_of past) (events_of (p ∷ past)) (more-events p past) told r.has.known_of told Quiets l.number l.stage
        (λ key name challenge m.
        (tt, (none key (name, challenge, record { number = l.number; means = grows.means key (Connected node.Monitor l.number name (AtMonitor challenge)) m })).1)) h

    pub login-behind : MonitorBehind run us vs logins told past p log es links
    login-behind = record {
      more = new ∷ logins;
      stay = stay;
      within = λ h has. inr has;
      next = told;
      moved = Quiets;
      apart = λ m link challenge drew key is. (tt, (none key (m, challenge, is)).0);
      known_of = told-stays run whole (retied logins us) ws log J node.Monitor p.happening.line es one grows (inv-here run whole us vs logins told past p log J K es row.own links r)
          (events_of past) (events_of (p ∷ past)) (more-events p past) told r.has.known_of none;
      handed = handed;
      monitor_has = behind-others Had Has number still-has p.nodes.monitor.links bytes row.link (by_link row.link left) r.has.monitor;
    }
      where
        by_link : (o : Option (Link MonitorStage)) → IfSome o (λ (l : Link MonitorStage). (l.number ≡ number) × MonitorHas run ws told later number l.stage)
            → IfSome o (λ (l : Link MonitorStage). (l.number ≡ number) × Has (record l { sent = l.sent ++ bytes }))
        by_link None h = tt
        by_link (Some l) h = (h.0, subst (λ (k : ℕ). MonitorHas run ws told later k l.stage) (sym h.0) h.1)

  -- ---- what the row hands over

  module _ (a : MonitorArrival) (h : HandsOver a row) (numbered : a.link.number ≡ number) (block : a.draw ≡ p.happening.draw) (logs : LogsLink a row.seals row.link) where
    abbrev goes : Link MonitorStage
    goes = record a.link { stage = AwaitsSignature h.secured h.bearer }

    pub drawn : length a.draw ≡ 384
    drawn = subst (λ (b : List ℕ). length b ≡ 384) (sym block) r.drawn

    bearer : BearerOk r.owner_behind vs h.secured.keys h.bearer
    bearer = left-has (λ (l : Link MonitorStage). StageOk r.owner_behind vs l.stage) r.standing_behind goes h.goes

    pub heard : HeardAnswer a.link.received a.link.taken
    heard = left-has LinkHeard r.heard_behind goes h.goes

    logged-so : LogsStage a row.seals (AwaitsSignature h.secured h.bearer)
    logged-so = subst (λ (o : Option (Link MonitorStage)). LogsLink a row.seals o) h.goes logs

    pub session_means : Means vs (session_of Auth a.draw) (Login h.name)
    session_means = subst (λ (n : Name). Means vs (session_of Auth a.draw) (Login n)) h.named (subst (λ (k : List ℕ). Means vs k (Login h.bearer.name)) h.session_is bearer.session)

    pub session_drawn : LogsDraw (draw.Session (session_of Auth a.draw) h.name) row.seals
    session_drawn = subst (λ (n : Name). LogsDraw (draw.Session (session_of Auth a.draw) n) row.seals) h.named logged-so.3

    pub key_drawn : LogsDraw (draw.Connection (connection_of a.draw) h.bearer.name) row.seals
    key_drawn = logged-so.1

    pub generated-so : (service : EntityType) → AreGenerated vs service (generations_of h.server.state service)
    generated-so service = subst (λ (s : Server). AreGenerated vs service (generations_of s.state service)) h.server_is (r.generated service)

    pub secret-so : (key : Key) → key_of h.server h.name ≡ Some key → Means vs key.secret (Secret h.name)
    secret-so key is = by_found (find (is_named h.name) h.server.ring) refl is
      where
        ring : AllByRecursion (λ (q : Principal). Means vs q.key.secret (Secret q.name)) h.server.ring
        ring = subst (λ (s : Server). AllByRecursion (λ (q : Principal). Means vs q.key.secret (Secret q.name)) s.ring) h.server_is r.ring

        by_found : (found : Option Principal) → find (is_named h.name) h.server.ring ≡ found → option_map (λ (q : Principal). q.key) found ≡ Some key → Means vs key.secret (Secret h.name)
        by_found None at e = absurd cc
        by_found (Some q) at e =
            let same : q.key ≡ key = cc in subst (λ (k : Key). Means vs k.secret (Secret h.name)) same (found_secret vs h.name h.server.ring q ring at)

    -- the key of the link is that of a login
    pub login-so : HasLogin vs h.name (take 16 (connection_of a.draw))
    login-so = subst (λ (k : List ℕ). HasLogin vs h.name k) logged-so.0 (subst (λ (n : Name). HasLogin vs n h.secured.keys.key) h.named bearer.login)

    abbrev pub challenge : ℕ
    challenge = heard.challenge

    pub tells : TellsChallenge heard.challenge (take a.link.taken a.link.received)
    tells = heard-tells a.link.received a.link.taken heard
