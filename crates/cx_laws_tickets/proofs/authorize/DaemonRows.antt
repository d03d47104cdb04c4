-- What is said of a daemon, and of each of its links with the link's number; and that it stays so behind rows and steps.
use Rattle.std.proofs.Common.{◌≡◌, ℕ, ◌==◌, Bool, true, false, cond, List, [], ◌∷◌, ◌++◌, filter, Option, Some, None}
use Rattle.std.specs.Prelude.{nat_lt, not, IfSome}
use Rattle.std.specs.List.{AllByRecursion}
use Rattle.cx_base.specs.declared.nodes.NodeName.{NodeName}
use Rattle.cx_journal.specs.declared.entries.Entry.{Entry}
use Rattle.cx_laws_keys.specs.cx_rules.specs.Acceptor.{AwaitsBanner, AwaitsHello, AwaitsRequest, AwaitsProof, AwaitsSignature, AwaitsIdent, Open}
use Rattle.cx_laws_keys.specs.cx_rules.specs.Connector as connector
use Rattle.cx_laws_keys.specs.cx_rules.specs.Holdings.{MonClient}
use Rattle.cx_laws_keys.specs.cx_rules.specs.Links.{Link, link_of, put_link, without_link}
use Rattle.cx_laws_keys.specs.cx_rules.specs.Requests.{Requests, first_open, open_or}
use Rattle.cx_laws_keys.specs.cx_rules.specs.Rows.{Arrival, Outcome, Row, Turned, Waits, Refuses, Handles, carried_out, idles, links_behind, refuses_bytes, turns}
use Rattle.cx_laws_keys.specs.cx_rules.specs.Secured.{Secured}
use Rattle.cx_run.specs.cx_rules_session.specs.DaemonRule.{AsAcceptor, AsConnector, Daemon, DaemonNode, DaemonStage, asking_open}
use Rattle.cx_run.specs.cx_rules_session.specs.IncomingLinks.{IncomingStage}
use Rattle.cx_laws_keys.specs.cx_steps.specs.declared.seals.Logged.{Logged}
use Rattle.cx_laws_tickets.proofs.authorize.Keys.{StageKeys, host-grows}
use Rattle.cx_laws_keys.proofs.keys.Journal.{After}
use Rattle.cx_laws_keys.proofs.keys.Known.{Inv}
use Rattle.cx_laws_keys.proofs.keys.Lists.{all-append, all-map}
use Rattle.cx_laws_keys.proofs.keys.Premises.{AreGranted}
use Rattle.cx_laws_keys.proofs.keys.Uses.{Grows, Uses, WholeRun, stays}
use Rattle.cx_laws_keys.proofs.login.Facts.{MonClientOk, MonClientStageOk, HasMonitorKey, mon_client-entered, mon_client_stage-grows}
use Rattle.cx_laws_keys.proofs.login.Rows.{AfterRow, Allowed, LinkOk, Saying, after-simple, all-filter, simple-refuses_bytes}

-- clients come to daemons in this run
abbrev pub IncomingLinksCome : WholeRun → Type 0
IncomingLinksCome run = run.incoming_links ≡ false → ⊥

-- of a link of this number
abbrev pub DaemonStageOk : WholeRun → Uses → NodeName → ℕ → DaemonStage → Type 0
DaemonStageOk run us n number (AsAcceptor stage) = StageKeys us n number stage × IncomingLinksCome run
DaemonStageOk run us n number (AsConnector stage) = MonClientStageOk us n stage

stage_keys-grow : (us vs : Uses) (n : NodeName) (number : ℕ) (stage : IncomingStage) → Grows us vs → StageKeys us n number stage → StageKeys vs n number stage
stage_keys-grow us vs n number AwaitsBanner f h = tt
stage_keys-grow us vs n number AwaitsHello f h = tt
stage_keys-grow us vs n number AwaitsRequest f h = tt
stage_keys-grow us vs n number (AwaitsProof awaited) f h = tt
stage_keys-grow us vs n number (AwaitsSignature s owner) f h = host-grows us vs n number s.keys owner.ticket.name f h
stage_keys-grow us vs n number (AwaitsIdent s owner) f h = host-grows us vs n number s.keys owner.ticket.name f h
stage_keys-grow us vs n number (Open s served) f h = (h.0, host-grows us vs n number s.keys h.0 f h.1)

pub daemon_stage-grows : (run : WholeRun) (us vs : Uses) (n : NodeName) (number : ℕ) (stage : DaemonStage) → Grows us vs → DaemonStageOk run us n number stage → DaemonStageOk run vs n number stage
daemon_stage-grows run us vs n number (AsAcceptor stage) f h = (stage_keys-grow us vs n number stage f h.0, h.1)
daemon_stage-grows run us vs n number (AsConnector stage) f h = mon_client_stage-grows us vs n stage f h

-- of what a daemon has of its own, and of stages of links of any number
abbrev pub daemon_says : WholeRun → List Entry → NodeName → Saying Daemon DaemonStage
daemon_says run first n = record {
  Owns = λ us J daemon. MonClientOk run first us J daemon.mon_client;
  Stands = λ us stage. (number : ℕ) → DaemonStageOk run us n number stage;
  own_enters = λ us J daemon e other h. mon_client-entered run first us J daemon.mon_client e other h;
  stage_grows = λ us vs stage f st number. daemon_stage-grows run us vs n number stage f (st number);
}

-- the same as one that asks
abbrev pub kind_says : WholeRun → List Entry → NodeName → Saying MonClient DaemonStage
kind_says run first n = record {
  Owns = MonClientOk run first;
  Stands = λ us stage. (number : ℕ) → DaemonStageOk run us n number stage;
  own_enters = mon_client-entered run first;
  stage_grows = λ us vs stage f st number. daemon_stage-grows run us vs n number stage f (st number);
}

-- ---- of each link with its number

module _ (run : WholeRun) (n : NodeName) where
  abbrev pub LinkHas : Uses → Option (Link DaemonStage) → Type 0
  LinkHas us (Some link) = DaemonStageOk run us n link.number link.stage
  LinkHas us None = Unit {0}

  abbrev pub LinksHave : Uses → List (Link DaemonStage) → Type 0
  LinksHave us links = AllByRecursion (λ (l : Link DaemonStage). DaemonStageOk run us n l.number l.stage) links

  pub links-filtered : (us : Uses) (test : Link DaemonStage → Bool) (links : List (Link DaemonStage)) → LinksHave us links → LinksHave us (filter test links)
  links-filtered us test links h = all-filter (λ (l : Link DaemonStage). DaemonStageOk run us n l.number l.stage) test links h

  pub links-put : (us : Uses) (link : Link DaemonStage) (links : List (Link DaemonStage)) → LinksHave us links → DaemonStageOk run us n link.number link.stage → LinksHave us (put_link link links)
  links-put us link links h st =
      all-append (λ (l : Link DaemonStage). DaemonStageOk run us n l.number l.stage) (filter (λ (l : Link DaemonStage). nat_lt l.number link.number) links) _
      (links-filtered us (λ (l : Link DaemonStage). nat_lt l.number link.number) links h) (st, links-filtered us (λ (l : Link DaemonStage). nat_lt link.number l.number) links h)

  pub links-without : (us : Uses) (number : ℕ) (links : List (Link DaemonStage)) → LinksHave us links → LinksHave us (without_link number links)
  links-without us number links h = links-filtered us (λ (l : Link DaemonStage). not (l.number == number)) links h

  links-follow : (us : Uses) (links : List (Link DaemonStage)) (number : ℕ) (bytes : List ℕ) (link : Option (Link DaemonStage)) → LinksHave us links → LinkHas us link
      → LinksHave us (links_behind links number bytes link)
  links-follow us links number bytes (Some link) h st = links-put us (record link { sent = link.sent ++ bytes }) links h st
  links-follow us links number bytes None h st = links-without us number links h

  pub daemon_links-grow : (us vs : Uses) (links : List (Link DaemonStage)) → Grows us vs → LinksHave us links → LinksHave vs links
  daemon_links-grow us vs links f h =
      all-map (λ (l : Link DaemonStage). DaemonStageOk run us n l.number l.stage) (λ (l : Link DaemonStage). DaemonStageOk run vs n l.number l.stage)
      (λ l st. daemon_stage-grows run us vs n l.number l.stage f st) links h

  -- the link of a number, where there is one
  pub link-found : (us : Uses) (number : ℕ) (links : List (Link DaemonStage)) → LinksHave us links → LinkHas us (link_of number links)
  link-found us number [] h = tt
  link-found us number (l ∷ links) h = by_test (l.number == number) (link-found us number links h.1)
    where
      by_test : (t : Bool) → LinkHas us (link_of number links) → LinkHas us (cond t (Some l) (link_of number links))
      by_test true rest = h.0
      by_test false rest = rest

  -- under the key of the link to the monitor that is open the daemon may seal, where there is one
  pub open-found : (us : Uses) (links : List (Link DaemonStage)) → LinksHave us links
      → IfSome (first_open asking_open links) (λ (f : Link DaemonStage × (Secured × Requests)). HasMonitorKey us n f.1.0.keys.key)
  open-found us [] all = tt
  open-found us (l ∷ links) all = by_stage l.stage all.0 (first_open asking_open links) (open-found us links all.1)
    where
      by_own : (stage : connector.Stage) → MonClientStageOk us n stage → (behind : Option (Link DaemonStage × (Secured × Requests)))
          → IfSome behind (λ (f : Link DaemonStage × (Secured × Requests)). HasMonitorKey us n f.1.0.keys.key)
          → IfSome (open_or l (connector.kept_open stage) behind) (λ (f : Link DaemonStage × (Secured × Requests)). HasMonitorKey us n f.1.0.keys.key)
      by_own (connector.AwaitsBanner asked) st behind rest = rest
      by_own (connector.AwaitsHello asked) st behind rest = rest
      by_own (connector.AwaitsChallenge asked) st behind rest = rest
      by_own connector.AwaitsDone st behind rest = rest
      by_own (connector.AwaitsSignature s login) st behind rest = rest
      by_own (connector.AwaitsIdent s session) st behind rest = rest
      by_own (connector.Open s requests) st behind rest = st

      by_stage : (stage : DaemonStage) → DaemonStageOk run us n l.number stage → (behind : Option (Link DaemonStage × (Secured × Requests)))
          → IfSome behind (λ (f : Link DaemonStage × (Secured × Requests)). HasMonitorKey us n f.1.0.keys.key)
          → IfSome (open_or l (asking_open stage) behind) (λ (f : Link DaemonStage × (Secured × Requests)). HasMonitorKey us n f.1.0.keys.key)
      by_stage (AsAcceptor stage) st behind rest = rest
      by_stage (AsConnector stage) st behind rest = by_own stage st behind rest

-- ---- of a daemon, and behind rows and steps of it

module _ (run : WholeRun) (first : List Entry) (n : NodeName) where
  abbrev Says : Saying Daemon DaemonStage
  Says = daemon_says run first n

  pub record DaemonHas (daemon : DaemonNode) (us : Uses) (J : List Entry) : Type 0 where
    pub own : MonClientOk run first us J daemon.own.mon_client
    pub links : LinksHave run n us daemon.links

  pub record RowHas (row : Row Daemon DaemonStage) (us : Uses) (J : List Entry) : Type 0 where
    pub own : MonClientOk run first us J row.own.mon_client
    pub link : LinkHas run n us row.link

  module _ (whole : List Logged) (line : ℕ) (us : Uses) (log : List Logged) (J : List Entry) where
    abbrev pub RowAfter : Row Daemon DaemonStage → Type 0
    RowAfter row = After run whole n line us log J row.seals row.entries (RowHas row)

    abbrev pub StepAfter : Outcome DaemonNode → Type 0
    StepAfter o = After run whole n line us log J o.out.seals o.out.entries (DaemonHas o.state)

    -- a row whose link has a stage that may be one of any number
    pub row-anywhere : (row : Row Daemon DaemonStage) → AfterRow Says run whole n line us log J row → RowAfter row
    row-anywhere row a = record { uses = a.uses; grows = a.grows; inv = a.inv; laws = a.laws; good = record { own = a.good.own; link = link a.uses row.link a.good.link } }
      where
        link : (vs : Uses) (l : Option (Link DaemonStage)) → LinkOk Says vs l → LinkHas run n vs l
        link vs (Some l) st = st l.number
        link vs None st = tt

    -- nothing is logged and nothing entered
    pub stays-idle : (daemon : DaemonNode) → Inv run whole us log J → DaemonHas daemon us J → StepAfter (idles daemon)
    stays-idle daemon i ok = record { uses = us; grows = stays us; inv = i; laws = tt; good = ok }

    pub row-carried : (daemon : DaemonNode) (number : ℕ) (turned : Bool) (row : Row Daemon DaemonStage) → LinksHave run n us daemon.links → RowAfter row
        → StepAfter (carried_out daemon number turned row)
    row-carried daemon number turned row links r = record {
      uses = r.uses;
      grows = r.grows;
      inv = r.inv;
      laws = r.laws;
      good = record {
        own = r.good.own;
        links = links-follow run n r.uses daemon.links number row.sends row.link (daemon_links-grow run n us r.uses daemon.links r.grows links) r.good.link;
      };
    }

    -- what is due of a turn
    abbrev pub TurnHas : Turned Daemon DaemonStage → Type 0
    TurnHas Waits = Unit {0}
    TurnHas (Refuses why opened) = Allowed us J n opened
    TurnHas (Handles row) = AreGranted run.leaked whole n line log row.seals → RowAfter row

    pub turn-carried : (daemon : DaemonNode) (a : Arrival Daemon DaemonStage) (turned : Turned Daemon DaemonStage) → Inv run whole us log J → DaemonHas daemon us J
        → MonClientOk run first us J a.own.mon_client → TurnHas turned → AreGranted run.leaked whole n line log (turns daemon a turned).out.seals → StepAfter (turns daemon a turned)
    turn-carried daemon a Waits i ok own t g = stays-idle daemon i ok
    turn-carried daemon a (Refuses why opened) i ok own t g =
        row-carried daemon a.link.number false (refuses_bytes a why opened) ok.links
        (row-anywhere (refuses_bytes a why opened) (after-simple Says run whole n line us log J (refuses_bytes a why opened) i (simple-refuses_bytes Says us J n a why opened own t)))
    turn-carried daemon a (Handles row) i ok own t g = row-carried daemon a.link.number true row ok.links (t g)
