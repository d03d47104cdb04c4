-- Each step of the monitor keeps all that is known of links to it, whatever comes to it and whether its save fails.
use Rattle.std.proofs.Common.{◌≡◌, ◌==◌, ℕ, Bool, true, false, nat_le, List, [], ◌++◌, length, Option, Some, None, refl, sym, ap, ◌∙◌, subst}
use Rattle.std.specs.Prelude.{if◌then◌else◌}
use Rattle.std.specs.List.{AllByRecursion}
use Rattle.cx_base.specs.declared.kinds.EntityType.{EntityType}
use Rattle.cx_base.specs.declared.nodes.NodeName.TheVariants as node
use Rattle.cx_journal.specs.declared.entries.Entry.{Entry}
use Rattle.cx_journal.specs.declared.outcomes.Reason.TheVariants.{LinksFull}
use Rattle.cx_laws_run.specs.cx_keyserver.specs.Servers.{generations_of}
use Rattle.cx_laws_run.specs.cx_laws_keys.proofs.keys.Journal.{entered}
use Rattle.cx_laws_run.specs.cx_laws_keys.proofs.keys.Lists.{found_all}
use Rattle.cx_laws_run.specs.cx_laws_keys.proofs.keys.Premises.{behind}
use Rattle.cx_laws_run.specs.cx_laws_keys.proofs.keys.Uses.{AreGenerated, Uses, WholeRun}
use Rattle.cx_laws_run.specs.cx_laws_keys.proofs.login.Facts.{AreSecrets, StageOk}
use Rattle.cx_laws_run.specs.cx_laws_keys.proofs.login.MonitorStep.{MonitorOk}
use Rattle.cx_words.specs.declared.choices.LeftState.{LeftState}
use Rattle.cx_words.specs.declared.choices.LeftState.TheVariants as left
use Rattle.cx_rotate.specs.declared.states.KeptState.{KeptState}
use Rattle.cx_laws_run.specs.cx_rules.specs.Acceptor.{AwaitsBanner}
use Rattle.cx_laws_run.specs.cx_rules.specs.Greetings.{own_banner}
use Rattle.cx_laws_run.specs.cx_rules.specs.Inputs.{Input, Opened, NoLink, Bytes, Turn, Gone, Look, Tick, Submit, Restart}
use Rattle.cx_laws_run.specs.cx_rules.specs.Links.{Link, link_of}
use Rattle.cx_laws_run.specs.cx_rules.specs.Monitor.{Monitor, MonitorNode, MonitorRow, MonitorStage}
use Rattle.cx_laws_run.specs.cx_rules.specs.MonitorRule.{monitor_rule, monitor_step, noted, opens}
use Rattle.cx_laws_run.specs.cx_rules.specs.Rows.{Outcome, arrival, carried_out, fed, forgotten, goes_on, new_link, refuses}
use Rattle.cx_laws_run.specs.cx_run.specs.Happenings.{Stepped, left_as, monitor_steps}
use Rattle.cx_laws_run.specs.cx_run.specs.Points.{Point, stepped_at}
use Rattle.cx_steps.specs.declared.seals.Logged.{Logged}
use Rattle.cx_steps.specs.declared.seals.SealEntry.{SealEntry}
use Rattle.cx_laws_run.specs.cx_laws_tickets.proofs.fetch.AskedKnown.{Told}
use Rattle.cx_laws_run.specs.cx_laws_tickets.proofs.fetch.HeardFrames.{AllHeard}
use Rattle.cx_laws_run.specs.cx_laws_tickets.proofs.fetch.Retied.{Handed, retied}
use Rattle.cx_laws_run.proofs.cover.MonitorEarly.{BehindOf, ReadyOf, silent-row}
use Rattle.cx_laws_run.proofs.cover.MonitorQuiet.{MonitorReady, left-silent, left_of, quiet-behind}
use Rattle.cx_laws_run.proofs.cover.MonitorTurns.{turn-behind}
use Rattle.cx_laws_run.proofs.cover.OtherLinks.{put-others, without-others}
use Rattle.cx_laws_run.proofs.cover.State.{MonitorHas}
use Rattle.cx_laws_run.proofs.cover.Steps.{MonitorBehind, MonitorStep, Ready}

-- ---- whatever comes

module _ (run : WholeRun) (whole : List Logged) (us vs : Uses) (logins : List Handed) (told : Told) (past : List Point) (p : Point) (log : List Logged) (J K : List Entry) (fails : Bool)
    (failed : (stepped_at p).failed ≡ fails) where
  abbrev Ready_ : Outcome MonitorNode → Type 0
  Ready_ o = ReadyOf run whole us vs logins told past p log J K fails o

  abbrev Behind_ : Outcome MonitorNode → Type 0
  Behind_ o = BehindOf run whole us vs logins told past p log J K fails o

  abbrev nm : MonitorNode
  nm = noted p.nodes.monitor

  -- what each link has behind a step that logs nothing
  abbrev Has : Link MonitorStage → Type 0
  Has l = MonitorHas run (retied logins vs) told (behind node.Monitor p.happening.line (left_of fails []) log) l.number l.stage

  -- a step that logs nothing
  nothing-logged : (own : Monitor) (links : List (Link MonitorStage)) → (AllByRecursion Has p.nodes.monitor.links → AllByRecursion Has links)
      → MonitorReady run whole us vs logins told past p log J K (left_of fails []) own links → MonitorBehind run us vs logins told past p log (left_of fails []) links
  nothing-logged own links moves r = quiet-behind run whole us vs logins told past p log J K (left_of fails []) own links r (left-silent fails [] tt) moves

  opens-behind : (number : ℕ) → Ready_ (opens nm p.happening.reading p.happening.draw (new_link number AwaitsBanner))
      → Behind_ (opens nm p.happening.reading p.happening.draw (new_link number AwaitsBanner))
  opens-behind number = by_test (nat_le 1024 (length nm.links))
    where
      by_test : (full : Bool) →
          let a = arrival node.Monitor nm.own (new_link number AwaitsBanner) p.happening.reading p.happening.draw in
          let row : MonitorRow = (if full then refuses a LinksFull [] else goes_on a AwaitsBanner own_banner []) in
          Ready_ (carried_out nm number false row) → Behind_ (carried_out nm number false row)
      by_test true r =
          silent-row run whole us vs logins told past p log J K fails number false
          (refuses (arrival node.Monitor nm.own (new_link number AwaitsBanner) p.happening.reading p.happening.draw) LinksFull []) tt tt r
      by_test false r =
          silent-row run whole us vs logins told past p log J K fails number false
          (goes_on (arrival node.Monitor nm.own (new_link number AwaitsBanner) p.happening.reading p.happening.draw) AwaitsBanner own_banner []) tt (refl, tt) r

  fed-behind : (number : ℕ) (bytes : List ℕ) (found : Option (Link MonitorStage)) → link_of number p.nodes.monitor.links ≡ found → Ready_ (fed nm bytes found) → Behind_ (fed nm bytes found)
  fed-behind number bytes None is r = nothing-logged nm.own nm.links (λ h. h) r
  fed-behind number bytes (Some link) is r =
      let more : Link MonitorStage = record link { received = link.received ++ bytes } in
      nothing-logged nm.own (fed nm bytes (Some link)).state.links
      (λ h. put-others Has Has link.number (λ l apart x. x) more nm.links refl (found_all Has (λ (l : Link MonitorStage). l.number == number) p.nodes.monitor.links link h is) h) r

  input-behind : (input : Input) → p.happening.input ≡ input → (fails ≡ true → (monitor_step nm input p.happening.reading p.happening.draw).out.save ≡ None → ⊥)
      → Ready_ (monitor_step nm input p.happening.reading p.happening.draw) → Behind_ (monitor_step nm input p.happening.reading p.happening.draw)
  input-behind (Opened number peer) is saves r = opens-behind number r
  input-behind (Bytes number bytes) is saves r = fed-behind number bytes (link_of number nm.links) refl r
  input-behind (Turn number) is saves r = turn-behind run whole us vs logins told past p log J K fails failed number is (link_of number nm.links) refl saves r
  input-behind (Gone number) is saves r = nothing-logged nm.own (forgotten nm number).links (λ h. without-others Has Has number (λ l apart x. x) nm.links h) r
  input-behind Restart is saves r = nothing-logged (monitor_step nm Restart p.happening.reading p.happening.draw).state.own [] (λ h. tt) r
  input-behind (NoLink peer) is saves r = nothing-logged nm.own nm.links (λ h. h) r
  input-behind (Look view) is saves r = nothing-logged nm.own nm.links (λ h. h) r
  input-behind Tick is saves r = nothing-logged nm.own nm.links (λ h. h) r
  input-behind (Submit command) is saves r = nothing-logged nm.own nm.links (λ h. h) r

-- ---- whether a save fails

-- a monitor that is taken back has the same links and key server
left-standing : (us : Uses) (J : List Entry) (l : LeftState) (m : MonitorNode) (ok : MonitorOk us J (left_as l m)) → AllByRecursion (λ (x : Link MonitorStage). StageOk ok.owner us x.stage) m.links
left-standing us J left.Old m ok = ok.node_ok.links
left-standing us J left.New m ok = ok.node_ok.links

left-ring : (us : Uses) (J : List Entry) (l : LeftState) (m : MonitorNode) → MonitorOk us J (left_as l m) → AreSecrets us m.own.server.ring
left-ring us J left.Old m ok = ok.node_ok.own.ring
left-ring us J left.New m ok = ok.node_ok.own.ring

left-generated : (us : Uses) (J : List Entry) (l : LeftState) (m : MonitorNode) → MonitorOk us J (left_as l m) → (service : EntityType) → AreGenerated us service (generations_of m.own.server.state service)
left-generated us J left.Old m ok = ok.node_ok.own.present.generated
left-generated us J left.New m ok = ok.node_ok.own.present.generated

left-heard : (l : LeftState) (m : MonitorNode) → AllHeard (left_as l m).links → AllHeard m.links
left-heard left.Old m h = h
left-heard left.New m h = h

module _ (run : WholeRun) (whole : List Logged) (us vs : Uses) (logins : List Handed) (told : Told) (past : List Point) (p : Point) (log : List Logged) (J : List Entry) where
  abbrev rule : Outcome MonitorNode
  rule = monitor_rule p.nodes.monitor p.happening.input p.happening.reading p.happening.draw

  -- no save fails
  kept-step : (s : Stepped) → s.nodes.monitor ≡ rule.state → s.out.seals ≡ rule.out.seals → s.failed ≡ false → Ready run whole us vs logins told past p node.Monitor log J s
      → MonitorBehind run us vs logins told past p log s.out.seals s.nodes.monitor.links
  kept-step s state seals kept r =
      let o : Outcome MonitorNode = rule in
      let K : List Entry = entered J s.out.entries in
      let ready : MonitorReady run whole us vs logins told past p log J K o.out.seals o.state.own o.state.links =
      subst (λ (m : MonitorNode). MonitorReady run whole us vs logins told past p log J K o.out.seals m.own m.links) state
      (subst (λ (es : List SealEntry). MonitorReady run whole us vs logins told past p log J K es s.nodes.monitor.own s.nodes.monitor.links) seals (record {
        here = r.here;
        inv = r.inv;
        grows = r.grows;
        inv_behind = r.inv_behind;
        has = r.has;
        owner = r.ok.monitor.owner;
        standing = r.ok.monitor.node_ok.links;
        owner_behind = r.ok_behind.monitor.owner;
        standing_behind = r.ok_behind.monitor.node_ok.links;
        generated = r.ok_behind.monitor.node_ok.own.present.generated;
        ring = r.ok_behind.monitor.node_ok.own.ring;
        heard_behind = r.heard_behind;
        drawn = r.drawn;
        granted = r.granted;
      })) in
      let behind_it : MonitorBehind run us vs logins told past p log o.out.seals o.state.links =
      input-behind run whole us vs logins told past p log J K false (ap (λ (x : Stepped). x.failed) r.stepped ∙ kept) p.happening.input refl (λ e none. absurd cc) ready in
      subst (λ (es : List SealEntry). MonitorBehind run us vs logins told past p log es s.nodes.monitor.links) (sym seals)
      (subst (λ (m : MonitorNode). MonitorBehind run us vs logins told past p log o.out.seals m.links) (sym state) behind_it)

  -- a save fails
  failed-step : (l : LeftState) (saved : KeptState) → rule.out.save ≡ Some saved → Ready run whole us vs logins told past p node.Monitor log J (monitor_steps p.nodes rule (Some l) (Some saved))
      → MonitorBehind run us vs logins told past p log (left_of true rule.out.seals) rule.state.links
  failed-step l saved saves r =
      let o : Outcome MonitorNode = rule in
      let K : List Entry = entered J (monitor_steps p.nodes rule (Some l) (Some saved)).out.entries in
      input-behind run whole us vs logins told past p log J K true (ap (λ (x : Stepped). x.failed) r.stepped) p.happening.input refl
      (λ e none. absurd (never (sym saves ∙ none))) (record {
        here = r.here;
        inv = r.inv;
        grows = r.grows;
        inv_behind = r.inv_behind;
        has = r.has;
        owner = r.ok.monitor.owner;
        standing = r.ok.monitor.node_ok.links;
        owner_behind = r.ok_behind.monitor.owner;
        standing_behind = left-standing vs K l o.state r.ok_behind.monitor;
        generated = left-generated vs K l o.state r.ok_behind.monitor;
        ring = left-ring vs K l o.state r.ok_behind.monitor;
        heard_behind = left-heard l o.state r.heard_behind;
        drawn = r.drawn;
        granted = r.granted;
      })
    where
      never : Some saved ≡ None → ⊥
      never e = cc

  left-links : (l : LeftState) (m : MonitorNode) (es : List SealEntry) → MonitorBehind run us vs logins told past p log es m.links → MonitorBehind run us vs logins told past p log es (left_as l m).links
  left-links left.Old m es h = h
  left-links left.New m es h = h

  by_saved : (l : Option LeftState) (saved : Option KeptState) → rule.out.save ≡ saved → Ready run whole us vs logins told past p node.Monitor log J (monitor_steps p.nodes rule l saved)
      → MonitorBehind run us vs logins told past p log (monitor_steps p.nodes rule l saved).out.seals (monitor_steps p.nodes rule l saved).nodes.monitor.links
  by_saved (Some l) (Some saved) is r = left-links l rule.state (left_of true rule.out.seals) (failed-step l saved is r)
  by_saved None saved is r = kept-step (monitor_steps p.nodes rule None saved) refl refl refl r
  by_saved (Some l) None is r = kept-step (monitor_steps p.nodes rule (Some l) None) refl refl refl r

-- so each step keeps it
pub monitor-step : (run : WholeRun) (whole : List Logged) → MonitorStep run whole
monitor-step run whole = λ us vs logins told past p log J r.
    by_saved run whole us vs logins told past p log J p.happening.left (monitor_rule p.nodes.monitor p.happening.input p.happening.reading p.happening.draw).out.save refl r
