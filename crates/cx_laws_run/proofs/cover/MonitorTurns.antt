-- A turn of any link of the monitor, whether a save fails or not.
use Rattle.std.proofs.Common.{◌≡◌, ◌==◌, ℕ, Bool, true, false, List, Option, Some, None, Result, Ok, Err, inl, inr, ◌⊎◌, refl, eqb-true}
use Rattle.cx_frame.specs.declared.frame.Frame.{Frame}
use Rattle.cx_journal.specs.declared.entries.Entry.{Entry}
use Rattle.cx_laws_run.specs.cx_laws_keys.proofs.keys.Lists.{found_all, found_passes}
use Rattle.cx_laws_run.specs.cx_laws_keys.proofs.keys.Uses.{Uses, WholeRun}
use Rattle.cx_laws_run.specs.cx_laws_keys.proofs.login.Facts.{BearerOk, StageOk}
use Rattle.cx_laws_run.specs.cx_rules.specs.Acceptor.{AwaitsBanner, AwaitsHello, AwaitsIdent, AwaitsProof, AwaitsRequest, AwaitsSignature, Open}
use Rattle.cx_laws_run.specs.cx_rules.specs.Fronts.{keys_behind, opened_parts, sealed_ahead, secure_fault, secure_read, taking}
use Rattle.cx_laws_run.specs.cx_rules.specs.Inputs.{Turn}
use Rattle.cx_laws_run.specs.cx_rules.specs.Links.{Link, link_of}
use Rattle.cx_laws_run.specs.cx_rules.specs.Monitor.{Monitor, MonitorArrival, MonitorNode, MonitorRow, MonitorStage}
use Rattle.cx_laws_run.specs.cx_rules.specs.MonitorRequests.{on_open}
use Rattle.cx_laws_run.specs.cx_rules.specs.MonitorRule.{noted, turn, turned_at}
use Rattle.cx_laws_run.specs.cx_rules.specs.Rows.{Outcome, Turned, at, links_behind, turned_by, turns, with_opened}
use Rattle.cx_laws_run.specs.cx_rules.specs.Secured.{Secured, under}
use Rattle.cx_laws_run.specs.cx_rules.specs.declared.responses.Bearer.{Bearer}
use Rattle.cx_laws_run.specs.cx_run.specs.Points.{Point, stepped_at}
use Rattle.cx_secure.specs.declared.refusals.SecureRefusal.{SecureRefusal}
use Rattle.cx_steps.specs.declared.seals.Logged.{Logged}
use Rattle.cx_steps.specs.declared.seals.SealEntry.{SealEntry}
use Rattle.cx_laws_run.specs.cx_stream.specs.SecureStreams.{secure_frame_at}
use Rattle.cx_laws_run.specs.cx_laws_tickets.proofs.fetch.AskedKnown.{IsBearing, Told}
use Rattle.cx_laws_run.specs.cx_laws_tickets.proofs.fetch.PointEvents.{arrival_at}
use Rattle.cx_laws_run.specs.cx_laws_tickets.proofs.fetch.Retied.{Handed, retied}
use Rattle.cx_laws_run.proofs.cover.EarlyRows.{asking-early, banner-early, greeting-early}
use Rattle.cx_laws_run.proofs.cover.FailedOpen.{failed-lost, failed-said}
use Rattle.cx_laws_run.proofs.cover.MonitorEarly.{BehindOf, ReadyOf, early-behind, idle-behind, shut-behind}
use Rattle.cx_laws_run.proofs.cover.MonitorIdentRows.{ident-behind}
use Rattle.cx_laws_run.proofs.cover.MonitorOpenRows.{lost-said, said-behind}
use Rattle.cx_laws_run.proofs.cover.MonitorProofs.{opened-silent, proof-behind, signature-behind}
use Rattle.cx_laws_run.proofs.cover.MonitorQuiet.{MonitorReady, left_of}
use Rattle.cx_laws_run.proofs.cover.State.{IsLost, MonitorHas}
use Rattle.cx_laws_run.proofs.cover.Steps.{MonitorBehind}

module _ (run : WholeRun) (whole : List Logged) (us vs : Uses) (logins : List Handed) (told : Told) (past : List Point) (p : Point) (log : List Logged) (J K : List Entry) (fails : Bool)
    (failed : (stepped_at p).failed ≡ fails) where
  abbrev Ready_ : Outcome MonitorNode → Type 0
  Ready_ o = ReadyOf run whole us vs logins told past p log J K fails o

  abbrev Behind_ : Outcome MonitorNode → Type 0
  Behind_ o = BehindOf run whole us vs logins told past p log J K fails o

  abbrev nm : MonitorNode
  nm = noted p.nodes.monitor

  module _ (number : ℕ) (turning : p.happening.input ≡ Turn number) (link : Link MonitorStage) (found : link_of number p.nodes.monitor.links ≡ Some link) where
    abbrev a : MonitorArrival
    a = arrival_at p link

    numbered : link.number ≡ number
    numbered = eqb-true link.number number (found_passes (λ (l : Link MonitorStage). l.number == number) p.nodes.monitor.links link found)

    -- ---- an open link

    module _ (s : Secured) (bearer : Bearer) (stage : link.stage ≡ Open s bearer) where
      abbrev opened : List SealEntry
      opened = opened_parts (sealed_ahead s.keys link)

      abbrev turned_as : Result (Option (Frame × ℕ)) SecureRefusal → Turned Monitor MonitorStage
      turned_as x = turned_by (λ (l, f, keys) parts. with_opened parts (on_open Open (at a l) (under s keys) bearer f)) (secure_read s.keys link opened x)

      abbrev row_of : Frame → ℕ → MonitorRow
      row_of g m = with_opened opened (on_open Open (at a (taking link m)) (under s (keys_behind s.keys g)) bearer g)

      abbrev links_of : Frame → ℕ → List (Link MonitorStage)
      links_of g m = links_behind p.nodes.monitor.links link.number (row_of g m).sends (row_of g m).link

      by_fails : (g : Frame) (m : ℕ) → secure_frame_at (sealed_ahead s.keys link) ≡ Ok (Some (g, m)) → (t : Bool) → (stepped_at p).failed ≡ t
          → (r : MonitorReady run whole us vs logins told past p log J K (left_of t (row_of g m).seals) (row_of g m).own (links_of g m)) → BearerOk r.owner us s.keys bearer
          → IsBearing run (retied logins us) told log link.number s bearer.name ⊎ IsLost (retied logins us) told log link.number s bearer.name
          → MonitorBehind run us vs logins told past p log (left_of t (row_of g m).seals) (links_of g m)
      by_fails g m read false kept r ok (inl b) = said-behind run whole us vs logins told past p log J K link s bearer g m read r ok b number numbered turning found stage kept
      by_fails g m read false kept r ok (inr h) = lost-said run whole us vs logins told past p log J K link s bearer g m read r ok h
      by_fails g m read true kept r ok (inl b) = failed-said run whole us vs logins told past p log J K link s bearer g m read r ok b
      by_fails g m read true kept r ok (inr h) = failed-lost run whole us vs logins told past p log J K link s bearer g m read r ok h

      by_front : (x : Result (Option (Frame × ℕ)) SecureRefusal) → secure_frame_at (sealed_ahead s.keys link) ≡ x → (r : Ready_ (turns nm a (turned_as x))) → BearerOk r.owner us s.keys bearer
          → IsBearing run (retied logins us) told log link.number s bearer.name ⊎ IsLost (retied logins us) told log link.number s bearer.name → Behind_ (turns nm a (turned_as x))
      by_front (Ok None) read r ok has = idle-behind run whole us vs logins told past p log J K fails r
      by_front (Ok (Some (g, m))) read r ok has = by_fails g m read fails failed r ok has
      by_front (Err why) read r ok has = shut-behind run whole us vs logins told past p log J K fails a (secure_fault why) opened (opened-silent (sealed_ahead s.keys link)) r

    -- ---- any

    stage-behind : (stage : MonitorStage) → link.stage ≡ stage → MonitorHas run (retied logins us) told log link.number stage
        → (fails ≡ true → (turns nm a (turned_at a stage)).out.save ≡ None → ⊥) → (r : Ready_ (turns nm a (turned_at a stage))) → StageOk r.owner us stage → Behind_ (turns nm a (turned_at a stage))
    stage-behind AwaitsBanner is has saves r ok = early-behind run whole us vs logins told past p log J K fails a (turned_at a AwaitsBanner) (banner-early a) r
    stage-behind AwaitsHello is has saves r ok = early-behind run whole us vs logins told past p log J K fails a (turned_at a AwaitsHello) (greeting-early a) r
    stage-behind AwaitsRequest is has saves r ok = early-behind run whole us vs logins told past p log J K fails a (turned_at a AwaitsRequest) (asking-early a) r
    stage-behind (AwaitsProof offered) is has saves r ok = proof-behind run whole us vs logins told past p log J K fails link offered is r
    stage-behind (AwaitsSignature s bearer) is has saves r ok = signature-behind run whole us vs logins told past p log J K fails link s bearer has r
    stage-behind (AwaitsIdent s bearer) is has saves r ok = ident-behind run whole us vs logins told past p log J K fails link s bearer has saves r
    stage-behind (Open s bearer) is has saves r ok = by_front s bearer is (secure_frame_at (sealed_ahead s.keys link)) refl r ok has

  pub turn-behind : (number : ℕ) → p.happening.input ≡ Turn number → (found : Option (Link MonitorStage)) → link_of number p.nodes.monitor.links ≡ found
      → (fails ≡ true → (turn nm p.happening.reading p.happening.draw found).out.save ≡ None → ⊥) → Ready_ (turn nm p.happening.reading p.happening.draw found)
      → Behind_ (turn nm p.happening.reading p.happening.draw found)
  turn-behind number turning None at_none saves r = idle-behind run whole us vs logins told past p log J K fails r
  turn-behind number turning (Some link) found saves r =
      let has : MonitorHas run (retied logins us) told log link.number link.stage =
      found_all (λ (l : Link MonitorStage). MonitorHas run (retied logins us) told log l.number l.stage) (λ (l : Link MonitorStage). l.number == number) p.nodes.monitor.links link r.has.monitor found in
      let ok : StageOk r.owner us link.stage =
      found_all (λ (l : Link MonitorStage). StageOk r.owner us l.stage) (λ (l : Link MonitorStage). l.number == number) p.nodes.monitor.links link r.standing found in
      stage-behind number turning link found link.stage refl has saves r ok
