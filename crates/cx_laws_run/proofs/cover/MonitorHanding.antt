-- The turn of a link of the monitor at which it hands over a login, with the session key and the connection secret of its draw.
use Rattle.std.proofs.Common.{◌≡◌, ℕ, List, ◌∷◌, length, Option, sym, subst}
use Rattle.std.specs.Prelude.{IfSome}
use Rattle.cx_base.specs.declared.nodes.NodeName.TheVariants as node
use Rattle.cx_journal.specs.declared.entries.Entry.{Entry}
use Rattle.cx_laws_run.specs.cx_laws_keys.proofs.keys.Premises.{behind}
use Rattle.cx_laws_run.specs.cx_laws_keys.proofs.keys.Uses.{Uses, WholeRun}
use Rattle.cx_laws_run.specs.cx_rules.specs.Judged.{LogsLink}
use Rattle.cx_laws_run.specs.cx_rules.specs.Links.{Link}
use Rattle.cx_laws_run.specs.cx_rules.specs.Monitor.{MonitorArrival, MonitorRow, MonitorStage}
use Rattle.cx_laws_run.specs.cx_rules.specs.Rows.{links_behind}
use Rattle.cx_laws_run.specs.cx_run.specs.Points.{Point}
use Rattle.cx_steps.specs.declared.seals.Logged.{Logged}
use Rattle.cx_laws_run.specs.cx_laws_tickets.proofs.fetch.AskedKnown.{IsBearingFirst, Told}
use Rattle.cx_laws_run.specs.cx_laws_tickets.proofs.fetch.Handed.{AreHanded}
use Rattle.cx_laws_run.specs.cx_laws_tickets.proofs.fetch.HandingFirst.{first-begins, hands-none}
use Rattle.cx_laws_run.specs.cx_laws_tickets.proofs.fetch.HandingStep.{handed, handing-step, stay-handed}
use Rattle.cx_laws_run.specs.cx_laws_tickets.proofs.fetch.MonitorHands.{HandsOver}
use Rattle.cx_laws_run.specs.cx_laws_tickets.proofs.fetch.PointEvents.{events_of}
use Rattle.cx_laws_run.specs.cx_laws_tickets.proofs.fetch.Retied.{Handed, StayHanded, retied}
use Rattle.cx_laws_run.specs.cx_laws_tickets.proofs.fetch.ToldStays.{SealsNone}
use Rattle.cx_laws_run.proofs.cover.MonitorLogins.{challenge, drawn, generated-so, login-behind, secret-so, session_drawn, session_means, tells}
use Rattle.cx_laws_run.proofs.cover.MonitorQuiet.{MonitorReady}
use Rattle.cx_laws_run.proofs.cover.State.{MonitorHas}
use Rattle.cx_laws_run.proofs.cover.Steps.{MonitorBehind}

module _ (run : WholeRun) (whole : List Logged) (us vs : Uses) (logins : List Handed) (told : Told) (past : List Point) (p : Point) (log : List Logged) (J K : List Entry)
    (number : ℕ) (bytes : List ℕ) (row : MonitorRow)
    (r : MonitorReady run whole us vs logins told past p log J K row.seals row.own (links_behind p.nodes.monitor.links number bytes row.link))
    (a : MonitorArrival) (h : HandsOver a row) (numbered : a.link.number ≡ number) (block : a.draw ≡ p.happening.draw) (logs : LogsLink a row.seals row.link) where
  abbrev line : ℕ
  line = p.happening.line

  abbrev later : List Logged
  later = behind node.Monitor line row.seals log

  long : length a.draw ≡ 384
  long = drawn run whole us vs logins told past p log J K row.seals number bytes row r a h numbered block logs

  abbrev heard : ℕ
  heard = challenge run whole us vs logins told past p log J K row.seals number bytes row r a h numbered block logs

  abbrev new : Handed
  new = handed run whole us vs log J K node.Monitor line a row h r.inv r.grows r.inv_behind r.granted long logins r.has.handed
      (generated-so run whole us vs logins told past p log J K row.seals number bytes row r a h numbered block logs)
      (session_means run whole us vs logins told past p log J K row.seals number bytes row r a h numbered block logs)
      (session_drawn run whole us vs logins told past p log J K row.seals number bytes row r a h numbered block logs) heard
      (tells run whole us vs logins told past p log J K row.seals number bytes row r a h numbered block logs)

  stay : StayHanded us logins (new ∷ logins)
  stay = stay-handed run whole us vs log J K node.Monitor line a row h r.inv r.grows r.inv_behind r.granted long logins r.has.handed
      (generated-so run whole us vs logins told past p log J K row.seals number bytes row r a h numbered block logs)
      (session_means run whole us vs logins told past p log J K row.seals number bytes row r a h numbered block logs)
      (session_drawn run whole us vs logins told past p log J K row.seals number bytes row r a h numbered block logs) heard
      (tells run whole us vs logins told past p log J K row.seals number bytes row r a h numbered block logs)

  known : AreHanded (retied (new ∷ logins) vs) (new ∷ logins) later
  known = handing-step run whole us vs log J K node.Monitor line a row h r.inv r.grows r.inv_behind r.granted long logins r.has.handed
      (generated-so run whole us vs logins told past p log J K row.seals number bytes row r a h numbered block logs)
      (session_means run whole us vs logins told past p log J K row.seals number bytes row r a h numbered block logs)
      (session_drawn run whole us vs logins told past p log J K row.seals number bytes row r a h numbered block logs) heard
      (tells run whole us vs logins told past p log J K row.seals number bytes row r a h numbered block logs)

  none : SealsNone (retied (new ∷ logins) vs) row.seals
  none = hands-none run whole us vs log J K node.Monitor line a row h r.inv r.grows r.inv_behind r.granted long logins r.has.handed
      (generated-so run whole us vs logins told past p log J K row.seals number bytes row r a h numbered block logs)
      (session_means run whole us vs logins told past p log J K row.seals number bytes row r a h numbered block logs)
      (session_drawn run whole us vs logins told past p log J K row.seals number bytes row r a h numbered block logs) heard
      (tells run whole us vs logins told past p log J K row.seals number bytes row r a h numbered block logs)
      (secret-so run whole us vs logins told past p log J K row.seals number bytes row r a h numbered block logs)

  first : IsBearingFirst (retied (new ∷ logins) vs) told later a.link.number h.secured h.bearer.name
  first = first-begins run whole us vs log J K node.Monitor line a row h r.inv r.grows r.inv_behind r.granted long logins r.has.handed
      (generated-so run whole us vs logins told past p log J K row.seals number bytes row r a h numbered block logs)
      (session_means run whole us vs logins told past p log J K row.seals number bytes row r a h numbered block logs)
      (session_drawn run whole us vs logins told past p log J K row.seals number bytes row r a h numbered block logs) heard
      (tells run whole us vs logins told past p log J K row.seals number bytes row r a h numbered block logs)
      (secret-so run whole us vs logins told past p log J K row.seals number bytes row r a h numbered block logs) (events_of past) told r.has.known_of

  left : IfSome row.link (λ (l : Link MonitorStage). (l.number ≡ number) × MonitorHas run (retied (new ∷ logins) vs) told later number l.stage)
  left =
      subst (λ (o : Option (Link MonitorStage)). IfSome o (λ (l : Link MonitorStage). (l.number ≡ number) × MonitorHas run (retied (new ∷ logins) vs) told later number l.stage)) (sym h.goes)
      (numbered, subst (λ (k : ℕ). IsBearingFirst (retied (new ∷ logins) vs) told later k h.secured h.bearer.name) numbered first)

  pub handed-behind : MonitorBehind run us vs logins told past p log row.seals (links_behind p.nodes.monitor.links number bytes row.link)
  handed-behind = login-behind run whole us vs logins told past p log J K row.seals number bytes row r new stay none known left
