-- A turn of a link of the monitor that waits for an ident: it saves nothing, and what it says was said.
use Rattle.std.proofs.Common.{◌≡◌, ◌==◌, ℕ, Bool, true, false, List, [], ◌∷◌, Option, Some, None, Result, Ok, Err, inl, inr, ◌⊎◌, refl, sym, subst}
use Rattle.std.specs.Prelude.{if◌then◌else◌}
use Rattle.std.specs.List.{AllByRecursion}
use Rattle.cx_base.specs.declared.nodes.NodeName.TheVariants as node
use Rattle.cx_control.specs.Idents.{client_ident_layout, ident_missing_features_layout}
use Rattle.cx_control.specs.Reconnects.{session_reconnect_layout}
use Rattle.cx_control.specs.declared.idents.ClientIdent.{ClientIdent}
use Rattle.cx_control.specs.declared.reconnects.SessionReconnect.{SessionReconnect}
use Rattle.cx_frame.specs.declared.frame.Frame.{Frame}
use Rattle.cx_journal.specs.declared.entries.Entry.{Entry}
use Rattle.cx_journal.specs.declared.faults.BytesFault.{BytesFault}
use Rattle.cx_journal.specs.declared.faults.BytesFault.TheVariants.{Unexpected}
use Rattle.cx_laws_run.specs.cx_laws_keys.proofs.keys.Lists.{all-append}
use Rattle.cx_laws_run.specs.cx_laws_keys.proofs.keys.Premises.{behind, granted-first}
use Rattle.cx_laws_run.specs.cx_laws_keys.proofs.keys.Uses.{AtMonitor, Connected, Use, Uses, WholeRun}
use Rattle.cx_laws_run.specs.cx_rules.specs.Acceptor.{AwaitsIdent, Open, missing_told, misses, server_ident}
use Rattle.cx_laws_run.specs.cx_rules.specs.Fronts.{keys_behind, opened_parts, sealed_ahead, secure_fault, secure_read, taking}
use Rattle.cx_laws_run.specs.cx_rules.specs.Links.{Link}
use Rattle.cx_laws_run.specs.cx_rules.specs.Monitor.{Monitor, MonitorArrival, MonitorNode, MonitorRow, MonitorStage}
use Rattle.cx_laws_run.specs.cx_rules.specs.MonitorRule.{on_client_ident, on_ident, on_session_reconnect, session_reset, turned_at}
use Rattle.cx_laws_run.specs.cx_rules.specs.Payloads.{control, payload}
use Rattle.cx_laws_run.specs.cx_rules.specs.Rows.{Turned, arrival, at, links_behind, refuses_bytes, secure_sent, sends_secure, turned_by, turns, with_opened}
use Rattle.cx_laws_run.specs.cx_rules.specs.Secured.{SealedFrame, Secured, secure_frame, under}
use Rattle.cx_laws_run.specs.cx_rules.specs.declared.responses.Bearer.{Bearer}
use Rattle.cx_laws_run.specs.cx_run.specs.Points.{Point}
use Rattle.cx_secure.specs.declared.refusals.SecureRefusal.{SecureRefusal}
use Rattle.cx_steps.specs.declared.seals.Logged.{Logged}
use Rattle.cx_steps.specs.declared.seals.SealEntry.{SealEntry}
use Rattle.cx_laws_run.specs.cx_stream.specs.SecureStreams.{secure_frame_at}
use Rattle.cx_laws_run.specs.cx_laws_tickets.proofs.fetch.AskedKnown.{IsBearing, Told}
use Rattle.cx_laws_run.specs.cx_laws_tickets.proofs.fetch.AskedWords.{given_frame}
use Rattle.cx_laws_run.specs.cx_laws_tickets.proofs.fetch.HandedLogin.{no-login}
use Rattle.cx_laws_run.specs.cx_laws_tickets.proofs.fetch.Later.{of_acceptor}
use Rattle.cx_laws_run.specs.cx_laws_tickets.proofs.fetch.MonitorIdents.{IsNoReply, StaysBearing, ident-says}
use Rattle.cx_laws_run.specs.cx_laws_tickets.proofs.fetch.MonitorMoves.{IsAnyLogin, MonitorMoves}
use Rattle.cx_laws_run.specs.cx_laws_tickets.proofs.fetch.MonitorOpening.{ident-moves}
use Rattle.cx_laws_run.specs.cx_laws_tickets.proofs.fetch.MonitorPlain.{ident-plain, opened-plain}
use Rattle.cx_laws_run.specs.cx_laws_tickets.proofs.fetch.Handed.{IsPlain}
use Rattle.cx_laws_run.specs.cx_laws_tickets.proofs.fetch.PointEvents.{events_of, more-events}
use Rattle.cx_laws_run.specs.cx_laws_tickets.proofs.fetch.Retied.{Handed, retied}
use Rattle.cx_laws_run.specs.cx_laws_tickets.proofs.fetch.RowOthers.{row-others}
use Rattle.cx_laws_run.specs.cx_laws_tickets.proofs.fetch.RowWords.{RowSays, opened-quiet, opened-says}
use Rattle.cx_laws_run.proofs.cover.MonitorEarly.{BehindOf, ReadyOf, before, idle-behind, shut-behind}
use Rattle.cx_laws_run.proofs.cover.MonitorProofs.{opened-silent}
use Rattle.cx_laws_run.proofs.cover.MonitorQuiet.{MonitorReady, grows-here, inv-here, left_of, one-behind}
use Rattle.cx_laws_run.proofs.cover.MonitorWords.{moves-behind, row-connector}
use Rattle.cx_laws_run.proofs.cover.State.{MonitorHas}
use Rattle.cx_laws_run.proofs.cover.Steps.{MonitorBehind}

-- ---- it saves nothing

module _ (a : MonitorArrival) (s : Secured) (bearer : Bearer) where
  secure-unsaved : (stage : Secured → MonitorStage) (r : Result SealedFrame BytesFault) → (secure_sent a s stage [] r).save ≡ None
  secure-unsaved stage (Ok sealed) = refl
  secure-unsaved stage (Err why) = refl

  missing-unsaved : (features : ℕ) (r : Result SealedFrame BytesFault) → (missing_told a features r).save ≡ None
  missing-unsaved features (Ok sealed) = refl
  missing-unsaved features (Err why) = refl

  client-unsaved : (read : Result ClientIdent BytesFault) → (on_client_ident a s bearer read).save ≡ None
  client-unsaved (Err why) = refl
  client-unsaved (Ok ident) = by_test (ident.required == 0)
    where
      by_test : (t : Bool)
          → (let row : MonitorRow = (if t then sends_secure a s (λ behind. Open behind bearer) [] (server_ident a.own.address 1 0) else misses a s ident.required) in row.save ≡ None)
      by_test true = secure-unsaved (λ behind. Open behind bearer) (secure_frame s.keys (server_ident a.own.address 1 0))
      by_test false = missing-unsaved ident.required (secure_frame s.keys (control 10 ident_missing_features_layout.form (record { features = ident.required })))

  reconnect-unsaved : (read : Result SessionReconnect BytesFault) → (on_session_reconnect a s bearer read).save ≡ None
  reconnect-unsaved (Err why) = refl
  reconnect-unsaved (Ok again) = secure-unsaved (λ behind. AwaitsIdent behind bearer) (secure_frame s.keys session_reset)

  ident-unsaved : (f : Frame) → (on_ident a s bearer f).save ≡ None
  ident-unsaved f = by_tests (f.tag == 8) (f.tag == 11)
    where
      by_tests : (ident again : Bool) → (let row : MonitorRow = (if ident then on_client_ident a s bearer (payload client_ident_layout.form f)
          else if again then on_session_reconnect a s bearer (payload session_reconnect_layout.form f) else refuses_bytes a (Unexpected f.tag) []) in row.save ≡ None)
      by_tests true again = client-unsaved (payload client_ident_layout.form f)
      by_tests false true = reconnect-unsaved (payload session_reconnect_layout.form f)
      by_tests false false = refl

-- ---- the turn

module _ (run : WholeRun) (whole : List Logged) (us vs : Uses) (logins : List Handed) (told : Told) (past : List Point) (p : Point) (log : List Logged) (J K : List Entry) (fails : Bool)
    (link : Link MonitorStage) (s : Secured) (bearer : Bearer) (b : IsBearing run (retied logins us) told log link.number s bearer.name) where
  abbrev nm : MonitorNode
  nm = before run whole us vs logins told past p log J K fails

  abbrev arrives : MonitorArrival
  arrives = arrival node.Monitor nm.own link p.happening.reading p.happening.draw

  abbrev opened : List SealEntry
  opened = opened_parts (sealed_ahead s.keys link)

  abbrev row_of : Frame → ℕ → MonitorRow
  row_of g m = with_opened opened (on_ident (at arrives (taking link m)) (under s (keys_behind s.keys g)) bearer g)

  abbrev links_of : Frame → ℕ → List (Link MonitorStage)
  links_of g m = links_behind p.nodes.monitor.links link.number (row_of g m).sends (row_of g m).link

  abbrev turned_as : Result (Option (Frame × ℕ)) SecureRefusal → Turned Monitor MonitorStage
  turned_as x = turned_by (λ (l, f, keys) parts. with_opened parts (on_ident (at arrives l) (under s keys) bearer f)) (secure_read s.keys link opened x)

  row-said : (g : Frame) (m : ℕ) → secure_frame_at (sealed_ahead s.keys link) ≡ Ok (Some (g, m))
      → MonitorReady run whole us vs logins told past p log J K (row_of g m).seals (row_of g m).own (links_of g m) → MonitorBehind run us vs logins told past p log (row_of g m).seals (links_of g m)
  row-said g m read r =
      let a : MonitorArrival = at arrives (taking link m) in
      let k : Secured = under s (keys_behind s.keys g) in
      let row : MonitorRow = row_of g m in
      let xs : Uses = retied logins vs in
      let later : List Logged = behind node.Monitor p.happening.line row.seals log in
      let grows = grows-here run whole us vs logins told past p log J K row.seals row.own (links_of g m) r in
      let says : RowSays given_frame (IsAnyLogin xs) (StaysBearing link.number bearer) IsNoReply k row =
      opened-says given_frame (IsAnyLogin xs) (StaysBearing link.number bearer) IsNoReply opened k (on_ident a k bearer g) (opened-quiet (sealed_ahead s.keys link))
      (ident-says (IsAnyLogin xs) a k bearer g) in
      let linked : Use = Connected node.Monitor link.number bearer.name (AtMonitor b.challenge) in
      let plain : AllByRecursion (IsPlain xs) row.seals =
      all-append (IsPlain xs) opened (on_ident a k bearer g).seals (opened-plain xs (sealed_ahead s.keys link))
      (ident-plain xs k linked (grows.means s.keys.key linked b.means) (no-login node.Monitor link.number bearer.name (AtMonitor b.challenge)) a bearer g) in
      let moves : MonitorMoves (StaysBearing link.number bearer) run (events_of (p ∷ past)) xs told later link.number bearer.name s.keys.key row =
      ident-moves run whole (retied logins us) xs log J node.Monitor p.happening.line (one-behind run whole us vs logins told past p log J K row.seals row.own (links_of g m) r) grows
      (inv-here run whole us vs logins told past p log J K row.seals row.own (links_of g m) r) (events_of past) (events_of (p ∷ past)) (more-events p past) told r.has.known_of link.number s bearer
      link g m b (granted-first run.leaked whole node.Monitor p.happening.line log opened (on_ident a k bearer g).seals r.granted) read arrives in
      moves-behind run whole us vs logins told past p log J K row.seals row.own (links_of g m) r link.number bearer.name s.keys.key b.challenge b.means
      (λ other is apart. row-others given_frame (IsAnyLogin xs) (StaysBearing link.number bearer) IsNoReply k row says other is apart of_acceptor) (StaysBearing link.number bearer) row moves
      (λ other is. row-connector (IsAnyLogin xs) (StaysBearing link.number bearer) IsNoReply k row says b.out other is) plain
      (λ l word u kept bearing. (kept.0, by_stage moves.next later l u kept.1 bearing)) row.sends
    where
      by_stage : (next : Told) (later : List Logged) (l : Link MonitorStage) (u : Secured) → (l.stage ≡ Open u bearer) ⊎ (l.stage ≡ AwaitsIdent u bearer)
          → IsBearing run (retied logins vs) next later link.number u bearer.name → MonitorHas run (retied logins vs) next later link.number l.stage
      by_stage next later l u (inl is) bearing = subst (λ (stage : MonitorStage). MonitorHas run (retied logins vs) next later link.number stage) (sym is) (inl bearing)
      by_stage next later l u (inr is) bearing = subst (λ (stage : MonitorStage). MonitorHas run (retied logins vs) next later link.number stage) (sym is) bearing

  by_fails : (g : Frame) (m : ℕ) → secure_frame_at (sealed_ahead s.keys link) ≡ Ok (Some (g, m)) → (t : Bool) → (t ≡ true → (row_of g m).save ≡ None → ⊥)
      → MonitorReady run whole us vs logins told past p log J K (left_of t (row_of g m).seals) (row_of g m).own (links_of g m)
      → MonitorBehind run us vs logins told past p log (left_of t (row_of g m).seals) (links_of g m)
  by_fails g m read false saves r = row-said g m read r
  by_fails g m read true saves r = absurd (saves refl (ident-unsaved (at arrives (taking link m)) (under s (keys_behind s.keys g)) bearer g))

  by_front : (x : Result (Option (Frame × ℕ)) SecureRefusal) → secure_frame_at (sealed_ahead s.keys link) ≡ x → (fails ≡ true → (turns nm arrives (turned_as x)).out.save ≡ None → ⊥)
      → ReadyOf run whole us vs logins told past p log J K fails (turns nm arrives (turned_as x)) → BehindOf run whole us vs logins told past p log J K fails (turns nm arrives (turned_as x))
  by_front (Ok None) read saves r = idle-behind run whole us vs logins told past p log J K fails r
  by_front (Ok (Some (g, m))) read saves r = by_fails g m read fails saves r
  by_front (Err why) read saves r = shut-behind run whole us vs logins told past p log J K fails arrives (secure_fault why) opened (opened-silent (sealed_ahead s.keys link)) r

  -- where a save fails there is one
  pub ident-behind : (fails ≡ true → (turns nm arrives (turned_at arrives (AwaitsIdent s bearer))).out.save ≡ None → ⊥)
      → ReadyOf run whole us vs logins told past p log J K fails (turns nm arrives (turned_at arrives (AwaitsIdent s bearer)))
      → BehindOf run whole us vs logins told past p log J K fails (turns nm arrives (turned_at arrives (AwaitsIdent s bearer)))
  ident-behind saves r = by_front (secure_frame_at (sealed_ahead s.keys link)) refl saves r
