-- A turn of a link of the monitor that waits for a proof, or for the entity's signature.
use Rattle.std.proofs.Common.{◌≡◌, ℕ, Bool, true, false, List, [], ◌∷◌, ◌++◌, map, Option, Some, None, Result, Ok, Err, inl, inr, refl, sym, ap, subst}
use Rattle.std.specs.Prelude.{IfSome, if◌then◌else◌}
use Rattle.cx_base.specs.declared.nodes.NodeName.TheVariants as node
use Rattle.cx_control.specs.Auth.{auth_request_more_layout, auth_signature_layout}
use Rattle.cx_control.specs.declared.auth.AuthSignature.{AuthSignature}
use Rattle.cx_frame.specs.declared.frame.Frame.{Frame}
use Rattle.cx_frame.specs.declared.refusals.FrameRefusal.{FrameRefusal}
use Rattle.cx_journal.specs.declared.entries.Entry.{Entry}
use Rattle.cx_journal.specs.declared.faults.BytesFault.{BytesFault}
use Rattle.cx_journal.specs.declared.faults.LoginFault.TheVariants.{SignatureWrong}
use Rattle.cx_journal.specs.declared.outcomes.Reason.TheVariants as reason
use Rattle.cx_journal.specs.declared.premises.KeyKind.TheVariants as kind
use Rattle.cx_laws_run.specs.cx_laws_keys.proofs.keys.Premises.{behind}
use Rattle.cx_laws_run.specs.cx_laws_keys.proofs.keys.Uses.{Uses, WholeRun}
use Rattle.cx_laws_run.specs.cx_rules.proofs.Drawing.{monitor-logs}
use Rattle.cx_laws_run.specs.cx_rules.specs.Acceptor.{AwaitsIdent, AwaitsProof, AwaitsSignature, on_signature}
use Rattle.cx_laws_run.specs.cx_rules.specs.Fronts.{ahead_of, keys_behind, opened_parts, plain_fault, plain_read, sealed_ahead, secure_fault, secure_read, taking}
use Rattle.cx_laws_run.specs.cx_rules.specs.Judged.{LogsLink, LogsTurn}
use Rattle.cx_laws_run.specs.cx_rules.specs.Links.{Link}
use Rattle.cx_laws_run.specs.cx_rules.specs.Monitor.{Monitor, MonitorArrival, MonitorNode, MonitorRow, MonitorStage, Offered}
use Rattle.cx_laws_run.specs.cx_rules.specs.MonitorRule.{on_auth_request_more, turned_at}
use Rattle.cx_laws_run.specs.cx_rules.specs.Payloads.{due}
use Rattle.cx_laws_run.specs.cx_rules.specs.Rows.{Handles, Turned, arrival, at, goes_on, links_behind, refuses, turned_by, turns, with_opened}
use Rattle.cx_laws_run.specs.cx_rules.specs.Secured.{Secured, is_signed, signature_found, under}
use Rattle.cx_laws_run.specs.cx_rules.specs.declared.responses.Bearer.{Bearer}
use Rattle.cx_laws_run.specs.cx_run.specs.Points.{Point}
use Rattle.cx_secure.specs.declared.refusals.SecureRefusal.{SecureRefusal}
use Rattle.cx_steps.specs.declared.seals.Logged.{Logged}
use Rattle.cx_steps.specs.declared.seals.SealEntry.{SealEntry}
use Rattle.cx_steps.specs.declared.seals.SealEntry.TheVariants as entry
use Rattle.cx_laws_run.specs.cx_stream.specs.Openings.{front_contents}
use Rattle.cx_laws_run.specs.cx_stream.specs.PlainStreams.{plain_frame_at}
use Rattle.cx_laws_run.specs.cx_stream.specs.SecureStreams.{Ahead, secure_frame_at}
use Rattle.cx_laws_run.specs.cx_laws_tickets.proofs.fetch.AskedKnown.{IsBearingFirst, Told}
use Rattle.cx_laws_run.specs.cx_laws_tickets.proofs.fetch.HandingFirst.{silent-quiet}
use Rattle.cx_laws_run.specs.cx_laws_tickets.proofs.fetch.Later.{of_acceptor, of_connector}
use Rattle.cx_laws_run.specs.cx_laws_tickets.proofs.fetch.MonitorHands.{AreSilent, Hands, HandsOver, more-hands, silent-plain}
use Rattle.cx_laws_run.specs.cx_laws_tickets.proofs.fetch.MonitorMoves.{MonitorMoves}
use Rattle.cx_laws_run.specs.cx_laws_tickets.proofs.fetch.MonitorOpening.{StaysSigned, signature-moves}
use Rattle.cx_laws_run.specs.cx_laws_tickets.proofs.fetch.PointEvents.{events_of, more-events}
use Rattle.cx_laws_run.specs.cx_laws_tickets.proofs.fetch.Retied.{Handed, retied}
use Rattle.cx_laws_run.specs.cx_laws_tickets.proofs.fetch.RowWords.{AreQuiet, quiet-none}
use Rattle.cx_laws_run.proofs.cover.FailedLogins.{failed-behind}
use Rattle.cx_laws_run.proofs.cover.MonitorEarly.{BehindOf, ReadyOf, before, idle-behind, shut-behind, silent-row}
use Rattle.cx_laws_run.proofs.cover.MonitorHanding.{handed-behind}
use Rattle.cx_laws_run.proofs.cover.MonitorQuiet.{MonitorReady, grows-here, inv-here, left_of, one-behind}
use Rattle.cx_laws_run.proofs.cover.MonitorWords.{moves-behind}
use Rattle.cx_laws_run.proofs.cover.State.{MonitorHas}
use Rattle.cx_laws_run.proofs.cover.Steps.{MonitorBehind}

-- ---- what seals and signs nothing

pub opened-silent : (ahead : Ahead) → AreSilent (opened_parts ahead)
opened-silent ahead = over (front_contents ahead)
  where
    over : (contents : List (List ℕ)) → AreSilent (map (λ (content : List ℕ). entry.Opened (record { key = ahead.key; kind = kind.Connection; content = content })) contents)
    over [] = tt
    over (content ∷ contents) = (tt, over contents)

pub silent-append : (xs ys : List SealEntry) → AreSilent xs → AreSilent ys → AreSilent (xs ++ ys)
silent-append [] ys h g = g
silent-append (x ∷ xs) ys h g = (h.0, silent-append xs ys h.1 g)

signature-silent : (a : MonitorArrival) (s : Secured) (bearer : Bearer) (read : Result AuthSignature BytesFault) → AreSilent (on_signature a s bearer read).seals
signature-silent a s bearer (Err why) = tt
signature-silent a s bearer (Ok found) = by_test (is_signed s found.signature)
  where
    by_test : (t : Bool)
        → AreSilent (let row : MonitorRow = (if t then goes_on a (AwaitsIdent s bearer) [] (signature_found s ∷ []) else refuses a (reason.Login SignatureWrong) []) in row.seals)
    by_test true = (tt, tt)
    by_test false = tt

-- what seals and signs nothing is left where a save fails
filtered-same : (es : List SealEntry) → AreSilent es → left_of true es ≡ es
filtered-same [] h = refl
filtered-same (entry.Sealed mark ∷ es) h = absurd h.0
filtered-same (entry.Signed mark ∷ es) h = absurd h.0
filtered-same (entry.Opened mark ∷ es) h = ap (λ (l : List SealEntry). entry.Opened mark ∷ l) (filtered-same es h.1)
filtered-same (entry.Checked mark ∷ es) h = ap (λ (l : List SealEntry). entry.Checked mark ∷ l) (filtered-same es h.1)
filtered-same (entry.Drawn mark ∷ es) h = ap (λ (l : List SealEntry). entry.Drawn mark ∷ l) (filtered-same es h.1)

left-same : (fails : Bool) (es : List SealEntry) → AreSilent es → left_of fails es ≡ es
left-same true es h = filtered-same es h
left-same false es h = refl

module _ (run : WholeRun) (whole : List Logged) (us vs : Uses) (logins : List Handed) (told : Told) (past : List Point) (p : Point) (log : List Logged) (J K : List Entry) (fails : Bool) where
  abbrev arrives : Link MonitorStage → MonitorArrival
  arrives link = arrival node.Monitor (before run whole us vs logins told past p log J K fails).own link p.happening.reading p.happening.draw

  abbrev nm : MonitorNode
  nm = before run whole us vs logins told past p log J K fails

  -- ---- a proof

  module _ (link : Link MonitorStage) (offered : Offered) (waits : link.stage ≡ AwaitsProof offered) where
    abbrev row_of : Frame → ℕ → MonitorRow
    row_of f n = on_auth_request_more (at (arrives link) (taking link n)) offered (due 5 auth_request_more_layout.form f)

    abbrev turned_as : Result (Option (Frame × ℕ)) FrameRefusal → Turned Monitor MonitorStage
    turned_as r = turned_by (λ (l, f) _. on_auth_request_more (at (arrives link) l) offered (due 5 auth_request_more_layout.form f)) (plain_read link r)

    -- what the row draws is logged
    logs-so : (r : Result (Option (Frame × ℕ)) FrameRefusal) → plain_frame_at (ahead_of link) ≡ r → LogsTurn (arrives link) (turned_as r)
    logs-so r e =
        let all : LogsTurn (arrives link) (turned_at (arrives link) (AwaitsProof offered)) =
        subst (λ (stage : MonitorStage). LogsTurn (arrives link) (turned_at (arrives link) stage)) waits (monitor-logs (arrives link)) in
        subst (λ (x : Result (Option (Frame × ℕ)) FrameRefusal). LogsTurn (arrives link) (turned_as x)) e all

    moved-logs : (f : Frame) (n : ℕ) (h : HandsOver (at (arrives link) (taking link n)) (row_of f n)) → LogsLink (arrives link) (row_of f n).seals (row_of f n).link
        → LogsLink (at (arrives link) (taking link n)) (row_of f n).seals (row_of f n).link
    moved-logs f n h logs =
        subst (λ (o : Option (Link MonitorStage)). LogsLink (at (arrives link) (taking link n)) (row_of f n).seals o) (sym h.goes)
        (subst (λ (o : Option (Link MonitorStage)). LogsLink (arrives link) (row_of f n).seals o) h.goes logs)

    hands-turned : (f : Frame) (n : ℕ) (h : HandsOver (at (arrives link) (taking link n)) (row_of f n)) → LogsLink (arrives link) (row_of f n).seals (row_of f n).link → (t : Bool) → fails ≡ t
        → MonitorReady run whole us vs logins told past p log J K (left_of t (row_of f n).seals) (row_of f n).own (links_behind p.nodes.monitor.links link.number (row_of f n).sends (row_of f n).link)
        → MonitorBehind run us vs logins told past p log (left_of t (row_of f n).seals) (links_behind p.nodes.monitor.links link.number (row_of f n).sends (row_of f n).link)
    hands-turned f n h logs false e r =
        handed-behind run whole us vs logins told past p log J K link.number (row_of f n).sends (row_of f n) r (at (arrives link) (taking link n)) h refl refl (moved-logs f n h logs)
    hands-turned f n h logs true e r =
        failed-behind run whole us vs logins told past p log J K link.number (row_of f n).sends (row_of f n) r (at (arrives link) (taking link n)) h refl refl (moved-logs f n h logs)

    row-turned : (f : Frame) (n : ℕ) → plain_frame_at (ahead_of link) ≡ Ok (Some (f, n)) → Hands (at (arrives link) (taking link n)) (row_of f n)
        → ReadyOf run whole us vs logins told past p log J K fails (turns nm (arrives link) (Handles (row_of f n)))
        → BehindOf run whole us vs logins told past p log J K fails (turns nm (arrives link) (Handles (row_of f n)))
    row-turned f n e (inl h) r =
        silent-row run whole us vs logins told past p log J K fails link.number true (row_of f n) h.silent
        (subst (λ (o : Option (Link MonitorStage)). IfSome o (λ (l : Link MonitorStage). (l.number ≡ link.number)
        × MonitorHas run (retied logins vs) told (behind node.Monitor p.happening.line (left_of fails (row_of f n).seals) log) link.number l.stage)) (sym h.none) tt) r
    row-turned f n e (inr h) r = hands-turned f n h (logs-so (Ok (Some (f, n))) e) fails refl r

    by_proof : (x : Result (Option (Frame × ℕ)) FrameRefusal) → plain_frame_at (ahead_of link) ≡ x
        → ReadyOf run whole us vs logins told past p log J K fails (turns nm (arrives link) (turned_as x)) → BehindOf run whole us vs logins told past p log J K fails (turns nm (arrives link) (turned_as x))
    by_proof (Ok None) e r = idle-behind run whole us vs logins told past p log J K fails r
    by_proof (Ok (Some (f, n))) e r = row-turned f n e (more-hands (at (arrives link) (taking link n)) offered (due 5 auth_request_more_layout.form f)) r
    by_proof (Err why) e r = shut-behind run whole us vs logins told past p log J K fails (arrives link) (plain_fault why) [] tt r

    pub proof-behind : ReadyOf run whole us vs logins told past p log J K fails (turns nm (arrives link) (turned_at (arrives link) (AwaitsProof offered)))
        → BehindOf run whole us vs logins told past p log J K fails (turns nm (arrives link) (turned_at (arrives link) (AwaitsProof offered)))
    proof-behind r = by_proof (plain_frame_at (ahead_of link)) refl r

  -- ---- the entity's signature

  module _ (link : Link MonitorStage) (s : Secured) (bearer : Bearer) (first : IsBearingFirst (retied logins us) told log link.number s bearer.name) where
    abbrev opened : List SealEntry
    opened = opened_parts (sealed_ahead s.keys link)

    abbrev signed_row : Frame → ℕ → MonitorRow
    signed_row g m = with_opened opened (on_signature (at (arrives link) (taking link m)) (under s (keys_behind s.keys g)) bearer (due 7 auth_signature_layout.form g))

    abbrev signed_as : Result (Option (Frame × ℕ)) SecureRefusal → Turned Monitor MonitorStage
    signed_as x = turned_by (λ (l, f, keys) parts. with_opened parts (on_signature (at (arrives link) l) (under s keys) bearer (due 7 auth_signature_layout.form f))) (secure_read s.keys link opened x)

    row-silent : (g : Frame) (m : ℕ) → AreSilent (signed_row g m).seals
    row-silent g m =
        silent-append opened (on_signature (at (arrives link) (taking link m)) (under s (keys_behind s.keys g)) bearer (due 7 auth_signature_layout.form g)).seals
        (opened-silent (sealed_ahead s.keys link)) (signature-silent (at (arrives link) (taking link m)) (under s (keys_behind s.keys g)) bearer (due 7 auth_signature_layout.form g))

    signed-moves : (g : Frame) (m : ℕ)
        → MonitorReady run whole us vs logins told past p log J K (signed_row g m).seals (signed_row g m).own
        (links_behind p.nodes.monitor.links link.number (signed_row g m).sends (signed_row g m).link)
        → MonitorBehind run us vs logins told past p log (signed_row g m).seals (links_behind p.nodes.monitor.links link.number (signed_row g m).sends (signed_row g m).link)
    signed-moves g m r =
        let row : MonitorRow = signed_row g m in
        let links : List (Link MonitorStage) = links_behind p.nodes.monitor.links link.number row.sends row.link in
        let quiet : AreQuiet row.seals = silent-quiet row.seals (row-silent g m) in
        let moves : MonitorMoves (StaysSigned link.number bearer) run (events_of (p ∷ past)) (retied logins vs) told (behind node.Monitor p.happening.line row.seals log) link.number bearer.name s.keys.key row =
        signature-moves run whole (retied logins us) (retied logins vs) log J node.Monitor p.happening.line (one-behind run whole us vs logins told past p log J K row.seals row.own links r)
        (grows-here run whole us vs logins told past p log J K row.seals row.own links r) (inv-here run whole us vs logins told past p log J K row.seals row.own links r) (events_of past)
        (events_of (p ∷ past)) (more-events p past) told r.has.known_of link.number s bearer link g m first (arrives link) in
        moves-behind run whole us vs logins told past p log J K row.seals row.own links r link.number bearer.name s.keys.key first.challenge first.means
        (λ other is apart. quiet-none other of_acceptor row.seals quiet) (StaysSigned link.number bearer) row moves (λ other is. quiet-none other of_connector row.seals quiet)
        (silent-plain (retied logins vs) row.seals (row-silent g m))
        (λ l word u kept bearing. (
          kept.0,
          subst (λ (stage : MonitorStage). MonitorHas run (retied logins vs) moves.next (behind node.Monitor p.happening.line row.seals log) link.number stage) (sym kept.1) bearing,
        )) row.sends

    by_signature : (x : Result (Option (Frame × ℕ)) SecureRefusal)
        → ReadyOf run whole us vs logins told past p log J K fails (turns nm (arrives link) (signed_as x)) → BehindOf run whole us vs logins told past p log J K fails (turns nm (arrives link) (signed_as x))
    by_signature (Ok None) r = idle-behind run whole us vs logins told past p log J K fails r
    by_signature (Ok (Some (g, m))) r =
        let row : MonitorRow = signed_row g m in
        let links : List (Link MonitorStage) = links_behind p.nodes.monitor.links link.number row.sends row.link in
        subst (λ (es : List SealEntry). MonitorBehind run us vs logins told past p log es links) (sym (left-same fails row.seals (row-silent g m)))
        (signed-moves g m (subst (λ (es : List SealEntry). MonitorReady run whole us vs logins told past p log J K es row.own links) (left-same fails row.seals (row-silent g m)) r))
    by_signature (Err why) r = shut-behind run whole us vs logins told past p log J K fails (arrives link) (secure_fault why) opened (opened-silent (sealed_ahead s.keys link)) r

    pub signature-behind : ReadyOf run whole us vs logins told past p log J K fails (turns nm (arrives link) (turned_at (arrives link) (AwaitsSignature s bearer)))
        → BehindOf run whole us vs logins told past p log J K fails (turns nm (arrives link) (turned_at (arrives link) (AwaitsSignature s bearer)))
    signature-behind r = by_signature (secure_frame_at (sealed_ahead s.keys link)) r
