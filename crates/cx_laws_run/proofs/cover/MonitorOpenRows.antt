-- A turn of an open link of the monitor: what it says was said; or it is lost, behind a save that failed.
use Rattle.std.proofs.Common.{◌≡◌, ℕ, false, List, [], ◌∷◌, ◌++◌, Option, Some, None, Ok, inl, inr, refl, sym, ap, ◌∙◌, subst}
use Rattle.std.specs.Prelude.{IfSome, find}
use Rattle.std.specs.List.{AllByRecursion}
use Rattle.std.specs.Option.{option_map}
use Rattle.std.specs.Str.{bytes_eq}
use Rattle.cx_base.specs.Names.{Name}
use Rattle.cx_base.specs.declared.nodes.NodeName.TheVariants as node
use Rattle.cx_enc.specs.declared.keys.Key.{Key}
use Rattle.cx_frame.specs.declared.frame.Frame.{Frame}
use Rattle.cx_journal.specs.declared.entries.Entry.{Entry}
use Rattle.cx_keyring.specs.Entries.{is_named}
use Rattle.cx_keyring.specs.declared.entries.Entry.{Entry as Principal}
use Rattle.cx_laws_run.specs.cx_keyserver.specs.Servers.{Server, generations_of, rotated_server}
use Rattle.cx_laws_run.specs.cx_laws_keys.proofs.keys.Known.{Inv}
use Rattle.cx_laws_run.specs.cx_laws_keys.proofs.keys.Lists.{all-append}
use Rattle.cx_laws_run.specs.cx_laws_keys.proofs.keys.Premises.{behind, behind-append, granted-first}
use Rattle.cx_laws_run.specs.cx_laws_keys.proofs.keys.Uses.{AreGenerated, AtMonitor, Connected, Grows, Login, Means, Secret, Use, Uses, WholeRun}
use Rattle.cx_laws_run.specs.cx_laws_keys.proofs.login.Facts.{BearerOk}
use Rattle.cx_laws_run.specs.cx_laws_keys.proofs.login.Named.{found_secret}
use Rattle.cx_laws_run.specs.cx_laws_keys.proofs.series.Contents.{contents_by}
use Rattle.cx_laws_run.specs.cx_laws_keys.proofs.series.Frames.{frame-sealed}
use Rattle.cx_laws_run.specs.cx_rules.specs.Acceptor.{Open}
use Rattle.cx_laws_run.specs.cx_rules.specs.Fronts.{keys_behind, opened_parts, sealed_ahead, taking}
use Rattle.cx_laws_run.specs.cx_rules.specs.Inputs.{Turn}
use Rattle.cx_laws_run.specs.cx_rules.specs.Links.{Link, link_of}
use Rattle.cx_laws_run.specs.cx_rules.specs.Monitor.{MonitorArrival, MonitorRow, MonitorStage}
use Rattle.cx_laws_run.specs.cx_rules.specs.MonitorRequests.{heard, on_open}
use Rattle.cx_laws_run.specs.cx_rules.specs.Rows.{at, links_behind, with_opened}
use Rattle.cx_laws_run.specs.cx_rules.specs.Secured.{SealedFrame, Secured, sealed_under, under}
use Rattle.cx_laws_run.specs.cx_rules.specs.declared.responses.Bearer.{Bearer}
use Rattle.cx_laws_run.specs.cx_rules.specs.declared.responses.Demand.{Demand}
use Rattle.cx_laws_run.specs.cx_run.specs.Points.{Point, stepped_at}
use Rattle.cx_steps.specs.declared.seals.Logged.{Logged}
use Rattle.cx_steps.specs.declared.seals.SealEntry.{SealEntry}
use Rattle.cx_laws_run.specs.cx_stream.specs.SecureStreams.{secure_frame_at}
use Rattle.cx_laws_run.specs.cx_laws_tickets.proofs.fetch.AskedKnown.{IsBearing, Told}
use Rattle.cx_laws_run.specs.cx_laws_tickets.proofs.fetch.AskedMoving.{Quiets}
use Rattle.cx_laws_run.specs.cx_laws_tickets.proofs.fetch.AskedWords.{Given, given_frame}
use Rattle.cx_laws_run.specs.cx_laws_tickets.proofs.fetch.Handed.{IsPlain}
use Rattle.cx_laws_run.specs.cx_laws_tickets.proofs.fetch.HandedLogin.{no-login}
use Rattle.cx_laws_run.specs.cx_laws_tickets.proofs.fetch.Later.{of_acceptor}
use Rattle.cx_laws_run.specs.cx_laws_tickets.proofs.fetch.MonitorGives.{StaysOpen, TellsBy, open-says}
use Rattle.cx_laws_run.specs.cx_laws_tickets.proofs.fetch.MonitorMoves.{IsAnyLogin, MonitorMoves}
use Rattle.cx_laws_run.specs.cx_laws_tickets.proofs.fetch.MonitorPlain.{open-plain, opened-plain}
use Rattle.cx_laws_run.specs.cx_laws_tickets.proofs.fetch.MonitorTurn.{HasUses, answers-still, turn-moves}
use Rattle.cx_laws_run.specs.cx_laws_tickets.proofs.fetch.PointEvents.{arrival_at, events_of}
use Rattle.cx_laws_run.specs.cx_laws_tickets.proofs.fetch.Retied.{Handed, generated-retied, means-retied, retied}
use Rattle.cx_laws_run.specs.cx_laws_tickets.proofs.fetch.RowOthers.{row-others}
use Rattle.cx_laws_run.specs.cx_laws_tickets.proofs.fetch.RowWords.{RowSays, opened-quiet, opened-says}
use Rattle.cx_laws_run.proofs.cover.LostLinks.{lost-seals}
use Rattle.cx_laws_run.proofs.cover.LostTold.{lost-behind}
use Rattle.cx_laws_run.proofs.cover.MonitorQuiet.{MonitorReady, grows-here, inv-here, one-behind}
use Rattle.cx_laws_run.proofs.cover.MonitorStays.{lost-stays}
use Rattle.cx_laws_run.proofs.cover.MonitorWords.{moves-behind, row-connector}
use Rattle.cx_laws_run.proofs.cover.OpenOwn.{open-own}
use Rattle.cx_laws_run.proofs.cover.State.{IsLost, MonitorHas}
use Rattle.cx_laws_run.proofs.cover.Steps.{MonitorBehind}

-- of a turn at this point of a link that is open for this entity, at which this frame is read
module _ (run : WholeRun) (whole : List Logged) (us vs : Uses) (logins : List Handed) (told : Told) (past : List Point) (p : Point) (log : List Logged) (J K : List Entry)
    (link : Link MonitorStage) (s : Secured) (bearer : Bearer) (g : Frame) (m : ℕ) (read : secure_frame_at (sealed_ahead s.keys link) ≡ Ok (Some (g, m))) where
  abbrev ws : Uses
  ws = retied logins us

  abbrev xs : Uses
  xs = retied logins vs

  abbrev pub a : MonitorArrival
  a = at (arrival_at p link) (taking link m)

  abbrev pub k : Secured
  k = under s (keys_behind s.keys g)

  abbrev pub opened : List SealEntry
  opened = opened_parts (sealed_ahead s.keys link)

  abbrev pub row : MonitorRow
  row = with_opened opened (on_open Open a k bearer g)

  abbrev pub links : List (Link MonitorStage)
  links = links_behind p.nodes.monitor.links link.number row.sends row.link

  abbrev rotated : Server
  rotated = rotated_server p.happening.reading p.happening.draw p.nodes.monitor.own.server

  abbrev pub Kept : Option Given → Secured → Link MonitorStage → Type 0
  Kept word u l = StaysOpen link.number bearer.name u l

  module _ (es : List SealEntry) (r : MonitorReady run whole us vs logins told past p log J K es row.own links) (ok : BearerOk r.owner us s.keys bearer) where
    abbrev line : ℕ
    line = p.happening.line

    -- what the monitor has behind its rotation, where a message is heard
    uses : (demand : Demand) → heard bearer g ≡ Ok demand → HasUses xs rotated bearer
    uses demand heard_as =
        let own : row.own.server ≡ rotated = open-own a k bearer g demand heard_as in
        record {
          generated = λ service. generated-retied logins vs K service (generations_of rotated.state service)
              (subst (λ (server : Server). AreGenerated vs service (generations_of server.state service)) own (r.generated service));
          secret = λ key is. means-retied logins vs key.secret (Secret bearer.name)
              (by_found (subst (λ (server : Server). AllByRecursion (λ (q : Principal). Means vs q.key.secret (Secret q.name)) server.ring) own r.ring) key (find (is_named bearer.name) rotated.ring) refl is);
          session = means-retied logins vs bearer.session (Login bearer.name) (r.grows.means bearer.session (Login bearer.name) ok.session);
        }
      where
        by_found : AllByRecursion (λ (q : Principal). Means vs q.key.secret (Secret q.name)) rotated.ring → (key : Key) (found : Option Principal) → find (is_named bearer.name) rotated.ring ≡ found
            → option_map (λ (q : Principal). q.key) found ≡ Some key → Means vs key.secret (Secret bearer.name)
        by_found ring key None at e = absurd cc
        by_found ring key (Some q) at e =
            let same : q.key ≡ key = cc in subst (λ (x : Key). Means vs x.secret (Secret bearer.name)) same (found_secret vs bearer.name rotated.ring q ring at)

    one : (key : List ℕ) (u v : Use) → Means xs key u → Means xs key v → u ≡ v
    one = one-behind run whole us vs logins told past p log J K es row.own links r

    grows : Grows ws xs
    grows = grows-here run whole us vs logins told past p log J K es row.own links r

    inv : Inv run whole ws log J
    inv = inv-here run whole us vs logins told past p log J K es row.own links r

    pub says : RowSays given_frame (IsAnyLogin xs) Kept (TellsBy a bearer g) k row
    says =
        opened-says given_frame (IsAnyLogin xs) Kept (TellsBy a bearer g) opened k (on_open Open a k bearer g) (opened-quiet (sealed_ahead s.keys link))
        (open-says (IsAnyLogin xs) a k bearer g
        (λ demand heard_as made same.
        answers-still xs one (record { saved = p.nodes.monitor.own.saved; reading = p.happening.reading; draw = p.happening.draw }) p.nodes.monitor.own.server bearer (uses demand heard_as)
        demand.request made same))

    plain-row : (challenge : ℕ) → Means ws s.keys.key (Connected node.Monitor link.number bearer.name (AtMonitor challenge)) → AllByRecursion (IsPlain xs) row.seals
    plain-row challenge means =
        let linked : Use = Connected node.Monitor link.number bearer.name (AtMonitor challenge) in
        all-append (IsPlain xs) opened (on_open Open a k bearer g).seals (opened-plain xs (sealed_ahead s.keys link))
        (open-plain xs k linked (grows.means s.keys.key linked means) (no-login node.Monitor link.number bearer.name (AtMonitor challenge)) a bearer g
        (λ demand heard_as. ((uses demand heard_as).generated, (uses demand heard_as).secret)))

    others-none : (other : List ℕ) → IsAnyLogin xs other → bytes_eq s.keys.key other ≡ false → contents_by other of_acceptor row.seals ≡ []
    others-none other is apart = row-others given_frame (IsAnyLogin xs) Kept (TellsBy a bearer g) k row says other is apart of_acceptor

  -- ---- no save fails

  module _ (r : MonitorReady run whole us vs logins told past p log J K row.seals row.own links) (ok : BearerOk r.owner us s.keys bearer) where
    -- all that it says was said
    pub said-behind : (b : IsBearing run ws told log link.number s bearer.name) (number : ℕ) → link.number ≡ number → p.happening.input ≡ Turn number
        → link_of number p.nodes.monitor.links ≡ Some link → link.stage ≡ Open s bearer → (stepped_at p).failed ≡ false → MonitorBehind run us vs logins told past p log row.seals links
    said-behind b number numbered turns found stage kept =
        let moves : MonitorMoves Kept run (events_of (p ∷ past)) xs told (behind node.Monitor p.happening.line row.seals log) number bearer.name s.keys.key row =
        turn-moves run whole ws xs log J p.happening.line (one row.seals r ok) (grows row.seals r ok) (inv row.seals r ok) past p told r.has.known_of number link s bearer
        (subst (λ (n : ℕ). IsBearing run ws told log n s bearer.name) numbered b) g m r.here turns found stage kept (uses row.seals r ok)
        (granted-first run.leaked whole node.Monitor p.happening.line log opened (on_open Open a k bearer g).seals r.granted) read in
        let here : MonitorMoves Kept run (events_of (p ∷ past)) xs told (behind node.Monitor p.happening.line row.seals log) link.number bearer.name s.keys.key row =
        subst (λ (n : ℕ). MonitorMoves Kept run (events_of (p ∷ past)) xs told (behind node.Monitor p.happening.line row.seals log) n bearer.name s.keys.key row) (sym numbered) moves in
        moves-behind run whole us vs logins told past p log J K row.seals row.own links r link.number bearer.name s.keys.key b.challenge b.means (others-none row.seals r ok) Kept row here
        (λ other is. row-connector (IsAnyLogin xs) Kept (TellsBy a bearer g) k row (says row.seals r ok) b.out other is) (plain-row row.seals r ok b.challenge b.means)
        (λ l word u kept_so bearing. (kept_so.0, open-has (behind node.Monitor p.happening.line row.seals log) here.next l u kept_so bearing)) row.sends
      where
        open-has : (then : List Logged) (next : Told) (l : Link MonitorStage) (u : Secured) → StaysOpen link.number bearer.name u l → IsBearing run xs next then link.number u bearer.name
            → MonitorHas run xs next then link.number l.stage
        open-has then next l u (same, who, is, named) bearing =
            subst (λ (st : MonitorStage). MonitorHas run xs next then link.number st) (sym is) (inl (subst (λ (n : Name). IsBearing run xs next then link.number u n) (sym named) bearing))

    -- it was lost, and stays so
    pub lost-said : IsLost ws told log link.number s bearer.name → MonitorBehind run us vs logins told past p log row.seals links
    lost-said h = by_says (says row.seals r ok)
      where
        then : List Logged
        then = behind node.Monitor p.happening.line row.seals log

        at_behind : IsLost ws told log link.number k bearer.name
        at_behind =
            record { challenge = h.challenge; means = h.means; beyond = h.beyond; some = h.some; among = h.among; counter = h.counter; out = h.out; fits = h.fits }

        goes : (u : Secured) → IsLost xs told then link.number u bearer.name → (o : Option (Link MonitorStage)) → IfSome o (Kept None u)
            → IfSome o (λ (l : Link MonitorStage). (l.number ≡ link.number) × MonitorHas run xs told then link.number l.stage)
        goes u lost None kept = tt
        goes u lost (Some l) (same, who, is, named) = (
          same,
          subst (λ (st : MonitorStage). MonitorHas run xs told then link.number st) (sym is) (inr (subst (λ (n : Name). IsLost xs told then link.number u n) (sym named) lost)),
        )

        behind-lost : (u : Secured) → u.keys.key ≡ s.keys.key → IsLost xs told then link.number u bearer.name → IfSome row.link (Kept None u)
            → MonitorBehind run us vs logins told past p log row.seals links
        behind-lost u same lost kept =
            lost-behind run whole us vs logins told past p log J K row.seals row.own links r link.number bearer.name s.keys.key h.challenge h.means (others-none row.seals r ok)
            (λ other is. row-connector (IsAnyLogin xs) Kept (TellsBy a bearer g) k row (says row.seals r ok) h.out other is) (plain-row row.seals r ok h.challenge h.means) row row.sends u same lost
            (goes u lost row.link kept)

        by_says : RowSays given_frame (IsAnyLogin xs) Kept (TellsBy a bearer g) k row → MonitorBehind run us vs logins told past p log row.seals links
        by_says (inl x) =
            behind-lost k refl
            (lost-stays ws xs (grows row.seals r ok) told told Quiets node.Monitor p.happening.line row.seals log link.number k bearer.name tt
            (x.still s.keys.key of_acceptor (bearer.name, h.challenge, record { number = link.number; means = (grows row.seals r ok).means s.keys.key (Connected node.Monitor link.number bearer.name (AtMonitor h.challenge)) h.means }))
            at_behind) x.link
        by_says (inr x) =
            let is = frame-sealed k.keys (given_frame x.word) x.sealed x.made in
            let there : IsLost xs told (behind node.Monitor p.happening.line x.before log) link.number k bearer.name =
            lost-stays ws xs (grows row.seals r ok) told told Quiets node.Monitor p.happening.line x.before log link.number k bearer.name tt
            (x.still s.keys.key of_acceptor (bearer.name, h.challenge, record { number = link.number; means = (grows row.seals r ok).means s.keys.key (Connected node.Monitor link.number bearer.name (AtMonitor h.challenge)) h.means }))
            at_behind in
            let sealed : IsLost xs told (behind node.Monitor p.happening.line (sealed_under k.keys (given_frame x.word)).seals (behind node.Monitor p.happening.line x.before log)) link.number
            (under k (sealed_under k.keys (given_frame x.word)).keys) bearer.name =
            lost-seals run xs told link.number bearer.name x.word node.Monitor p.happening.line (behind node.Monitor p.happening.line x.before log) k there is.1 in
            let log_is : behind node.Monitor p.happening.line row.seals log
            ≡ behind node.Monitor p.happening.line (sealed_under k.keys (given_frame x.word)).seals (behind node.Monitor p.happening.line x.before log) =
            ap (λ (l : List SealEntry). behind node.Monitor p.happening.line l log) (x.seals ∙ ap (λ (f : SealedFrame). x.before ++ f.seals) is.0)
            ∙ behind-append node.Monitor p.happening.line x.before (sealed_under k.keys (given_frame x.word)).seals log in
            behind-lost (under k (sealed_under k.keys (given_frame x.word)).keys) refl
            (subst (λ (l : List Logged). IsLost xs told l link.number (under k (sealed_under k.keys (given_frame x.word)).keys) bearer.name) (sym log_is) sealed)
            (subst (λ (f : SealedFrame). IfSome row.link (Kept None (under k f.keys))) is.0 x.link)
