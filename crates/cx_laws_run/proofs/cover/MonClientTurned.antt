-- A turn of a link to the monitor of one that logs in, in any stage: all that is known stays so, with what was said.
use Rattle.std.proofs.Common.{◌≡◌, ℕ, List, [], ◌∷◌, ◌++◌, Option, Some, Ok, refl, sym, ◌∙◌, subst}
use Rattle.std.specs.List.{AllByRecursion}
use Rattle.cx_base.specs.Names.{Name}
use Rattle.cx_base.specs.declared.nodes.NodeName.{NodeName}
use Rattle.cx_base.specs.declared.nodes.NodeName.TheVariants as node
use Rattle.cx_control.specs.Auth.{auth_signature_layout}
use Rattle.cx_control.specs.Hello.{hello_layout}
use Rattle.cx_frame.specs.declared.frame.Frame.{Frame}
use Rattle.cx_journal.specs.declared.entries.Entry.{Entry}
use Rattle.cx_laws_run.proofs.cover.MonClientBehind.{MonClientReady, mon_client-says}
use Rattle.cx_laws_run.proofs.cover.State.{MonClientHas}
use Rattle.cx_laws_run.specs.cx_laws_tickets.proofs.fetch.AskedKnown.{MonClientTold, IsMonClient, IsAwaited, IsLoginKey, Told}
use Rattle.cx_laws_run.specs.cx_laws_tickets.proofs.fetch.AskedWords.{Asked, asked_frame, last_number}
use Rattle.cx_laws_run.specs.cx_laws_tickets.proofs.fetch.MonClientDrew.{challenged-drew}
use Rattle.cx_laws_run.specs.cx_laws_tickets.proofs.fetch.MonClientFacts.{StageTold, hears-one}
use Rattle.cx_laws_run.specs.cx_laws_tickets.proofs.fetch.MonClientMoves.{words_of}
use Rattle.cx_laws_run.specs.cx_laws_tickets.proofs.fetch.MonClientOpening.{ident-moves}
use Rattle.cx_laws_run.specs.cx_laws_tickets.proofs.fetch.MonClientPlain.{identified-plain, open-plain}
use Rattle.cx_laws_run.specs.cx_laws_tickets.proofs.fetch.MonClientSays.{IsSaidAt, KeepsOpen, identified-says, open-says}
use Rattle.cx_laws_run.specs.cx_laws_tickets.proofs.fetch.MonClientTells.{RowTold, turned-told}
use Rattle.cx_laws_run.specs.cx_laws_tickets.proofs.fetch.MonClientTurn.{open-moves, open-told}
use Rattle.cx_laws_run.specs.cx_laws_tickets.proofs.fetch.Handed.{IsPlain}
use Rattle.cx_laws_run.specs.cx_laws_tickets.proofs.fetch.HandedLogin.{no-login}
use Rattle.cx_laws_run.specs.cx_laws_tickets.proofs.fetch.MonitorMoves.{IsAnyLogin}
use Rattle.cx_laws_run.specs.cx_laws_tickets.proofs.fetch.MonitorPlain.{opened-plain}
use Rattle.cx_laws_run.specs.cx_laws_tickets.proofs.fetch.PointEvents.{events_of, more-events}
use Rattle.cx_laws_run.specs.cx_laws_tickets.proofs.fetch.Retied.{Handed}
use Rattle.cx_laws_run.specs.cx_laws_tickets.proofs.fetch.RowWords.{opened-quiet, opened-says}
use Rattle.cx_laws_run.specs.cx_laws_tickets.proofs.fetch.Words.{said_under}
use Rattle.cx_laws_run.specs.cx_laws_keys.proofs.keys.Lists.{all-append}
use Rattle.cx_laws_run.specs.cx_laws_keys.proofs.keys.Premises.{behind, granted-first}
use Rattle.cx_laws_run.specs.cx_laws_keys.proofs.keys.Uses.{AtMonitor, Connected, Means, Secret, Use, Uses, WholeRun}
use Rattle.cx_laws_run.specs.cx_rules.specs.Connector.{MonClientArrival, MonClientRow, Stage, AwaitsBanner, AwaitsHello, AwaitsChallenge, AwaitsDone, AwaitsSignature, AwaitsIdent, Open, on_banner, on_hello, on_signature, turned_at, while_challenged, while_identified, while_proved}
use Rattle.cx_laws_run.specs.cx_rules.specs.Fronts.{keys_behind, opened_parts, sealed_ahead, taking}
use Rattle.cx_laws_run.specs.cx_rules.specs.Links.{Link}
use Rattle.cx_laws_run.specs.cx_rules.specs.Payloads.{due}
use Rattle.cx_laws_run.specs.cx_rules.specs.Requests.{Requests, no_requests, on_open}
use Rattle.cx_laws_run.specs.cx_rules.specs.Rows.{at, with_opened}
use Rattle.cx_laws_run.specs.cx_rules.specs.Secured.{Secured, under}
use Rattle.cx_laws_run.specs.cx_run.specs.Points.{Point}
use Rattle.cx_steps.specs.Premises.{IsExcepted}
use Rattle.cx_steps.specs.declared.seals.Logged.{Logged}
use Rattle.cx_steps.specs.declared.seals.SealEntry.{SealEntry}
use Rattle.cx_laws_run.specs.cx_stream.specs.SecureStreams.{secure_frame_at}
use Rattle.cx_laws_run.proofs.cover.MonClientFirst as first
use Rattle.cx_laws_run.proofs.cover.MonClientSigning.{done-behind, signature-behind}

module _ (run : WholeRun) (whole : List Logged) (us vs : Uses) (logins : List Handed) (told : Told) (past : List Point) (p : Point) (name : Name) (log : List Logged) (J : List Entry)
    (r : MonClientReady run whole us vs logins told past p name log J) (link : ℕ) where
  abbrev n : NodeName
  n = node.Entity name

  abbrev line : ℕ
  line = p.happening.line

  abbrev HasBehind : Told → List Logged → List ℕ → Stage → Type 0
  HasBehind next later sent stage = first.HasBehind run whole us vs logins told past p name log J r link next later sent stage

  abbrev BehindAt : MonClientRow → Type 0
  BehindAt row = first.BehindAt run whole us vs logins told past p name log J r link row

  -- ---- which keys it has

  held : (key : List ℕ) (challenge : ℕ) → IsLoginKey us key name challenge → IsExcepted run.leaked whole n key → ⊥
  held key challenge is excepted = r.free key (Connected node.Monitor is.number name (AtMonitor challenge)) is.means refl excepted

  module _ (a : MonClientArrival) (here : a.link.number ≡ link) (reads : a.reading ≡ p.happening.reading) (draws : a.draw ≡ p.happening.draw) where
    -- ---- behind both signatures

    -- an open link is left, with what it had of its requests
    open-has : (s : Secured) (q : Requests) (later : List Logged) (bytes : List ℕ) → last_number 0 (said_under s.keys.key told.asked) ≡ q.count
        → AllByRecursion (IsAwaited (said_under s.keys.key told.asked)) q.waiting → (next : Told) (l : Link Stage) (word : Option Asked) (u : Secured) → KeepsOpen Open a.link.number q word u l
        → IsMonClient (events_of (p ∷ past)) vs next later name link u → u.keys.key ≡ s.keys.key → said_under s.keys.key next.asked ≡ said_under s.keys.key told.asked ++ words_of word
        → (l.number ≡ link) × HasBehind next later (l.sent ++ bytes) l.stage
    open-has s q later bytes counted awaited next l word u kept mon_client same said = (
      kept.0 ∙ here,
      subst (λ (stage : Stage). HasBehind next later (l.sent ++ bytes) stage) (sym kept.2)
          (open-told (events_of (p ∷ past)) vs told next later name link s.keys.key q kept.1 word u kept.3 mon_client same said counted awaited),
    )

    ident-behind : (s : Secured) (session : List ℕ) → MonClientTold (events_of past) us told log name link (AwaitsIdent s session) → (g : Frame) (m : ℕ)
        → secure_frame_at (sealed_ahead s.keys a.link) ≡ Ok (Some (g, m))
        → BehindAt (with_opened (opened_parts (sealed_ahead s.keys a.link)) (while_identified (at a (taking a.link m)) (under s (keys_behind s.keys g)) session g))
    ident-behind s session so g m read row_at =
        let k : Secured = under s (keys_behind s.keys g) in
        let opened : List SealEntry = opened_parts (sealed_ahead s.keys a.link) in
        let b : MonClientArrival = at a (taking a.link m) in
        let row : MonClientRow = with_opened opened (while_identified b k session g) in
        let use_of : Use = Connected node.Monitor so.0.is.number name (AtMonitor so.0.challenge) in
        let moves = ident-moves run whole us vs log J n line r.one r.grows r.inv (events_of past) (events_of (p ∷ past)) (more-events p past) told r.known_of name link s a.link g m session so
        (held s.keys.key so.0.challenge so.0.is) (granted-first run.leaked whole n line log opened (while_identified b k session g).seals row_at.granted) read a (first.now run whole us vs logins told past p name log J r link a here reads draws) in
        mon_client-says run whole us vs logins told past p name log J r link HasBehind (KeepsOpen Open a.link.number (no_requests session)) (IsSaidAt a.reading 0) k so.0.challenge so.0.is so.0.drew so.0.out row
        (opened-says asked_frame (IsAnyLogin vs) (KeepsOpen Open a.link.number (no_requests session)) (IsSaidAt a.reading 0) opened k _ (opened-quiet (sealed_ahead s.keys a.link))
        (identified-says (IsAnyLogin vs) b k session g)) moves
        (all-append (IsPlain vs) opened _ (opened-plain vs (sealed_ahead s.keys a.link))
        (identified-plain vs k use_of (r.grows.means s.keys.key use_of so.0.is.means) (no-login node.Monitor so.0.is.number name (AtMonitor so.0.challenge)) b session g))
        (λ l word u kept mon_client same said. open-has s (no_requests session) (behind n line row.seals log) row.sends so.1 tt moves.next l word u kept mon_client same said)

    open-behind : (s : Secured) (q : Requests) → MonClientTold (events_of past) us told log name link (Open s q) → (g : Frame) (m : ℕ) → secure_frame_at (sealed_ahead s.keys a.link) ≡ Ok (Some (g, m))
        → BehindAt (with_opened (opened_parts (sealed_ahead s.keys a.link)) (on_open Open (at a (taking a.link m)) (under s (keys_behind s.keys g)) q g))
    open-behind s q so g m read row_at =
        let k : Secured = under s (keys_behind s.keys g) in
        let opened : List SealEntry = opened_parts (sealed_ahead s.keys a.link) in
        let b : MonClientArrival = at a (taking a.link m) in
        let row : MonClientRow = with_opened opened (on_open Open b k q g) in
        let use_of : Use = Connected node.Monitor so.0.is.number name (AtMonitor so.0.challenge) in
        let moves = open-moves run whole us vs log J n line r.one r.grows r.inv (events_of past) (events_of (p ∷ past)) (more-events p past) told r.known_of name link s q so
        (held s.keys.key so.0.challenge so.0.is) a.link g m (granted-first run.leaked whole n line log opened (on_open Open b k q g).seals row_at.granted) read a (first.now run whole us vs logins told past p name log J r link a here reads draws) in
        mon_client-says run whole us vs logins told past p name log J r link HasBehind (KeepsOpen Open a.link.number q) (IsSaidAt a.reading q.count) k so.0.challenge so.0.is so.0.drew so.0.out row
        (opened-says asked_frame (IsAnyLogin vs) (KeepsOpen Open a.link.number q) (IsSaidAt a.reading q.count) opened k _ (opened-quiet (sealed_ahead s.keys a.link)) (open-says Open (IsAnyLogin vs) b k q g))
        moves
        (all-append (IsPlain vs) opened _ (opened-plain vs (sealed_ahead s.keys a.link))
        (open-plain vs k use_of (r.grows.means s.keys.key use_of so.0.is.means) (no-login node.Monitor so.0.is.number name (AtMonitor so.0.challenge)) b q g))
        (λ l word u kept mon_client same said. open-has s q (behind n line row.seals log) row.sends so.1 so.2 moves.next l word u kept mon_client same said)

    -- ---- a turn

    -- in any stage, by what the link tells and what is known of it
    pub mon_client-turned : (D : ℕ → Frame → Type 0) (A : ℕ → Type 0) (stage : Stage) → StageTold D A a.link.received a.link.taken a.link.sent stage
        → MonClientHas (events_of past) us logins told log name link a.link.sent stage → Means us a.own.secret (Secret name) → first.TurnBehind run whole us vs logins told past p name log J r link a (turned_at a stage)
    mon_client-turned D A (AwaitsBanner asked) tells has secret = first.banner-behind run whole us vs logins told past p name log J r link a here reads draws (λ l. on_banner (at a l) asked) (λ m. first.first-behind run whole us vs logins told past p name log J r link a here reads draws asked (at a (taking a.link m)) here)
    mon_client-turned D A (AwaitsHello asked) tells has secret =
        first.plain-behind run whole us vs logins told past p name log J r link a here reads draws (λ l f. on_hello (at a l) asked (due 1 hello_layout.form f)) (λ (row : MonClientRow). Unit {0}) (first.nothing-else run whole us vs logins told past p name log J r link a here reads draws _)
        (λ f m read q. first.hello-behind run whole us vs logins told past p name log J r link a here reads draws asked (at a (taking a.link m)) here (due 1 hello_layout.form f))
    mon_client-turned D A (AwaitsChallenge asked) tells has secret =
        first.plain-behind run whole us vs logins told past p name log J r link a here reads draws (λ l f. while_challenged (at a l) asked f) (RowTold (λ (_ : ℕ) (_ : Frame). ⊥) (λ (_ : ℕ). Unit {0}) a)
        (turned-told (λ (_ : ℕ) (_ : Frame). ⊥) (λ (_ : ℕ). Unit {0}) a tt (AwaitsChallenge asked) tells)
        (λ f m read q. first.drew-behind run whole us vs logins told past p name log J r link a here reads draws (at a (taking a.link m)) (while_challenged (at a (taking a.link m)) asked f) here refl
        (challenged-drew vs name (at a (taking a.link m)) (r.grows.means a.own.secret (Secret name) secret) asked f) q)
    mon_client-turned D A AwaitsDone tells has secret =
        first.plain-behind run whole us vs logins told past p name log J r link a here reads draws (λ l f. while_proved (at a l) f) (λ (row : MonClientRow). Unit {0}) (first.nothing-else run whole us vs logins told past p name log J r link a here reads draws _)
        (λ f m read q. done-behind run whole us vs logins told past p name log J r link a here reads draws (at a (taking a.link m)) f here secret has (hears-one a.link.received a.link.taken (1 ∷ 4 ∷ []) f m tells.0 read))
    mon_client-turned D A (AwaitsSignature s login) tells has secret =
        first.secure-behind run whole us vs logins told past p name log J r link a here reads draws s.keys (λ (link, f, keys) opened. with_opened opened (on_signature (at a link) (under s keys) login (due 7 auth_signature_layout.form f)))
        (λ f m read. signature-behind run whole us vs logins told past p name log J r link a here reads draws s login has.0 has.1 f m)
    mon_client-turned D A (AwaitsIdent s session) tells has secret =
        first.secure-behind run whole us vs logins told past p name log J r link a here reads draws s.keys (λ (link, f, keys) opened. with_opened opened (while_identified (at a link) (under s keys) session f)) (λ f m read. ident-behind s session has f m read)
    mon_client-turned D A (Open s q) tells has secret =
        first.secure-behind run whole us vs logins told past p name log J r link a here reads draws s.keys (λ (link, f, keys) opened. with_opened opened (on_open Open (at a link) (under s keys) q f)) (λ f m read. open-behind s q has f m read)
