-- A turn of a link to the monitor of one that logs in, until AUTH_DONE: nothing is said there; and the row that answers the monitor's challenge draws one of its own.
use Rattle.std.proofs.Common.{◌≡◌, ◌<◌, ◌^◌, ℕ, List, [], ◌∷◌, ◌++◌, Option, Some, None, Result, Ok, Err, inl, refl, sym, ap, ◌∙◌, subst}
use Rattle.std.specs.Prelude.{IfSome}
use Rattle.std.specs.List.{AllByRecursion}
use Rattle.cx_base.specs.Names.{Name}
use Rattle.cx_base.specs.declared.nodes.NodeName.{NodeName}
use Rattle.cx_base.specs.declared.nodes.NodeName.TheVariants as node
use Rattle.cx_control.specs.declared.hello.Hello.{Hello}
use Rattle.cx_dice.specs.Draws.{challenge_of}
use Rattle.cx_frame.specs.Banners.{banner_at}
use Rattle.cx_frame.specs.declared.banner.Banner.{Banner}
use Rattle.cx_frame.specs.declared.frame.Frame.{Frame}
use Rattle.cx_frame.specs.declared.refusals.BannerRefusal.{BannerRefusal}
use Rattle.cx_frame.specs.declared.refusals.FrameRefusal.{FrameRefusal}
use Rattle.cx_journal.specs.declared.entries.Entry.{Entry}
use Rattle.cx_journal.specs.declared.faults.BytesFault.{BytesFault}
use Rattle.cx_laws_run.proofs.cover.MonClientBehind.{MonClientBehind, MonClientReady, IsRowAt, mon_client-still, quiet-nothing}
use Rattle.cx_laws_run.proofs.cover.State.{MonClientHas, IsOwnAnswer}
use Rattle.cx_laws_run.specs.cx_laws_tickets.proofs.fetch.AllTold.{IsChallenging}
use Rattle.cx_laws_run.specs.cx_laws_tickets.proofs.fetch.AskedKnown.{Told}
use Rattle.cx_laws_run.specs.cx_laws_tickets.proofs.fetch.MonClientDrew.{DrewRow, OwnAnswered, drew-answered}
use Rattle.cx_laws_run.specs.cx_laws_tickets.proofs.fetch.MonClientFacts.{Drew, HasAnswered, StageTold}
use Rattle.cx_laws_run.specs.cx_laws_tickets.proofs.fetch.MonClientTells.{RowTold}
use Rattle.cx_laws_run.specs.cx_laws_tickets.proofs.fetch.Handed.{IsPlain}
use Rattle.cx_laws_run.specs.cx_laws_tickets.proofs.fetch.MonitorPlain.{opened-plain}
use Rattle.cx_laws_run.specs.cx_laws_tickets.proofs.fetch.OwnDraws.{unsaid-now}
use Rattle.cx_laws_run.specs.cx_laws_tickets.proofs.fetch.PointEvents.{events_of}
use Rattle.cx_laws_run.specs.cx_laws_tickets.proofs.fetch.Retied.{Handed}
use Rattle.cx_laws_run.specs.cx_laws_tickets.proofs.fetch.RowWords.{AreQuiet, opened-quiet}
use Rattle.cx_laws_run.specs.cx_laws_tickets.proofs.fetch.SameChallenge.{challenge-small}
use Rattle.cx_laws_run.specs.cx_laws_tickets.proofs.fetch.WrittenFrames.{answer_frame}
use Rattle.cx_laws_run.specs.cx_laws_keys.proofs.keys.Premises.{behind}
use Rattle.cx_laws_run.specs.cx_laws_keys.proofs.keys.Uses.{Uses, WholeRun}
use Rattle.cx_laws_run.specs.cx_rules.specs.Connector.{MonClientArrival, MonClientRow, Stage, AwaitsHello, AwaitsChallenge, AwaitsDone, login_request, on_banner, on_hello}
use Rattle.cx_laws_run.specs.cx_rules.specs.Fronts.{ahead_of, banner_next, banner_read, keys_behind, opened_parts, plain_next, plain_read, sealed_ahead, secure_next, secure_read, taking}
use Rattle.cx_laws_run.specs.cx_rules.specs.Greetings.{own_hello}
use Rattle.cx_laws_run.specs.cx_rules.specs.Holdings.{MonClient}
use Rattle.cx_laws_run.specs.cx_rules.specs.Judged.{LogsDraw}
use Rattle.cx_laws_run.specs.cx_rules.specs.Links.{Link}
use Rattle.cx_laws_run.specs.cx_rules.specs.Rows.{Turned, Waits, Refuses, Handles, piece, plain_sent, refuses_bytes, turned_by}
use Rattle.cx_laws_run.specs.cx_rules.specs.Secured.{Keys, plain_frame}
use Rattle.cx_laws_run.specs.cx_run.proofs.Taking.{EachRow}
use Rattle.cx_laws_run.specs.cx_run.specs.Points.{Point}
use Rattle.cx_secure.specs.declared.refusals.SecureRefusal.{SecureRefusal}
use Rattle.cx_steps.specs.declared.seals.DrawMark.TheVariants as draw
use Rattle.cx_steps.specs.declared.seals.Logged.{Logged}
use Rattle.cx_steps.specs.declared.seals.SealEntry.{SealEntry}
use Rattle.cx_laws_run.specs.cx_stream.specs.PlainStreams.{plain_frame_at}
use Rattle.cx_laws_run.specs.cx_stream.specs.SecureStreams.{secure_frame_at}

module _ (run : WholeRun) (whole : List Logged) (us vs : Uses) (logins : List Handed) (told : Told) (past : List Point) (p : Point) (name : Name) (log : List Logged) (J : List Entry)
    (r : MonClientReady run whole us vs logins told past p name log J) (link : ℕ) where
  abbrev n : NodeName
  n = node.Entity name

  abbrev line : ℕ
  line = p.happening.line

  -- what is said of the stage of the link behind it
  abbrev pub HasBehind : Told → List Logged → List ℕ → Stage → Type 0
  HasBehind next later sent stage = MonClientHas (events_of (p ∷ past)) vs logins next later name link sent stage

  abbrev pub Behind : MonClientRow → Type 0
  Behind row = MonClientBehind HasBehind run us vs logins told past p name log link row

  -- where the row is what the step comes to
  abbrev pub BehindAt : MonClientRow → Type 0
  BehindAt row = IsRowAt run whole p name log link row.seals row.sends → Behind row

  -- the same of a turn: where it is refused, what opened was logged
  abbrev pub TurnBehind : MonClientArrival → Turned MonClient Stage → Type 0
  TurnBehind a Waits = Unit {0}
  TurnBehind a (Refuses why opened) = BehindAt (refuses_bytes a why opened)
  TurnBehind a (Handles row) = BehindAt row

  module _ (a : MonClientArrival) (here : a.link.number ≡ link) (reads : a.reading ≡ p.happening.reading) (draws : a.draw ≡ p.happening.draw) where
    -- at this reading the entity has an event
    pub now : (events_of (p ∷ past)).was_asked name a.reading
    now = inl (record { daemon_is = r.here; reading = sym reads })

    -- a row that seals nothing, on a link that was not answered yet
    pub quiet-behind : (row : MonClientRow) → AreQuiet row.seals → AllByRecursion (IsPlain vs) row.seals
        → IfSome row.link (λ (l : Link Stage). (l.number ≡ link) × HasBehind told (behind n line row.seals log) (l.sent ++ row.sends) l.stage) → Behind row
    quiet-behind row quiet plain has = mon_client-still run whole us vs logins told past p name log J r link HasBehind row (quiet-nothing row.seals quiet) plain has

    pub shuts-behind : (why : BytesFault) (opened : List SealEntry) → AreQuiet opened → AllByRecursion (IsPlain vs) opened → BehindAt (refuses_bytes a why opened)
    shuts-behind why opened quiet plain = λ at. quiet-behind (refuses_bytes a why opened) quiet plain tt

    -- ---- what is read

    pub banner-behind : (row : Link Stage → MonClientRow) → ((m : ℕ) → BehindAt (row (taking a.link m))) → TurnBehind a (turned_by (λ l _. row l) (banner_next a.link))
    banner-behind row each = by_read (banner_at (ahead_of a.link))
      where
        by_read : (read : Result (Option (Banner × ℕ)) BannerRefusal) → TurnBehind a (turned_by (λ l _. row l) (banner_read a.link read))
        by_read (Ok None) = tt
        by_read (Ok (Some (b, m))) = each m
        by_read (Err e) = shuts-behind _ [] tt tt

    pub plain-behind : (row : Link Stage → Frame → MonClientRow) (Q : MonClientRow → Type 0) → EachRow Q (turned_by (λ (l, f) _. row l f) (plain_next a.link))
        → ((f : Frame) (m : ℕ) → plain_frame_at (ahead_of a.link) ≡ Ok (Some (f, m)) → Q (row (taking a.link m) f) → BehindAt (row (taking a.link m) f))
        → TurnBehind a (turned_by (λ (l, f) _. row l f) (plain_next a.link))
    plain-behind row Q all each = by_read (plain_frame_at (ahead_of a.link)) refl all
      where
        by_read : (read : Result (Option (Frame × ℕ)) FrameRefusal) → plain_frame_at (ahead_of a.link) ≡ read → EachRow Q (turned_by (λ (l, f) _. row l f) (plain_read a.link read))
            → TurnBehind a (turned_by (λ (l, f) _. row l f) (plain_read a.link read))
        by_read (Ok None) e q = tt
        by_read (Ok (Some (f, m))) e q = each f m e q
        by_read (Err e) _ q = shuts-behind _ [] tt tt

    pub secure-behind : (keys : Keys) (row : Link Stage × Frame × Keys → List SealEntry → MonClientRow)
        → ((f : Frame) (m : ℕ) → secure_frame_at (sealed_ahead keys a.link) ≡ Ok (Some (f, m)) → BehindAt (row (taking a.link m, f, keys_behind keys f) (opened_parts (sealed_ahead keys a.link))))
        → TurnBehind a (turned_by row (secure_next keys a.link))
    secure-behind keys row each = by_read (secure_frame_at (sealed_ahead keys a.link)) refl
      where
        opened : List SealEntry
        opened = opened_parts (sealed_ahead keys a.link)

        by_read : (read : Result (Option (Frame × ℕ)) SecureRefusal) → secure_frame_at (sealed_ahead keys a.link) ≡ read → TurnBehind a (turned_by row (secure_read keys a.link opened read))
        by_read (Ok None) e = tt
        by_read (Ok (Some (f, m))) e = each f m e
        by_read (Err e) _ = shuts-behind _ opened (opened-quiet (sealed_ahead keys a.link)) (opened-plain vs (sealed_ahead keys a.link))

    -- ---- the monitor's challenge

    -- what is sent then tells the challenge of this draw
    answers-own : (seals : List SealEntry) (bytes sent : List ℕ) → IsRowAt run whole p name log link seals bytes → HasAnswered (Drew (λ (_ : ℕ) (_ : Frame). ⊥) a.draw seals bytes) sent
        → IsOwnAnswer (events_of (p ∷ past)) vs told name link sent
    answers-own seals bytes sent row h =
        let own : OwnAnswered (λ (c : ℕ) (f : Frame). IsChallenging name link c f p) sent (challenge_of a.draw) =
        drew-answered (λ (c : ℕ) (f : Frame). IsChallenging name link c f p) a.draw seals bytes sent (λ c f drawn logs is. record {
          node_is = r.here;
          drawn = drawn ∙ ap challenge_of draws;
          drew = subst (λ (es : List SealEntry). LogsDraw (draw.Challenge c) es) (sym row.seals_are) logs;
          sent = row.sends_are ∙ ap (λ (b : List ℕ). piece link b) is;
        }) h in
        let g = own.answered in
        let small : challenge_of a.draw < 2 ^ 64 = challenge-small a.draw (subst (λ (block : List ℕ). AllByRecursion (λ (b : ℕ). b < 256) block) (sym draws) r.bytes) in
        record {
          answered = record {
            kind = g.kind;
            mon_client = g.mon_client;
            ask = g.ask;
            server = g.server;
            challenge = g.challenge;
            written = g.written;
            own = (answer_frame g.ask g.server g.challenge, inl g.own);
          };
          small = subst (λ (c : ℕ). c < 2 ^ 64) (sym own.is) small;
          unsaid = unsaid-now run us vs r.one r.grows past p r.fresh.0 told log r.known_of name link g.challenge (answer_frame g.ask g.server g.challenge) g.own;
        }

    -- the row that answers it
    pub drew-behind : (b : MonClientArrival) (row : MonClientRow) → b.link.number ≡ link → b.draw ≡ a.draw → DrewRow vs b row → RowTold (λ (_ : ℕ) (_ : Frame). ⊥) (λ (_ : ℕ). Unit {0}) b row → BehindAt row
    drew-behind b row number same h tells = λ row_at. quiet-behind row h.quiet h.plain (by_link row.link h.link tells row_at)
      where
        by_link : (left : Option (Link Stage))
            → IfSome left (λ (l : Link Stage). (l.stage ≡ AwaitsDone) × (l.number ≡ b.link.number) × LogsDraw (draw.Challenge (challenge_of b.draw)) row.seals)
            → IfSome left (λ (l : Link Stage). (l.number ≡ b.link.number)
            × StageTold (Drew (λ (_ : ℕ) (_ : Frame). ⊥) b.draw row.seals row.sends) (λ (_ : ℕ). Unit {0}) l.received l.taken (l.sent ++ row.sends) l.stage)
            → IsRowAt run whole p name log link row.seals row.sends
            → IfSome left (λ (l : Link Stage). (l.number ≡ link) × HasBehind told (behind n line row.seals log) (l.sent ++ row.sends) l.stage)
        by_link None d t row_at = tt
        by_link (Some l) d t row_at =
            let done : StageTold (Drew (λ (_ : ℕ) (_ : Frame). ⊥) b.draw row.seals row.sends) (λ (_ : ℕ). Unit {0}) l.received l.taken (l.sent ++ row.sends) AwaitsDone =
            subst (λ (stage : Stage). StageTold (Drew (λ (_ : ℕ) (_ : Frame). ⊥) b.draw row.seals row.sends) (λ (_ : ℕ). Unit {0}) l.received l.taken (l.sent ++ row.sends) stage) d.0 t.1 in
            let answered : HasAnswered (Drew (λ (_ : ℕ) (_ : Frame). ⊥) a.draw row.seals row.sends) (l.sent ++ row.sends) =
            subst (λ (block : List ℕ). HasAnswered (Drew (λ (_ : ℕ) (_ : Frame). ⊥) block row.seals row.sends) (l.sent ++ row.sends)) same done.1 in (
              d.1 ∙ number,
              subst (λ (stage : Stage). HasBehind told (behind n line row.seals log) (l.sent ++ row.sends) stage) (sym d.0) (answers-own row.seals row.sends (l.sent ++ row.sends) row_at answered),
            )

    -- ---- rows that seal nothing

    pub nothing-else : (turned : Turned MonClient Stage) → EachRow (λ (row : MonClientRow). Unit {0}) turned
    nothing-else Waits = tt
    nothing-else (Refuses why opened) = tt
    nothing-else (Handles row) = tt

    pub hello-behind : (asked : ℕ) (b : MonClientArrival) → b.link.number ≡ link → (read : Result Hello BytesFault) → BehindAt (on_hello b asked read)
    hello-behind asked b number (Err why) = λ row_at. quiet-behind (on_hello b asked (Err why)) tt tt tt
    hello-behind asked b number (Ok hello) = by_sent (plain_frame (login_request b.own))
      where
        by_sent : (sent : Result (List ℕ) BytesFault) → BehindAt (plain_sent b (AwaitsChallenge asked) [] sent)
        by_sent (Err why) = λ row_at. quiet-behind (plain_sent b (AwaitsChallenge asked) [] (Err why)) tt tt tt
        by_sent (Ok bytes) = λ row_at. quiet-behind (plain_sent b (AwaitsChallenge asked) [] (Ok bytes)) tt tt (number, tt)

    pub first-behind : (asked : ℕ) (b : MonClientArrival) → b.link.number ≡ link → BehindAt (on_banner b asked)
    first-behind asked b number = by_sent (plain_frame (own_hello b.own.name.kind))
      where
        by_sent : (sent : Result (List ℕ) BytesFault) → BehindAt (plain_sent b (AwaitsHello asked) [] sent)
        by_sent (Err why) = λ row_at. quiet-behind (plain_sent b (AwaitsHello asked) [] (Err why)) tt tt tt
        by_sent (Ok bytes) = λ row_at. quiet-behind (plain_sent b (AwaitsHello asked) [] (Ok bytes)) tt tt (number, tt)
