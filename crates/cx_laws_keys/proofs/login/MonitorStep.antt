-- A step of the monitor, at any event.
use Rattle.std.proofs.Common.{◌≡◌, ℕ, ◌≤◌, Bool, true, false, List, [], ◌∷◌, ◌++◌, length, Option, Some, None, refl, sym, subst, arith, ◌<◌, ◌∙◌, Result, Ok, Err, lt-ltb, le-ltb}
use Rattle.std.specs.Prelude.{nat_le, if◌then◌else◌, nat_lt}
use Rattle.cx_base.specs.declared.kinds.EntityType.TheVariants.{Mon}
use Rattle.cx_rules.specs.cx_control.specs.Auth.{auth_request_layout, auth_request_more_layout, auth_signature_layout}
use Rattle.cx_rules.specs.cx_control.specs.Hello.{hello_layout}
use Rattle.cx_laws_keys.specs.cx_journal.specs.declared.entries.Entry.{Entry}
use Rattle.cx_laws_keys.specs.cx_journal.specs.declared.entries.Entry.TheVariants as journal
use Rattle.cx_base.specs.declared.nodes.NodeName.{NodeName}
use Rattle.cx_base.specs.declared.nodes.NodeName.TheVariants as node
use Rattle.cx_laws_keys.specs.cx_journal.specs.declared.outcomes.Reason.TheVariants as reason
use Rattle.cx_rules.specs.cx_rotate.specs.declared.states.KeptState.{KeptState}
use Rattle.cx_rules.specs.Acceptor.{AwaitsBanner, AwaitsHello, AwaitsRequest, AwaitsProof, AwaitsSignature, AwaitsIdent, Open, on_auth_request, on_banner, on_hello, on_signature}
use Rattle.cx_rules.specs.Greetings.{own_banner}
use Rattle.cx_rules.specs.Inputs.{Input, Opened, NoLink, Bytes, Turn, Gone, Look, Tick, Submit, Restart}
use Rattle.cx_rules.specs.Links.{Link, link_of}
use Rattle.cx_rules.specs.Monitor.{MonitorArrival, MonitorNode, MonitorRow, MonitorStage, Offered, Monitor}
use Rattle.cx_rules.specs.MonitorRule.{monitor_rule, monitor_step, noted, on_auth_request_more, on_ident, on_request_payload, opens, restarted, turn, turned_at, unsaved}
use Rattle.cx_rules.specs.Payloads.{due}
use Rattle.cx_rules.specs.Rows.{Outcome, arrival, at, carried_out, fed, forgotten, goes_on, idles, new_link, opens_none, refused_entry, refuses, turned_by, with_opened, turns, refuses_bytes, Turned}
use Rattle.cx_rules.specs.Secured.{under, Secured, Keys}
use Rattle.cx_rules.specs.cx_steps.specs.declared.seals.Logged.{Logged}
use Rattle.cx_laws_keys.proofs.keys.Journal.{After, IsNotIssued, after-then}
use Rattle.cx_laws_keys.proofs.keys.Known.{Inv, Within}
use Rattle.cx_laws_keys.proofs.keys.Premises.{AreGranted, behind, granted-rest}
use Rattle.cx_laws_keys.proofs.keys.Uses.{Uses, stays, WholeRun}
use Rattle.cx_laws_keys.proofs.login.Authenticating.{request_more-after}
use Rattle.cx_laws_keys.proofs.login.Facts.{AreBelow, OwnOk, StageOk, own-entered, BearerOk, Owner, bearer-moves, Keeps, OfferOk, stage-keeps}
use Rattle.cx_laws_keys.proofs.login.Generations.{StateOk, AreRecorded}
use Rattle.cx_laws_keys.proofs.login.MonitorRows.{banner-simple, hello-simple, ident-simple, monitor_says, request-simple, signature-simple}
use Rattle.cx_laws_keys.proofs.login.Rows.{IsQuietEntry, AfterRow, AfterStep, LinkOk, NodeOk, TurnOk, after-quiet, after-simple, all-put, all-without, carried, found-link, idle, reached-allowed, simple-goes_on, simple-refuses, turned-ok, Allowed, LinksOk, RowOk, simple-refuses_bytes, opened-allowed}
use Rattle.cx_laws_keys.proofs.login.Turns.{turn-banner, turn-plain, turn-secure}
use Rattle.cx_rules.specs.declared.responses.Bearer.{Bearer}
use Rattle.cx_rules.specs.MonitorRequests.{on_open}
use Rattle.cx_rules.specs.Fronts.{ahead_of, plain_read, taking, opened_parts, sealed_ahead, secure_read, keys_behind}
use Rattle.cx_rules.specs.cx_frame.specs.declared.frame.Frame.{Frame}
use Rattle.cx_laws_keys.proofs.login.Replying.{open-after}
use Rattle.cx_laws_keys.proofs.keys.Lists.{all-map}
use Rattle.cx_rules.specs.cx_steps.specs.declared.seals.SealEntry.{SealEntry}
use Rattle.cx_rules.specs.cx_frame.specs.declared.refusals.FrameRefusal.{FrameRefusal}
use Rattle.cx_rules.specs.cx_stream.specs.PlainStreams.{plain_frame_at}
use Rattle.cx_rules.specs.cx_secure.specs.declared.refusals.SecureRefusal.{SecureRefusal}
use Rattle.cx_rules.specs.cx_stream.specs.SecureStreams.{secure_frame_at}

-- behind a step: whose the global ids are then, and what is so of the monitor
pub record MonitorAfter (run : WholeRun) (whole : List Logged) (n : NodeName) (line : ℕ) (before : KeptState) (us : Uses) (log : List Logged) (J : List Entry)
    (o : Outcome MonitorNode) : Type 0 where
  pub owner : Owner
  pub after : AfterStep (monitor_says before owner) run whole n line us log J o

module _ (run : WholeRun) (whole : List Logged) (n : NodeName) (line : ℕ) (before : KeptState) (owner : Owner) (us : Uses) (log : List Logged) (J : List Entry) where
  abbrev MonitorTurns : MonitorArrival → MonitorStage → Type 0
  MonitorTurns a stage = TurnOk (monitor_says before owner) run whole n line us log J a (turned_at a stage)

  -- it waits for no proof, and isn't open
  abbrev IsNoProof : MonitorStage → Type 0
  IsNoProof (AwaitsProof offered) = ⊥
  IsNoProof (Open s bearer) = ⊥
  IsNoProof _ = Unit {0}

  turn-ok : (a : MonitorArrival) (stage : MonitorStage) → IsNoProof stage → Inv run whole us log J → OwnOk before owner us J a.own → StageOk owner us stage → length a.draw ≡ 384 → MonitorTurns a stage
  turn-ok a AwaitsBanner none i ok st drawn =
      turn-banner (monitor_says before owner) run whole n line us log J a (λ l. on_banner Mon (at a l)) a.link i (λ l. banner-simple before owner us J n (at a l) ok)
  turn-ok a AwaitsHello none i ok st drawn =
      turn-plain (monitor_says before owner) run whole n line us log J a (λ l f. on_hello (at a l) (due 1 hello_layout.form f)) a.link
      (λ l f g. after-simple (monitor_says before owner) run whole n line us log J (on_hello (at a l) (due 1 hello_layout.form f)) i (hello-simple before owner us J n (at a l) (due 1 hello_layout.form f) ok))
  turn-ok a AwaitsRequest none i ok st drawn =
      turn-plain (monitor_says before owner) run whole n line us log J a (λ l f. on_auth_request on_request_payload (at a l) (due 2 auth_request_layout.form f)) a.link
      (λ l f g. after-simple (monitor_says before owner) run whole n line us log J (on_auth_request on_request_payload (at a l) (due 2 auth_request_layout.form f)) i
      (request-simple before owner us J n (at a l) (due 2 auth_request_layout.form f) ok))
  turn-ok a (AwaitsProof offered) none i ok st drawn = absurd none
  turn-ok a (AwaitsSignature s bearer) none i ok st drawn =
      turn-secure (monitor_says before owner) run whole n line us log J a s.keys (λ l k f. on_signature (at a l) (under s k) bearer (due 7 auth_signature_layout.form f)) a.link i
      (λ l k f same. signature-simple before owner us J n (at a l) (under s k) bearer (due 7 auth_signature_layout.form f) ok (bearer-moves owner us k s.keys bearer same st))
  turn-ok a (AwaitsIdent s bearer) none i ok st drawn =
      turn-secure (monitor_says before owner) run whole n line us log J a s.keys (λ l k f. on_ident (at a l) (under s k) bearer f) a.link i
      (λ l k f same. ident-simple before owner us J n (at a l) (under s k) bearer f ok (bearer-moves owner us k s.keys bearer same st))
  turn-ok a (Open s bearer) none i ok st drawn = absurd none

  -- a frame on an open link, behind the parts of it that opened
  opened-after : (b : MonitorArrival) (t : Secured) (who : Bearer) (f : Frame) (opened : List SealEntry) → Inv run whole us log J → OwnOk before owner us J b.own
      → BearerOk owner us t.keys who → length b.draw ≡ 384 → Allowed us J n opened → AreRecorded run (on_open Open b t who f).own.saved
      → AreGranted run.leaked whole n line log (opened ++ (on_open Open b t who f).seals)
      → AfterRow (monitor_says before owner) run whole n line us log J (with_opened opened (on_open Open b t who f))
  opened-after b t who f opened i ok st drawn al rec g =
      let row : MonitorRow = on_open Open b t who f in
      let r = reached-allowed run whole n line us log J opened (λ vs. Unit {0}) i al tt in
      let x = open-after run whole n line before owner us (behind n line opened log) J b t who f r.inv ok st drawn rec (granted-rest run.leaked whole n line log opened row.seals g) in
      after-then run whole n line us log J opened row.seals row.entries (λ vs. Unit {0}) (RowOk (monitor_says before owner) (with_opened opened row)) r (record {
        uses = x.uses;
        grows = x.grows;
        inv = x.inv;
        laws = x.laws;
        good = record { own = x.good.own; link = x.good.link };
      })

  -- by the owners of before
  abbrev Steps : Outcome MonitorNode → Type 0
  Steps o = AfterStep (monitor_says before owner) run whole n line us log J o

  -- whose the global ids are behind the step, and what is so then
  abbrev Comes : Outcome MonitorNode → Type 0
  Comes o = MonitorAfter run whole n line before us log J o

  stays-owned : (o : Outcome MonitorNode) → Steps o → Comes o
  stays-owned o h = record { owner = owner; after = h }

  abbrev Ok_ : MonitorNode → Type 0
  Ok_ m = NodeOk (monitor_says before owner) m us J

  links-keep : (later : Owner) (links : List (Link MonitorStage)) → Keeps owner later → LinksOk (monitor_says before owner) us links → LinksOk (monitor_says before later) us links
  links-keep later links k h = all-map (λ (l : Link MonitorStage). StageOk owner us l.stage) (λ (l : Link MonitorStage). StageOk later us l.stage) (λ l st. stage-keeps owner later us l.stage k st) links h

  -- a turn of a link that waits for a proof
  proof-step : (m : MonitorNode) (a : MonitorArrival) (offered : Offered) → Inv run whole us log J → Ok_ m → OwnOk before owner us J a.own → OfferOk us offered.offer → length a.draw ≡ 384
      → AreGranted run.leaked whole n line log (turns m a (turned_at a (AwaitsProof offered))).out.seals → Comes (turns m a (turned_at a (AwaitsProof offered)))
  proof-step m a offered i ok own st drawn g = by_read (plain_frame_at (ahead_of a.link)) g
    where
      by_read : (r : Result (Option (Frame × ℕ)) FrameRefusal)
          → AreGranted run.leaked whole n line log (turns m a (turned_by (λ (l, f) _. on_auth_request_more (at a l) offered (due 5 auth_request_more_layout.form f)) (plain_read a.link r))).out.seals
          → Comes (turns m a (turned_by (λ (l, f) _. on_auth_request_more (at a l) offered (due 5 auth_request_more_layout.form f)) (plain_read a.link r)))
      by_read (Ok None) g = stays-owned (idles m) (idle (monitor_says before owner) run whole n line us log J m i ok)
      by_read (Ok (Some (f, size))) g =
          let row : MonitorRow = on_auth_request_more (at a (taking a.link size)) offered (due 5 auth_request_more_layout.form f) in
          let r = request_more-after run whole n line before owner us log J (at a (taking a.link size)) offered (due 5 auth_request_more_layout.form f) i own st drawn g in
          record { owner = r.later; after = carried (monitor_says before r.later) run whole n line us log J m a.link.number true row (links-keep r.later m.links r.keeps ok.links) r.after }
      by_read (Err why) g =
          stays-owned _ (carried (monitor_says before owner) run whole n line us log J m a.link.number false (refuses_bytes a _ [])
          ok.links (after-simple (monitor_says before owner) run whole n line us log J (refuses_bytes a _ []) i (simple-refuses_bytes (monitor_says before owner) us J n a _ [] own tt)))

  -- what comes of what stands next on an open link
  abbrev open_turned : MonitorArrival → Secured → Bearer → List SealEntry → Result (Option (Frame × ℕ)) SecureRefusal → Turned Monitor MonitorStage
  open_turned a s bearer opened r = turned_by (λ (l, f, k) opened. with_opened opened (on_open Open (at a l) (under s k) bearer f)) (secure_read s.keys a.link opened r)

  -- a turn of a link that is open
  open-step : (m : MonitorNode) (a : MonitorArrival) (s : Secured) (bearer : Bearer) → Inv run whole us log J → Ok_ m → OwnOk before owner us J a.own → BearerOk owner us s.keys bearer
      → length a.draw ≡ 384 → AreRecorded run (turns m a (turned_at a (Open s bearer))).state.own.saved
      → AreGranted run.leaked whole n line log (turns m a (turned_at a (Open s bearer))).out.seals → Steps (turns m a (turned_at a (Open s bearer)))
  open-step m a s bearer i ok own st drawn rec g =
      by_read (opened_parts (sealed_ahead s.keys a.link)) (opened-allowed us J n (sealed_ahead s.keys a.link)) (secure_frame_at (sealed_ahead s.keys a.link)) rec g
    where
      by_read : (opened : List SealEntry) → Allowed us J n opened → (r : Result (Option (Frame × ℕ)) SecureRefusal) → AreRecorded run (turns m a (open_turned a s bearer opened r)).state.own.saved
          → AreGranted run.leaked whole n line log (turns m a (open_turned a s bearer opened r)).out.seals → Steps (turns m a (open_turned a s bearer opened r))
      by_read opened al (Ok None) rec g = idle (monitor_says before owner) run whole n line us log J m i ok
      by_read opened al (Ok (Some (f, size))) rec g =
          let k : Keys = keys_behind s.keys f in
          let b : MonitorArrival = at a (taking a.link size) in
          let row : MonitorRow = with_opened opened (on_open Open b (under s k) bearer f) in
          carried (monitor_says before owner) run whole n line us log J m a.link.number true row ok.links
          (opened-after b (under s k) bearer f opened i own (bearer-moves owner us k s.keys bearer (record { key = refl; out = refl; into = refl }) st) drawn al rec g)
      by_read opened al (Err why) rec g =
          carried (monitor_says before owner) run whole n line us log J m a.link.number false (refuses_bytes a _ opened) ok.links
          (after-simple (monitor_says before owner) run whole n line us log J (refuses_bytes a _ opened) i (simple-refuses_bytes (monitor_says before owner) us J n a _ opened own al))

  turn-step : (m : MonitorNode) (reading : ℕ) (draw : List ℕ) (link : Option (Link MonitorStage)) → Inv run whole us log J → Ok_ m → LinkOk (monitor_says before owner) us link
      → length draw ≡ 384 → AreRecorded run (turn m reading draw link).state.own.saved → AreGranted run.leaked whole n line log (turn m reading draw link).out.seals
      → Comes (turn m reading draw link)
  turn-step m reading draw None i ok st drawn rec g = stays-owned (idles m) (idle (monitor_says before owner) run whole n line us log J m i ok)
  turn-step m reading draw (Some link) i ok st drawn rec g = by_stage link.stage st rec g
    where
      a : MonitorArrival
      a = arrival node.Monitor m.own link reading draw

      others : (stage : MonitorStage) → IsNoProof stage → StageOk owner us stage → AreGranted run.leaked whole n line log (turns m a (turned_at a stage)).out.seals
          → Comes (turns m a (turned_at a stage))
      others stage none st g =
          stays-owned (turns m a (turned_at a stage)) (turned-ok (monitor_says before owner) run whole n line us log J m a (turned_at a stage) i ok ok.own (turn-ok a stage none i ok.own st drawn) g)

      by_stage : (stage : MonitorStage) → StageOk owner us stage → AreRecorded run (turns m a (turned_at a stage)).state.own.saved → AreGranted run.leaked whole n line log (turns m a (turned_at a stage)).out.seals → Comes (turns m a (turned_at a stage))
      by_stage AwaitsBanner st rec g = others AwaitsBanner tt st g
      by_stage AwaitsHello st rec g = others AwaitsHello tt st g
      by_stage AwaitsRequest st rec g = others AwaitsRequest tt st g
      by_stage (AwaitsProof offered) st rec g = proof-step m a offered i ok ok.own st drawn g
      by_stage (AwaitsSignature s bearer) st rec g = others (AwaitsSignature s bearer) tt st g
      by_stage (AwaitsIdent s bearer) st rec g = others (AwaitsIdent s bearer) tt st g
      by_stage (Open s bearer) st rec g = stays-owned (turns m a (turned_at a (Open s bearer))) (open-step m a s bearer i ok ok.own st drawn rec g)

  opens-step : (m : MonitorNode) (reading : ℕ) (draw : List ℕ) (link : Link MonitorStage) → Inv run whole us log J → Ok_ m → Steps (opens m reading draw link)
  opens-step m reading draw link i ok = by_test (nat_le 1024 (length m.links))
    where
      by_row : (r : MonitorRow) → AfterRow (monitor_says before owner) run whole n line us log J r → AfterStep (monitor_says before owner) run whole n line us log J (carried_out m link.number false r)
      by_row r h = carried (monitor_says before owner) run whole n line us log J m link.number false r ok.links h

      by_test : (full : Bool) → AfterStep (monitor_says before owner) run whole n line us log J
          (carried_out m link.number false (if full then refuses (arrival node.Monitor m.own link reading draw) reason.LinksFull [] else goes_on (arrival node.Monitor m.own link reading draw) AwaitsBanner own_banner []))
      by_test true =
          let b : MonitorArrival = arrival node.Monitor m.own link reading draw in
          by_row (refuses b reason.LinksFull []) (after-simple (monitor_says before owner) run whole n line us log J (refuses b reason.LinksFull []) i
          (simple-refuses (monitor_says before owner) us J n b reason.LinksFull [] tt ok.own tt))
      by_test false =
          let b : MonitorArrival = arrival node.Monitor m.own link reading draw in
          by_row (goes_on b AwaitsBanner own_banner []) (after-simple (monitor_says before owner) run whole n line us log J (goes_on b AwaitsBanner own_banner []) i
          (simple-goes_on (monitor_says before owner) us J n b AwaitsBanner own_banner [] ok.own tt tt))

  fed-step : (m : MonitorNode) (bytes : List ℕ) (link : Option (Link MonitorStage)) → Inv run whole us log J → Ok_ m → LinkOk (monitor_says before owner) us link → Steps (fed m bytes link)
  fed-step m bytes None i ok st = idle (monitor_says before owner) run whole n line us log J m i ok
  fed-step m bytes (Some link) i ok st = record {
    uses = us;
    grows = stays us;
    inv = i;
    laws = tt;
    good = record { own = ok.own; links = all-put (monitor_says before owner) us (record link { received = link.received ++ bytes }) m.links ok.links st };
  }

  gone-step : (m : MonitorNode) (number : ℕ) → Inv run whole us log J → Ok_ m → Steps (idles (forgotten m number))
  gone-step m number i ok =
      idle (monitor_says before owner) run whole n line us log J (forgotten m number) i (record { own = ok.own; links = all-without (monitor_says before owner) us number m.links ok.links })

  node-entered_of : (who : Owner) (m : MonitorNode) (vs : Uses) (K : List Entry) (e : Entry) → IsNotIssued e → NodeOk (monitor_says before who) m vs K → NodeOk (monitor_says before who) m vs (K ++ e ∷ [])
  node-entered_of who m vs K e other h = record { own = own-entered before who vs K m.own e other h.own; links = h.links }

  entry-step_of : (who : Owner) (m : MonitorNode) (e : Entry) → IsQuietEntry e → Inv run whole us log J → NodeOk (monitor_says before who) m us J
      → After run whole n line us log J [] (e ∷ []) (NodeOk (monitor_says before who) m)
  entry-step_of who m e q i ok =
      after-quiet run whole n line us log J [] (e ∷ []) (λ vs. Unit {0}) (NodeOk (monitor_says before who) m) (node-entered_of who m) (q, tt)
      (reached-allowed run whole n line us log J [] (λ vs. Unit {0}) i tt tt) ok

  entry-step : (m : MonitorNode) (e : Entry) → IsQuietEntry e → Inv run whole us log J → Ok_ m → After run whole n line us log J [] (e ∷ []) (NodeOk (monitor_says before owner) m)
  entry-step m e q i ok = entry-step_of owner m e q i ok

  -- what was given out behind the last save is nobody's again
  restart-step : (m : MonitorNode) → Inv run whole us log J → Ok_ m → Comes (restarted m)
  restart-step m i ok = record {
    owner = saved_owner m.own.saved.next_gid;
    after = entry-step_of (saved_owner m.own.saved.next_gid) (restarted m).state (journal.Restarted node.Monitor) (tt, tt) i (record {
      own = record {
        ring = ok.own.ring;
        present = ok.own.saved;
        saved = ok.own.saved;
        before_is = ok.own.before_is;
        grown = ok.own.grown;
        below = ok.own.below;
        rises = omega arith;
        owned = λ s has. kept-owner m.own.saved.next_gid s.gid (ok.own.below s has) ∙ ok.own.owned s has;
        unowned = λ x le. lost-owner m.own.saved.next_gid x le;
      };
      links = tt;
    });
  }
    where
      saved_owner : ℕ → Owner
      saved_owner mark = λ x. if nat_lt x mark then owner x else None

      kept-owner : (mark x : ℕ) → x < mark → (if nat_lt x mark then owner x else None) ≡ owner x
      kept-owner mark x less = rw (lt-ltb x mark less) refl

      lost-owner : (mark x : ℕ) → mark ≤ x → (if nat_lt x mark then owner x else None) ≡ None
      lost-owner mark x le = rw (le-ltb x mark le) refl

  no_link-step : (m : MonitorNode) → Inv run whole us log J → Ok_ m → Steps (opens_none m node.Monitor)
  no_link-step m i ok = entry-step m (refused_entry node.Monitor 0 reason.NoLink) (tt, tt) i ok

  pub monitor-step : (m : MonitorNode) (input : Input) (reading : ℕ) (draw : List ℕ) → Inv run whole us log J → Ok_ m → length draw ≡ 384
      → AreRecorded run (monitor_step m input reading draw).state.own.saved → AreGranted run.leaked whole n line log (monitor_step m input reading draw).out.seals
      → Comes (monitor_step m input reading draw)
  monitor-step m (Opened number peer) reading draw i ok drawn rec g = stays-owned _ (opens-step m reading draw (new_link number AwaitsBanner) i ok)
  monitor-step m (Bytes number bytes) reading draw i ok drawn rec g =
      stays-owned _ (fed-step m bytes (link_of number m.links) i ok (found-link (monitor_says before owner) us number m.links ok.links))
  monitor-step m (Turn number) reading draw i ok drawn rec g =
      turn-step m reading draw (link_of number m.links) i ok (found-link (monitor_says before owner) us number m.links ok.links) drawn rec g
  monitor-step m (Gone number) reading draw i ok drawn rec g = stays-owned _ (gone-step m number i ok)
  monitor-step m Restart reading draw i ok drawn rec g = restart-step m i ok
  monitor-step m (NoLink peer) reading draw i ok drawn rec g = stays-owned _ (no_link-step m i ok)
  monitor-step m (Look view) reading draw i ok drawn rec g = stays-owned (idles m) (idle (monitor_says before owner) run whole n line us log J m i ok)
  monitor-step m Tick reading draw i ok drawn rec g = stays-owned (idles m) (idle (monitor_says before owner) run whole n line us log J m i ok)
  monitor-step m (Submit command) reading draw i ok drawn rec g = stays-owned (idles m) (idle (monitor_says before owner) run whole n line us log J m i ok)

-- ---- the monitor between steps

-- the monitor, whatever was saved before its last step, and whosever the global ids are
pub record MonitorOk (us : Uses) (J : List Entry) (m : MonitorNode) : Type 0 where
  pub owner : Owner
  pub node_ok : NodeOk (monitor_says m.own.saved_before owner) m us J

-- before a step what was saved last is noted
pub noted-ok : (owner : Owner) (us : Uses) (J : List Entry) (m : MonitorNode) → NodeOk (monitor_says m.own.saved_before owner) m us J → NodeOk (monitor_says m.own.saved owner) (noted m) us J
noted-ok owner us J m h = record {
  own = record {
    ring = h.own.ring;
    present = h.own.present;
    saved = h.own.saved;
    before_is = refl;
    grown = omega arith;
    below = h.own.below;
    rises = h.own.rises;
    owned = h.own.owned;
    unowned = h.own.unowned;
  };
  links = h.links;
}

module _ (run : WholeRun) (whole : List Logged) (n : NodeName) (line : ℕ) (us : Uses) (log : List Logged) (J : List Entry) where
  -- a step of the monitor, where no save fails
  pub monitor-after : (m : MonitorNode) (input : Input) (reading : ℕ) (draw : List ℕ) → Inv run whole us log J → MonitorOk us J m → length draw ≡ 384
      → AreRecorded run (monitor_rule m input reading draw).state.own.saved
      → AreGranted run.leaked whole n line log (monitor_rule m input reading draw).out.seals → MonitorAfter run whole n line m.own.saved us log J (monitor_rule m input reading draw)
  monitor-after m input reading draw i ok drawn rec g =
      monitor-step run whole n line m.own.saved ok.owner us log J (noted m) input reading draw i (noted-ok ok.owner us J m ok.node_ok) drawn rec g

-- behind a step the monitor is as it is between steps
pub between : (before : KeptState) (owner : Owner) (us : Uses) (J : List Entry) (m : MonitorNode) → NodeOk (monitor_says before owner) m us J → MonitorOk us J m
between before owner us J m h = record {
  owner = owner;
  node_ok = record {
    own = record {
      ring = h.own.ring;
      present = h.own.present;
      saved = h.own.saved;
      before_is = refl;
      grown = subst (λ (s : KeptState). s.next_gid ≤ m.own.saved.next_gid) (sym h.own.before_is) h.own.grown;
      below = h.own.below;
      rises = h.own.rises;
      owned = h.own.owned;
      unowned = h.own.unowned;
    };
    links = h.links;
  };
}

-- the same where nothing was entered after all
pub between-less : (before : KeptState) (owner : Owner) (us : Uses) (J K : List Entry) (m : MonitorNode) → Within J K → NodeOk (monitor_says before owner) m us K → MonitorOk us J m
between-less before owner us J K m w h = record {
  owner = owner;
  node_ok = record {
    own = record {
      ring = h.own.ring;
      present = h.own.present;
      saved = h.own.saved;
      before_is = refl;
      grown = subst (λ (s : KeptState). s.next_gid ≤ m.own.saved.next_gid) (sym h.own.before_is) h.own.grown;
      below = λ s has. h.own.below s (w.has (journal.Issued s) has);
      rises = h.own.rises;
      owned = λ s has. h.own.owned s (w.has (journal.Issued s) has);
      unowned = h.own.unowned;
    };
    links = h.links;
  };
}

-- and where what was saved is taken back: the state that was saved last before the step was good before it
pub unsaved-ok : (before : KeptState) (owner : Owner) (us : Uses) (J K : List Entry) (m : MonitorNode) → Within J K → NodeOk (monitor_says before owner) m us K → StateOk us before
    → AreBelow J before.next_gid → MonitorOk us J (unsaved m)
unsaved-ok before owner us J K m w h state below = record {
  owner = owner;
  node_ok = record {
    own = record {
      ring = h.own.ring;
      present = h.own.present;
      saved = subst (λ (s : KeptState). StateOk us s) (sym h.own.before_is) state;
      before_is = refl;
      grown = omega arith;
      below = subst (λ (s : KeptState). AreBelow J s.next_gid) (sym h.own.before_is) below;
      rises = subst (λ (s : KeptState). s.next_gid ≤ m.own.server.state.next_gid) (sym h.own.before_is)
          (let a : before.next_gid ≤ m.own.saved.next_gid = h.own.grown in let b : m.own.saved.next_gid ≤ m.own.server.state.next_gid = h.own.rises in omega arith);
      owned = λ s has. h.own.owned s (w.has (journal.Issued s) has);
      unowned = h.own.unowned;
    };
    links = h.links;
  };
}
