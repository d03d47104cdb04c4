-- What a client's turns, and links that open and go, make of its session with each daemon.
use Rattle.std.proofs.Common.{◌≡◌, ℕ, ◌==◌, Bool, true, false, List, [], ◌∷◌, filter, find, Option, Some, None, refl, sym, ap, ◌∙◌, subst}
use Rattle.std.specs.List.{AllByRecursion}
use Rattle.std.specs.Prelude.{◌&&◌, not, if◌then◌else◌}
use Rattle.cx_base.proofs.Names.{same_name_is}
use Rattle.cx_base.specs.Names.{Name, same_name}
use Rattle.cx_base.specs.declared.operations.Operation.{Operation}
use Rattle.cx_journal.specs.declared.entries.Entry.{Entry}
use Rattle.cx_journal.specs.declared.outcomes.Reason.TheVariants as reason
use Rattle.cx_laws_sessions.proofs.queues.Calls.{Held}
use Rattle.cx_laws_sessions.proofs.queues.Entries.{IsPlain, Untouched, all-unsent, call-plain, none-sent, plain-untouched, quiet-plain}
use Rattle.cx_laws_sessions.proofs.queues.Sessions.{AreApart, held-all}
use Rattle.cx_laws_sessions.specs.queues.Sending.{all_sent_to}
use Rattle.cx_laws_sessions.proofs.session.MonClients.{EntersNone, mon_client-enters}
use Rattle.cx_laws_sessions.proofs.session.Lists.{all-map, found-all}
use Rattle.cx_laws_sessions.proofs.session.Moves.{IsQuiet}
use Rattle.cx_laws_sessions.specs.cx_rules.specs.Connector as connector
use Rattle.cx_laws_sessions.specs.cx_rules.specs.Holdings.{MonClient}
use Rattle.cx_laws_sessions.specs.cx_rules.specs.Links.{Link, link_of}
use Rattle.cx_laws_sessions.specs.cx_rules.specs.Rows.{Arrival, Outcome, Turned, Waits, Refuses, Handles, arrival, fed, idles, refused_entry, turns}
use Rattle.cx_laws_sessions.specs.cx_rules_session.specs.ClientRule.{ClientStage, ToMonitor, ToDaemon, Dial, WholeClient, WholeClientNode, caller_to, dial_of, is_open, loses, me, opens, opens_dialled, own_behind_gone, turn, turned_at, with_mon_client, with_caller}
use Rattle.cx_laws_sessions.specs.cx_rules_session.specs.Kinds.{arrival_in, in_stage, turn_of_kind}
use Rattle.cx_laws_sessions.specs.cx_rules_session.specs.Presenter as call
use Rattle.cx_laws_sessions.specs.cx_rules_session.specs.Presenter.{CallStage, Caller, callee_of}
use Rattle.cx_laws_sessions.specs.cx_rules_session.specs.Sessions.{Callee, HeldSession, session_with}
use Rattle.cx_laws_sessions.specs.cx_run.proofs.CallKeeps.{IsCallEntry, Leaves, call-takes}
use Rattle.cx_laws_sessions.specs.cx_run.proofs.Taking.{EachRow}
use Rattle.cx_laws_sessions.proofs.waiting.Finding.{gone-found, other-found, others-found, own-found, stays_without, unless_lossy}
use Rattle.cx_laws_sessions.proofs.waiting.Going.{IsInOrder, same-becomes}
use Rattle.cx_laws_sessions.proofs.waiting.Turned.{IsWith, call-with, held-with}
use Rattle.cx_laws_sessions.proofs.waiting.Turning.{TurnIs, turn-is}
use Rattle.cx_laws_sessions.specs.waiting.Heard.{Word, Silent, Ends, ends_if_lossy, heard_gone, heard_if, heard_on, heard_turning}
use Rattle.cx_laws_sessions.specs.waiting.Keeping.{Becomes}
use Rattle.cx_laws_sessions.specs.waiting.Linked.{IsFor, IsLinkedBy}
use Rattle.cx_steps.specs.declared.events.Peer.{Peer}

-- nothing is sent
pub plain-unsent : (client daemon : Name) (es : List Entry) → AllByRecursion IsPlain es → all_sent_to client daemon es ≡ []
plain-unsent client daemon es plain = none-sent client daemon es (all-unsent client daemon es (all-map IsPlain (Untouched client) (plain-untouched client) es plain))

module _ (c : WholeClientNode) (apart : AreApart c.own.sessions) (runs : AllByRecursion IsInOrder c.own.sessions) (linked : AllByRecursion (λ (l : Link ClientStage). IsLinkedBy c.own.sessions l.stage) c.links)
    (daemon : Name) where
  abbrev pub client : Name
  client = c.own.mon_client.name

  abbrev pub was : Option HeldSession
  was = session_with daemon c.own.sessions

  -- what a step makes of the session, where this comes to it
  abbrev pub StepBecomes : Word → Outcome WholeClientNode → Type 0
  StepBecomes word o = Becomes word (all_sent_to client daemon o.out.entries) was (session_with daemon o.state.own.sessions)

  -- where nothing is sent
  pub unsent-becomes : (word : Word) (o : Outcome WholeClientNode) → AllByRecursion IsPlain o.out.entries → Becomes word [] was (session_with daemon o.state.own.sessions) → StepBecomes word o
  unsent-becomes word o plain h =
      subst (λ (sent : List (ℕ × (ℕ × Operation))). Becomes word sent was (session_with daemon o.state.own.sessions)) (sym (plain-unsent client daemon o.out.entries plain)) h

  -- and no session changes
  pub still : (o : Outcome WholeClientNode) → AllByRecursion IsPlain o.out.entries → o.state.own.sessions ≡ c.own.sessions → StepBecomes Silent o
  still o plain same =
      unsent-becomes Silent o plain (subst (λ (l : List HeldSession). Becomes Silent [] was (session_with daemon l)) (sym same) (same-becomes was))

  pub quiet-all : (es : List Entry) → AllByRecursion IsQuiet es → AllByRecursion IsPlain es
  quiet-all es quiet = all-map IsQuiet IsPlain quiet-plain es quiet

  module _ (reading : ℕ) (draw : List ℕ) where
    abbrev on_link : Link ClientStage → Arrival WholeClient ClientStage
    on_link link = arrival (me c.own) c.own link reading draw

    -- ---- turns

    asks-becomes : (link : Link ClientStage) (stage : connector.Stage)
        → StepBecomes Silent (turns c (on_link link) (turn_of_kind (with_mon_client c.own) ToMonitor (connector.turned_at (arrival_in (on_link link) c.own.mon_client stage) stage)))
    asks-becomes link stage = let a = arrival_in (on_link link) c.own.mon_client stage in by_turned (connector.turned_at a stage) (mon_client-enters a stage)
      where
        by_turned : (t : Turned MonClient connector.Stage) → EachRow EntersNone t → StepBecomes Silent (turns c (on_link link) (turn_of_kind (with_mon_client c.own) ToMonitor t))
        by_turned Waits quiet = still (idles c) tt refl
        by_turned (Refuses why opened) quiet = still (turns c (on_link link) (Refuses why opened)) (tt, tt) refl
        by_turned (Handles row) quiet = still (turns c (on_link link) (turn_of_kind (with_mon_client c.own) ToMonitor (Handles row))) (quiet-all row.entries quiet) refl

    -- the outcome of a turn of a link to a daemon
    abbrev turned : Link ClientStage → Name → Turned Caller CallStage → Outcome WholeClientNode
    turned link other t = turns c (on_link link) (turn_of_kind (with_caller other c.own) ToDaemon t)

    turned-plain : (link : Link ClientStage) (other : Name) (t : Turned Caller CallStage) → EachRow (Leaves c.own.mon_client) t → AllByRecursion IsPlain (turned link other t).out.entries
    turned-plain link other Waits l = tt
    turned-plain link other (Refuses why opened) l = (tt, tt)
    turned-plain link other (Handles row) l = all-map (IsCallEntry c.own.mon_client) IsPlain (call-plain c.own.mon_client) row.entries l.enters

    -- one to this daemon
    turned-own : (link : Link ClientStage) (callee : Callee) (word : Word) (t : Turned Caller CallStage) → EachRow (Held (IsWith daemon)) t → TurnIs callee word was t
        → Becomes word [] was (session_with daemon (turned link daemon t).state.own.sessions)
    turned-own link callee word Waits h is = is
    turned-own link callee word (Refuses why opened) h is = is
    turned-own link callee word (Handles row) h is = subst (Becomes word [] was) (sym (own-found daemon row.own.session c.own.sessions h.0)) is.becomes

    -- and one to another
    turned-other : (link : Link ClientStage) (other : Name) → same_name other daemon ≡ false → (t : Turned Caller CallStage) → EachRow (Held (IsWith other)) t
        → session_with daemon (turned link other t).state.own.sessions ≡ was
    turned-other link other off Waits h = refl
    turned-other link other off (Refuses why opened) h = refl
    turned-other link other off (Handles row) h = other-found other daemon off row.own.session c.own.sessions h.0

    module _ (link : Link ClientStage) (stage : CallStage) where
      abbrev turning : Name → Turned Caller CallStage
      turning other = call.turned_at (arrival_in (on_link link) (caller_to other c.own) stage) stage

      turning-held : (other : Name) → (callee_of stage).daemon ≡ other → EachRow (Held (IsWith other)) (turning other)
      turning-held other called = call-with (arrival_in (on_link link) (caller_to other c.own) stage) stage other called (held-with c.own.sessions other (session_with other c.own.sessions) refl)

      turning-plain : (other : Name) → AllByRecursion IsPlain (turned link other (turning other)).out.entries
      turning-plain other = turned-plain link other (turning other) (call-takes (arrival_in (on_link link) (caller_to other c.own) stage) stage).leaves

      presents-own : IsFor (session_with (callee_of stage).daemon c.own.sessions) stage → (callee_of stage).daemon ≡ daemon
          → StepBecomes (heard_on (in_stage link stage) was stage) (turned link daemon (turning daemon))
      presents-own fits called =
          unsent-becomes (heard_on (in_stage link stage) was stage) (turned link daemon (turning daemon)) (turning-plain daemon)
          (turned-own link (callee_of stage) (heard_on (in_stage link stage) was stage) (turning daemon) (turning-held daemon called)
          (turn-is (arrival_in (on_link link) (caller_to daemon c.own) stage) stage (subst (λ (n : Name). IsFor (session_with n c.own.sessions) stage) called fits)
          (held-all IsInOrder daemon c.own.sessions runs)))

      presents-other : (other : Name) → (callee_of stage).daemon ≡ other → same_name other daemon ≡ false → StepBecomes Silent (turned link other (turning other))
      presents-other other called off =
          unsent-becomes Silent (turned link other (turning other)) (turning-plain other)
          (subst (Becomes Silent [] was) (sym (turned-other link other off (turning other) (turning-held other called))) (same-becomes was))

      presents-becomes : IsFor (session_with (callee_of stage).daemon c.own.sessions) stage → StepBecomes (if same_name (callee_of stage).daemon daemon then heard_on (in_stage link stage) was stage else Silent)
          (turned link (callee_of stage).daemon (turning (callee_of stage).daemon))
      presents-becomes fits = by_test (same_name (callee_of stage).daemon daemon) refl
        where
          by_test : (b : Bool) → same_name (callee_of stage).daemon daemon ≡ b
              → StepBecomes (if b then heard_on (in_stage link stage) was stage else Silent) (turned link (callee_of stage).daemon (turning (callee_of stage).daemon))
          by_test true is =
              let same : (callee_of stage).daemon ≡ daemon = same_name_is (callee_of stage).daemon daemon is in
              subst (λ (n : Name). StepBecomes (heard_on (in_stage link stage) was stage) (turned link n (turning n))) (sym same) (presents-own fits same)
          by_test false off = presents-other (callee_of stage).daemon refl off

    pub turn-step : (number : ℕ) (found : Option (Link ClientStage)) → link_of number c.links ≡ found → StepBecomes (heard_turning daemon was found) (turn c reading draw found)
    turn-step number None is = still (idles c) tt refl
    turn-step number (Some link) is =
        by_stage link.stage (found-all (λ (l : Link ClientStage). IsLinkedBy c.own.sessions l.stage) (λ (l : Link ClientStage). l.number == number) c.links link linked is)
      where
        by_stage : (stage : ClientStage) → IsLinkedBy c.own.sessions stage
            → StepBecomes (heard_if daemon (λ s. heard_on (in_stage link s) was s) stage) (turns c (on_link link) (turned_at (on_link link) stage))
        by_stage (ToMonitor stage) fits = asks-becomes link stage
        by_stage (ToDaemon stage) fits = presents-becomes link stage fits

    -- ---- bytes, links that open and go

    pub fed-step : (bytes : List ℕ) (found : Option (Link ClientStage)) → StepBecomes Silent (fed c bytes found)
    fed-step bytes None = still (idles c) tt refl
    fed-step bytes (Some link) = still (fed c bytes (Some link)) tt refl

    pub opens-step : (number : ℕ) (to : Option Peer) → StepBecomes Silent (opens c reading draw number to)
    opens-step number None = still (idles c) tt refl
    opens-step number (Some peer) = by_dial (find (dial_of peer) c.own.dials)
      where
        by_dial : (found : Option Dial) → StepBecomes Silent (opens_dialled c reading draw number peer found)
        by_dial None = still (idles c) tt refl
        by_dial (Some dial) = still (opens_dialled c reading draw number peer (Some dial)) tt refl

    lost-plain : (link : Link ClientStage) (open_ : Bool) → AllByRecursion IsPlain (if open_ then [] else refused_entry (me c.own) link.number reason.Lost ∷ [])
    lost-plain link true = tt
    lost-plain link false = (tt, tt)

    lossy-becomes : (session : Option HeldSession) → Becomes (ends_if_lossy session) [] session (unless_lossy session)
    lossy-becomes None = refl
    lossy-becomes (Some s) = by_test s.lossy
      where
        by_test : (lossy : Bool) → Becomes (if lossy then Ends else Silent) [] (Some s) (if lossy then None else Some s)
        by_test true = (refl, refl)
        by_test false = same-becomes (Some s)

    unlike : (lossy : Bool) → not (lossy && false) ≡ true
    unlike true = refl
    unlike false = refl

    -- of a link to another daemon each one with this daemon stays
    gone-other : (other : Name) → same_name other daemon ≡ false → Becomes Silent [] was (session_with daemon (filter (stays_without other) c.own.sessions))
    gone-other other off =
        subst (Becomes Silent [] was)
        (sym (others-found other daemon off (stays_without other) (λ s apart. ap (λ (t : Bool). not (s.lossy && t)) apart ∙ unlike s.lossy) c.own.sessions)) (same-becomes was)

    gone-own : Becomes (ends_if_lossy was) [] was (session_with daemon (filter (stays_without daemon) c.own.sessions))
    gone-own = subst (Becomes (ends_if_lossy was) [] was) (sym (gone-found daemon c.own.sessions apart)) (lossy-becomes was)

    gone-becomes : (stage : ClientStage) → Becomes (heard_if daemon (λ s. ends_if_lossy was) stage) [] was (session_with daemon (own_behind_gone c.own stage).sessions)
    gone-becomes (ToMonitor stage) = same-becomes was
    gone-becomes (ToDaemon stage) = by_test (same_name (callee_of stage).daemon daemon) refl
      where
        by_test : (t : Bool) → same_name (callee_of stage).daemon daemon ≡ t
            → Becomes (if t then ends_if_lossy was else Silent) [] was (session_with daemon (filter (stays_without (callee_of stage).daemon) c.own.sessions))
        by_test true is =
            subst (λ (n : Name). Becomes (ends_if_lossy was) [] was (session_with daemon (filter (stays_without n) c.own.sessions))) (sym (same_name_is (callee_of stage).daemon daemon is)) gone-own
        by_test false off = gone-other (callee_of stage).daemon off

    pub loses-step : (found : Option (Link ClientStage)) → StepBecomes (heard_gone daemon was found) (loses c found)
    loses-step None = still (idles c) tt refl
    loses-step (Some link) =
        unsent-becomes (heard_if daemon (λ s. ends_if_lossy was) link.stage) (loses c (Some link)) (lost-plain link (is_open link.stage)) (gone-becomes link.stage)
