-- Each reply to a request for generations that the monitor sends tells those of a moment: of the event at which it is sent.
use Rattle.std.proofs.Common.{◌≡◌, ◌<◌, ◌==◌, ℕ, Bool, true, false, List, [], ◌∷◌, Option, Some, None, Result, Ok, Err, inl, inr, refl, sym, ap, ◌∙◌, subst, arith, eqb-true}
use Rattle.std.specs.Prelude.{Contains, if◌then◌else◌}
use Rattle.cx_base.specs.Names.{Name, is_daemon_type}
use Rattle.cx_base.specs.declared.kinds.EntityType.{EntityType}
use Rattle.cx_base.specs.declared.nodes.NodeName.{NodeName}
use Rattle.cx_base.specs.declared.nodes.NodeName.TheVariants as node
use Rattle.cx_control.specs.Upkeep.{keepalive2_ack_layout, keepalive2_layout}
use Rattle.cx_frame.specs.declared.frame.Frame.{Frame}
use Rattle.cx_journal.specs.declared.entries.Entry.TheVariants as entry
use Rattle.cx_journal.specs.declared.entries.Fetched.{Fetched}
use Rattle.cx_journal.specs.declared.faults.BytesFault.{BytesFault}
use Rattle.cx_journal.specs.declared.faults.BytesFault.TheVariants.{Unexpected}
use Rattle.cx_journal.specs.declared.outcomes.Reason.{Reason}
use Rattle.cx_laws_tickets.specs.cx_keyserver.specs.Servers.{life_of, rotated_of, rotated_state}
use Rattle.cx_words.specs.declared.choices.LeftState.{LeftState}
use Rattle.cx_rotate.specs.declared.generations.Generation.{Generation}
use Rattle.cx_rotate.specs.declared.states.KeptState.{KeptState}
use Rattle.cx_laws_tickets.specs.cx_rules_session.specs.cx_rules.proofs.Granting.{saved-changed}
use Rattle.cx_laws_tickets.specs.cx_rules_session.specs.cx_rules.specs.Acceptor.{Open}
use Rattle.cx_laws_tickets.specs.cx_rules_session.specs.cx_rules.specs.Fronts.{Front, Next, secure_next}
use Rattle.cx_laws_tickets.specs.cx_rules_session.specs.cx_rules.specs.Inputs.{Input, Turn}
use Rattle.cx_laws_tickets.specs.cx_rules_session.specs.cx_rules.specs.KeptStates.{saved_behind}
use Rattle.cx_laws_tickets.specs.cx_rules_session.specs.cx_rules.specs.Links.{Link, link_of}
use Rattle.cx_laws_tickets.specs.cx_rules_session.specs.cx_rules.specs.Messages.{Message, message_of}
use Rattle.cx_laws_tickets.specs.cx_rules_session.specs.cx_rules.specs.Monitor.{MonitorArrival, MonitorNode, MonitorRow, MonitorStage}
use Rattle.cx_laws_tickets.specs.cx_rules_session.specs.cx_rules.specs.MonitorRequests.{demand_of, heard, on_demand, on_message, on_open, ordered, reply_message, request_occasion, responds, sends_reply, serving}
use Rattle.cx_laws_tickets.specs.cx_rules_session.specs.cx_rules.specs.MonitorRule.{monitor_rule, noted, turn, turned_at}
use Rattle.cx_laws_tickets.specs.cx_rules_session.specs.cx_rules.specs.Payloads.{payload}
use Rattle.cx_laws_tickets.specs.cx_rules_session.specs.cx_rules.specs.Replies.{answers}
use Rattle.cx_laws_tickets.specs.cx_rules_session.specs.cx_rules.specs.Rows.{Outcome, arrival, at, turned_by, turns, with_opened}
use Rattle.cx_laws_tickets.specs.cx_rules_session.specs.cx_rules.specs.Secured.{Keys, SealedFrame, Secured, secure_frame, under}
use Rattle.cx_laws_tickets.specs.cx_rules_session.specs.cx_rules.specs.Tickets.{rotation_drawn}
use Rattle.cx_laws_tickets.specs.cx_rules_session.specs.cx_rules.specs.Upkeep.{on_keepalive, on_keepalive_ack}
use Rattle.cx_laws_tickets.specs.cx_rules_session.specs.cx_rules.specs.Verdicts.{Occasion}
use Rattle.cx_laws_tickets.specs.cx_rules_session.specs.cx_rules.specs.declared.responses.Bearer.{Bearer}
use Rattle.cx_laws_tickets.specs.cx_rules_session.specs.cx_rules.specs.declared.responses.Demand.{Demand}
use Rattle.cx_laws_tickets.specs.cx_rules_session.specs.cx_rules.specs.declared.responses.ReplyMade.{ReplyMade}
use Rattle.cx_laws_tickets.specs.cx_rules_session.specs.cx_rules.specs.declared.responses.Response.{Response}
use Rattle.cx_laws_tickets.specs.cx_rules_session.specs.cx_rules.specs.declared.responses.Response.TheVariants.{Replies}
use Rattle.cx_laws_tickets.specs.cx_rules_session.specs.cx_rules.specs.cx_steps.specs.declared.seals.SealEntry.{SealEntry}
use Rattle.cx_wire.specs.declared.bodies.Request.{Request}
use Rattle.cx_wire.specs.declared.bodies.Request.TheVariants as asked
use Rattle.cx_laws_tickets.specs.cx_run.specs.Happenings.{Happening, Nodes, Stepped, monitor_steps, steps_of}
use Rattle.cx_laws_tickets.specs.cx_run.specs.Opening.{Setup, first_state}
use Rattle.cx_laws_tickets.specs.cx_run.specs.Points.{Before, EachPoint, Point, entries_at, nodes_past, points, stepped_at}
use Rattle.cx_laws_tickets.proofs.chain.One.{all-kept}
use Rattle.cx_laws_tickets.specs.chain.Chain.{Chain, IsChained, life_in}
use Rattle.cx_laws_tickets.proofs.fetch.AllCovered.{service-life}
use Rattle.cx_laws_tickets.proofs.fetch.Lives.{all-lived}
use Rattle.cx_laws_tickets.proofs.fetch.Moments.{AreLinked, all-linked}
use Rattle.cx_laws_tickets.proofs.fetch.Telling.{TellsRotated, rotated-moment, tells-rotating}
use Rattle.cx_laws_tickets.specs.fetch.Fetches.{AreOfMoments, IsAsking, IsMoment, IsOfMoment}

-- ---- a reply

-- what the monitor goes by at a point
abbrev pub occasion_at : Point → Occasion
occasion_at p = record { saved = p.nodes.monitor.own.saved; reading = p.happening.reading; draw = p.happening.draw }

-- at this point the monitor replies to the request for generations that came on an open link of it, the reply can be sent, and no save fails
pub record RepliesRotating (p : Point) : Type 0 where
  pub monitor : p.happening.node ≡ node.Monitor
  pub number : ℕ
  pub turn_is : p.happening.input ≡ Turn number
  pub link : Link MonitorStage
  pub found : link_of number p.nodes.monitor.links ≡ Some link
  pub secured : Secured
  pub bearer : Bearer
  pub stage_is : link.stage ≡ Open secured bearer
  pub behind : Link MonitorStage
  pub frame : Frame
  pub keys : Keys
  pub opened : List SealEntry
  pub next : secure_next secured.keys link ≡ Next (behind, frame, keys) opened
  pub demand : Demand
  pub heard_as : heard bearer frame ≡ Ok demand
  pub asks : demand.request ≡ Some asked.Rotating
  pub made : ReplyMade
  pub replies : (answers (occasion_at p) p.nodes.monitor.own.server bearer (Some asked.Rotating)).response ≡ Replies made
  pub sent : SealedFrame
  pub sealed : secure_frame keys (reply_message demand.tid made.body) ≡ Ok sent
  pub kept : (stepped_at p).failed ≡ false

-- the generations that it tells
abbrev pub told_at : Point → EntityType → List Generation
told_at p service = rotated_of p.happening.reading p.happening.draw p.nodes.monitor.own.server.state service

-- ---- what is saved

-- a frame that is heard as a message has the tag of messages
pub message-tag : (bearer : Bearer) (f : Frame) (demand : Demand) → heard bearer f ≡ Ok demand → f.tag ≡ 17
message-tag bearer f demand is = by_test (f.tag == 17) refl is
  where
    by_test : (t : Bool) → (f.tag == 17) ≡ t
        → (let read : Result Message BytesFault = (if t then message_of f.segments else Err (Unexpected f.tag)) in ordered bearer.last (demand_of read)) ≡ Ok demand → f.tag ≡ 17
    by_test true test read = eqb-true f.tag 17 test
    by_test false test read = absurd cc

module _ (saved : KeptState) (made : ReplyMade) where
  -- behind a row that is saved which the reply has to be
  abbrev RowSaves : MonitorRow → Type 0
  RowSaves row = (row.own.saved ≡ saved_behind saved made.save) × (row.save ≡ made.save)

  open-saves : (a : MonitorArrival) (s : Secured) (bearer : Bearer) (f : Frame) (demand : Demand) (sent : SealedFrame) → a.own.saved ≡ saved → heard bearer f ≡ Ok demand
      → (answers (request_occasion a) a.own.server bearer demand.request).response ≡ Replies made → secure_frame s.keys (reply_message demand.tid made.body) ≡ Ok sent
      → RowSaves (on_open Open a s bearer f)
  open-saves a s bearer f demand sent before heard_as replies sealed = by_tests (f.tag == 18) (f.tag == 19) refl refl
    where
      told : RowSaves (on_message Open a s bearer f)
      told =
          let server : MonitorArrival = serving a (answers (request_occasion a) a.own.server bearer demand.request).server in
          let first : RowSaves (sends_reply Open server s bearer demand.seq made (Ok sent)) = (ap (λ (state : KeptState). saved_behind state made.save) before, refl) in
          let second : RowSaves (responds Open server s bearer demand (Replies made)) =
          subst (λ (r : Result SealedFrame BytesFault). RowSaves (sends_reply Open server s bearer demand.seq made r)) (sym sealed) first in
          let third : RowSaves (on_demand Open a s bearer (Ok demand)) = subst (λ (r : Response). RowSaves (responds Open server s bearer demand r)) (sym replies) second in
          subst (λ (r : Result Demand Reason). RowSaves (on_demand Open a s bearer r)) (sym heard_as) third

      by_tests : (ask ack : Bool) → (f.tag == 18) ≡ ask → (f.tag == 19) ≡ ack
          → RowSaves (if ask then on_keepalive a s (λ t. Open t bearer) (payload keepalive2_layout.form f)
          else if ack then on_keepalive_ack a s (λ t. Open t bearer) (payload keepalive2_ack_layout.form f) else on_message Open a s bearer f)
      by_tests true ack is other = let one : f.tag ≡ 18 = eqb-true f.tag 18 is in let message : f.tag ≡ 17 = message-tag bearer f demand heard_as in absurd (omega arith)
      by_tests false true is other = let one : f.tag ≡ 19 = eqb-true f.tag 19 other in let message : f.tag ≡ 17 = message-tag bearer f demand heard_as in absurd (omega arith)
      by_tests false false is other = told

  -- so does the step of which it is the row
  abbrev StepSaves : Outcome MonitorNode → Type 0
  StepSaves o = (o.state.own.saved ≡ saved_behind saved made.save) × (o.out.save ≡ made.save)

-- whatever is to be saved is, where no save fails
kept-saves : (nodes : Nodes) (o : Outcome MonitorNode) (l : Option LeftState) (save : Option KeptState) → (monitor_steps nodes o l save).failed ≡ false
    → (monitor_steps nodes o l save).nodes.monitor.own.saved ≡ o.state.own.saved
kept-saves nodes o (Some left) (Some saved) kept = absurd cc
kept-saves nodes o None save kept = refl
kept-saves nodes o (Some left) None kept = refl

module _ (p : Point) (r : RepliesRotating p) where
  abbrev m : MonitorNode
  m = noted p.nodes.monitor

  abbrev a : MonitorArrival
  a = arrival node.Monitor m.own r.link p.happening.reading p.happening.draw

  abbrev Saves : Outcome MonitorNode → Type 0
  Saves o = StepSaves p.nodes.monitor.own.saved r.made o

  step-saves : Saves (monitor_rule p.nodes.monitor p.happening.input p.happening.reading p.happening.draw)
  step-saves =
      let replies : (answers (request_occasion (at a r.behind)) (at a r.behind).own.server r.bearer r.demand.request).response ≡ Replies r.made =
      ap (λ (request : Option Request). (answers (occasion_at p) p.nodes.monitor.own.server r.bearer request).response) r.asks ∙ r.replies in
      let row : RowSaves p.nodes.monitor.own.saved r.made (on_open Open (at a r.behind) (under r.secured r.keys) r.bearer r.frame) =
      open-saves p.nodes.monitor.own.saved r.made (at a r.behind) (under r.secured r.keys) r.bearer r.frame r.demand r.sent refl r.heard_as replies r.sealed in
      let front : Saves (turns m a (turned_by (λ (l, f, keys) opened. with_opened opened (on_open Open (at a l) (under r.secured keys) r.bearer f)) (secure_next r.secured.keys r.link))) =
      subst (λ (x : Front (Link MonitorStage × Frame × Keys)).
      Saves (turns m a (turned_by (λ (l, f, keys) opened. with_opened opened (on_open Open (at a l) (under r.secured keys) r.bearer f)) x))) (sym r.next) row in
      let staged : Saves (turns m a (turned_at a r.link.stage)) = subst (λ (stage : MonitorStage). Saves (turns m a (turned_at a stage))) (sym r.stage_is) front in
      let turned : Saves (turn m p.happening.reading p.happening.draw (link_of r.number m.links)) =
      subst (λ (o : Option (Link MonitorStage)). Saves (turn m p.happening.reading p.happening.draw o)) (sym r.found) staged in
      subst (λ (input : Input). Saves (monitor_rule p.nodes.monitor input p.happening.reading p.happening.draw)) (sym r.turn_is) turned

  tells : TellsRotated (occasion_at p) p.nodes.monitor.own.server r.bearer r.made
  tells = tells-rotating (occasion_at p) p.nodes.monitor.own.server r.bearer (rotation_drawn p.happening.reading p.happening.draw p.nodes.monitor.own.server.state) r.made r.replies

  -- behind it the state is saved that has all services' generations rotated
  saved-rotated : (nodes_past p).monitor.own.saved ≡ rotated_state p.happening.reading p.happening.draw p.nodes.monitor.own.server.state
  saved-rotated =
      let h : Happening = p.happening in
      let o : Outcome MonitorNode = monitor_rule p.nodes.monitor h.input h.reading h.draw in
      let before : KeptState = p.nodes.monitor.own.saved in
      let state : KeptState = rotated_state h.reading h.draw p.nodes.monitor.own.server.state in
      let stepped : stepped_at p ≡ monitor_steps p.nodes o h.left o.out.save = ap (λ (n : NodeName). steps_of p.nodes h n) r.monitor in
      let kept : (monitor_steps p.nodes o h.left o.out.save).failed ≡ false = ap (λ (s : Stepped). s.failed) (sym stepped) ∙ r.kept in
      ap (λ (s : Stepped). s.nodes.monitor.own.saved) stepped
      ∙ kept-saves p.nodes o h.left o.out.save kept
      ∙ step-saves.0
      ∙ ap (λ (save : Option KeptState). saved_behind before save) tells.save
      ∙ saved-changed before state

-- ---- every list of events

-- each such reply tells the bearer, a daemon, under a secret of its own, the generations of the daemon's type of this moment
pub record IsOfPresent (p : Point) (r : RepliesRotating p) : Type 0 where
  pub tells : TellsRotated (occasion_at p) p.nodes.monitor.own.server r.bearer r.made
  pub moment : IsMoment r.bearer.name.kind (told_at p r.bearer.name.kind) p

abbrev pub AreOfPresent : List Point → Point → Type 0
AreOfPresent older p = (r : RepliesRotating p) → IsOfPresent p r

-- what a daemon fetched the monitor replied to it at this point, before which the daemon asked for it
pub record WasReplied (f : Fetched) (older : List Point) (p : Point) : Type 0 where
  pub replies : RepliesRotating p
  pub to : replies.bearer.name ≡ f.daemon
  pub told : f.generations ≡ told_at p f.daemon.kind
  pub asked : Before (λ _ at. IsAsking f.daemon f.asked at) older

-- so it is of each that is entered
abbrev pub AreReplied : List Point → Type 0
AreReplied past = EachPoint (λ older p. (f : Fetched) → Contains (entries_at p) (entry.Fetched f) → Before (WasReplied f) older) past

module _ (setup : Setup) (some : 0 < (first_state setup).life) where
  abbrev HasLives : List Point → Type 0
  HasLives past = EachPoint (λ (older : List Point) (p : Point). (service : EntityType) → life_of p.nodes.monitor.own.server.state service ≡ life_in setup service) past

  record HasPast (service : EntityType) (past : List Point) : Type 0 where
    chain : Chain
    chained : IsChained setup service past chain

  past-before : (service : EntityType) (p : Point) (past : List Point) → HasPast service (p ∷ past) → HasPast service past
  past-before service p past c = by_chain c.chain c.chained
    where
      by_chain : (last : Chain) → IsChained setup service (p ∷ past) last → HasPast service past
      by_chain last (before, earlier, moves) = record { chain = before; chained = earlier }

  replied-past : (past : List Point) → ((service : EntityType) → HasPast service past) → AreLinked setup past → HasLives past → EachPoint AreOfPresent past
  replied-past [] chains linked lived = tt
  replied-past (p ∷ past) chains linked lived =
      let earlier : (service : EntityType) → HasPast service past = λ service. past-before service p past (chains service) in
      (λ r. present r (earlier r.bearer.name.kind), replied-past past earlier linked.1 lived.1)
    where
      present : (r : RepliesRotating p) → HasPast r.bearer.name.kind past → IsOfPresent p r
      present r c =
          let t : TellsRotated (occasion_at p) p.nodes.monitor.own.server r.bearer r.made = tells p r in
          let lives : 0 < life_in setup r.bearer.name.kind = subst (λ (life : ℕ). 0 < life) (sym (service-life setup r.bearer.name.kind t.kind)) some in
          record {
            tells = t;
            moment = rotated-moment setup r.bearer.name.kind past p c.chain c.chained linked.0 r.monitor t.kind lives (lived.0 r.bearer.name.kind) (saved-rotated p r);
          }

  -- whatever was forged
  pub all-present : (hs : List Happening) → EachPoint AreOfPresent (points setup hs)
  all-present hs =
      replied-past (points setup hs) (λ service. let c = (all-kept setup hs).chained service in record { chain = c.chain; chained = c.chained }) (all-linked setup hs) (all-lived setup hs)

  -- ---- fetches

  present-fetched : (f : Fetched) (older : List Point) (p : Point) → WasReplied f older p → AreOfPresent older p
      → (is_daemon_type f.daemon.kind ≡ true) × IsMoment f.daemon.kind f.generations p × Before (λ (_ : List Point) (at : Point). IsAsking f.daemon f.asked at) older
  present-fetched f older p w present =
      let o : IsOfPresent p w.replies = present w.replies in
      let kind : w.replies.bearer.name.kind ≡ f.daemon.kind = ap (λ (n : Name). n.kind) w.to in
      let moment : IsMoment f.daemon.kind (told_at p f.daemon.kind) p = subst (λ (k : EntityType). IsMoment k (told_at p k) p) kind o.moment in (
        subst (λ (k : EntityType). is_daemon_type k ≡ true) kind o.tells.kind,
        subst (λ (gs : List Generation). IsMoment f.daemon.kind gs p) (sym w.told) moment,
        w.asked,
      )

  fetched-moment : (f : Fetched) (past : List Point) → EachPoint AreOfPresent past → Before (WasReplied f) past → IsOfMoment f past
  fetched-moment f [] each w = absurd w
  fetched-moment f (p ∷ past) each (inl w) =
      let h = present-fetched f past p w each.0 in
      record { kind = h.0; moment = inl (h.1, h.2) }
  fetched-moment f (p ∷ past) each (inr w) =
      let h : IsOfMoment f past = fetched-moment f past each.1 w in
      record { kind = h.kind; moment = inr h.moment }

  replied-moments : (past : List Point) → EachPoint AreOfPresent past → AreReplied past → AreOfMoments past
  replied-moments [] each replied = tt
  replied-moments (p ∷ past) each replied = (λ f has. fetched-moment f past each.1 (replied.0 f has), replied-moments past each.1 replied.1)

  -- where each fetch is what the monitor replied to the daemon behind its asking, each is of such a moment
  pub all-replied : (hs : List Happening) → AreReplied (points setup hs) → AreOfMoments (points setup hs)
  all-replied hs replied = replied-moments (points setup hs) (all-present hs) replied
