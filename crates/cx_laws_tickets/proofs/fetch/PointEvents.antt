-- What happened at the points of a run, as links to the monitor need it: at which readings an entity had an event, which challenges its links drew, and which
-- generations the monitor replied to it.
use Rattle.std.proofs.Common.{◌≡◌, ℕ, false, List, ◌∷◌, Option, Some, Result, Ok, inl, inr, sym, ap, ◌∙◌, subst}
use Rattle.cx_base.specs.Names.{Name}
use Rattle.cx_base.specs.declared.nodes.NodeName.TheVariants as node
use Rattle.cx_frame.specs.declared.frame.Frame.{Frame}
use Rattle.cx_cbc.specs.Envelope.{sealed as enveloped}
use Rattle.cx_enc.specs.declared.keys.Key.{Key}
use Rattle.cx_laws_tickets.specs.cx_keyserver.specs.Servers.{Server, rotated_server}
use Rattle.cx_rotate.specs.declared.generations.Generation.{Generation}
use Rattle.cx_laws_keys.specs.cx_rules.specs.Acceptor.{Open}
use Rattle.cx_laws_keys.specs.cx_rules.specs.Fronts.{keys_behind, opened_parts, sealed_ahead, secure_read, taking}
use Rattle.cx_laws_keys.specs.cx_rules.specs.Inputs.{Turn}
use Rattle.cx_laws_keys.specs.cx_rules.specs.Links.{Link, link_of}
use Rattle.cx_laws_keys.specs.cx_rules.specs.Monitor.{MonitorArrival, MonitorStage}
use Rattle.cx_laws_keys.specs.cx_rules.specs.MonitorRequests.{reply_message}
use Rattle.cx_laws_keys.specs.cx_rules.specs.Replies.{answers, told_content}
use Rattle.cx_laws_keys.specs.cx_rules.specs.Verdicts.{key_of}
use Rattle.cx_laws_keys.specs.cx_rules.specs.Rows.{arrival, at}
use Rattle.cx_laws_keys.specs.cx_rules.specs.Secured.{Secured, sealed_under, secure_frame}
use Rattle.cx_laws_keys.specs.cx_rules.specs.declared.responses.Bearer.{Bearer}
use Rattle.cx_laws_keys.specs.cx_rules.specs.declared.responses.Response.TheVariants as response
use Rattle.cx_laws_tickets.specs.cx_run.specs.Points.{Before, Point, stepped_at}
use Rattle.cx_secure.specs.declared.refusals.SecureRefusal.{SecureRefusal}
use Rattle.cx_laws_keys.specs.cx_stream.specs.SecureStreams.{secure_frame_at}
use Rattle.cx_wire.specs.Bodies.{reply_layout}
use Rattle.cx_wire.specs.declared.bodies.Reply.{Reply}
use Rattle.cx_wire.specs.declared.bodies.Reply.TheVariants as given
use Rattle.cx_wire.specs.declared.bodies.Request.{Request}
use Rattle.cx_wire.specs.declared.bodies.Request.TheVariants as asked
use Rattle.cx_laws_keys.specs.cx_rules.specs.MonitorRule.{noted}
use Rattle.cx_laws_tickets.proofs.fetch.AllTold.{WasDrawn}
use Rattle.cx_laws_tickets.proofs.fetch.AskedKnown.{Events, MoreEvents}
use Rattle.cx_laws_tickets.proofs.fetch.AskedWords.{Replies, given_frame}
use Rattle.cx_laws_tickets.proofs.fetch.MonitorGives.{IsReplyTo, IsToldBy}
use Rattle.cx_laws_tickets.proofs.fetch.RepliedMoments.{RepliesRotating, occasion_at, told_at}
use Rattle.cx_laws_tickets.proofs.fetch.Telling.{secrets-are, service-rotated}
use Rattle.cx_laws_tickets.specs.fetch.Fetches.{IsAsking}

-- at this point the monitor replied to this entity by this blob, behind an event of the entity at this reading
pub record RepliedAt (name : Name) (reading : ℕ) (blob : List ℕ) (older : List Point) (p : Point) : Type 0 where
  pub replies : RepliesRotating p
  pub to : replies.bearer.name ≡ name
  pub body : replies.made.body ≡ reply_layout.form.text (given.Rotating blob)
  pub told : IsToldBy (rotated_server p.happening.reading p.happening.draw p.nodes.monitor.own.server) replies.bearer (Some asked.Rotating) (given.Rotating blob)
  pub asked_before : Before (λ _ q. IsAsking name reading q) older

abbrev pub WasRepliedBy : Name → ℕ → Reply → List Point → Type 0
WasRepliedBy name reading (given.Tickets parts) past = Unit {0}
WasRepliedBy name reading (given.Rotating blob) past = Before (RepliedAt name reading blob) past

-- at these points
abbrev pub events_of : List Point → Events
events_of past = record {
  was_asked = λ name reading. Before (λ _ q. IsAsking name reading q) past;
  drew = λ name link challenge. (f : Frame) × WasDrawn past name link challenge f;
  replied = λ name reading reply. WasRepliedBy name reading reply past;
}

-- with one more all that stays so
pub more-events : (p : Point) (past : List Point) → MoreEvents (events_of past) (events_of (p ∷ past))
more-events p past = record {
  was_asked = λ name reading h. inr h;
  drew = λ name link challenge h. (h.0, inr h.1);
  replied = λ name reading reply h. by_reply name reading reply h;
}
  where
    by_reply : (name : Name) (reading : ℕ) (reply : Reply) → WasRepliedBy name reading reply past → WasRepliedBy name reading reply (p ∷ past)
    by_reply name reading (given.Tickets parts) h = tt
    by_reply name reading (given.Rotating blob) h = inr h

-- what the monitor goes by at a turn of this link, at this point
abbrev pub arrival_at : Point → Link MonitorStage → MonitorArrival
arrival_at p l = arrival node.Monitor (noted p.nodes.monitor).own l p.happening.reading p.happening.draw

-- a reply at a turn of an open link at this point, where no save fails, is one of these
pub replied-now : (past : List Point) (p : Point) (number : ℕ) (l : Link MonitorStage) (s : Secured) (bearer : Bearer) (g : Frame) (m : ℕ) → p.happening.node ≡ node.Monitor
    → p.happening.input ≡ Turn number → link_of number p.nodes.monitor.links ≡ Some l → l.stage ≡ Open s bearer → secure_frame_at (sealed_ahead s.keys l) ≡ Ok (Some (g, m))
    → (stepped_at p).failed ≡ false → (name : Name) → bearer.name ≡ name → (reading tid : ℕ) (reply : Reply) → (events_of past).was_asked name reading
    → IsReplyTo (at (arrival_at p l) (taking l m)) bearer g tid reply
    → secure_frame (keys_behind s.keys g) (given_frame (Replies tid reply)) ≡ Ok (sealed_under (keys_behind s.keys g) (given_frame (Replies tid reply)))
    → (events_of (p ∷ past)).replied name reading reply
replied-now past p number l s bearer g m monitor turns found stage read kept name named reading tid (given.Tickets parts) asked_at is made = tt
replied-now past p number l s bearer g m monitor turns found stage read kept name named reading tid (given.Rotating blob) asked_at is made =
    let asks : is.demand.request ≡ Some asked.Rotating = is.told.0 in
    let replies : (answers (occasion_at p) p.nodes.monitor.own.server bearer (Some asked.Rotating)).response ≡ response.Replies is.made =
    ap (λ (request : Option Request). (answers (occasion_at p) p.nodes.monitor.own.server bearer request).response) (sym asks) ∙ is.replies in
    let frame : reply_message is.demand.tid is.made.body ≡ given_frame (Replies tid (given.Rotating blob)) =
    ap (λ (k : ℕ). reply_message k is.made.body) is.number ∙ ap (λ (body : List ℕ). reply_message tid body) is.body in
    inl (record {
      replies = record {
        monitor = monitor;
        number = number;
        turn_is = turns;
        link = l;
        found = found;
        secured = s;
        bearer = bearer;
        stage_is = stage;
        behind = taking l m;
        frame = g;
        keys = keys_behind s.keys g;
        opened = opened_parts (sealed_ahead s.keys l);
        next = ap (λ (r : Result (Option (Frame × ℕ)) SecureRefusal). secure_read s.keys l (opened_parts (sealed_ahead s.keys l)) r) read;
        demand = is.demand;
        heard_as = is.heard_as;
        asks = asks;
        made = is.made;
        replies = replies;
        sent = sealed_under (keys_behind s.keys g) (given_frame (Replies tid (given.Rotating blob)));
        sealed = ap (λ (f : Frame). secure_frame (keys_behind s.keys g) f) frame ∙ made;
        kept = kept;
      };
      to = named;
      body = is.body;
      told = subst (λ (request : Option Request). IsToldBy (rotated_server p.happening.reading p.happening.draw p.nodes.monitor.own.server) bearer request (given.Rotating blob)) asks is.told;
      asked_before = asked_at;
    })

-- ---- what is told

-- the blob is what the daemon is told at this point, under the secret that the monitor has of it: the generations of its type, rotated at the reading
pub record IsTelling (name : Name) (blob : List ℕ) (p : Point) : Type 0 where
  pub own : Key
  pub key_is : key_of (rotated_server p.happening.reading p.happening.draw p.nodes.monitor.own.server) name ≡ Some own
  pub blob_is : blob ≡ enveloped own.secret (told_content name.kind (told_at p name.kind))

pub replied-tells : (name : Name) (reading : ℕ) (blob : List ℕ) (older : List Point) (p : Point) → RepliedAt name reading blob older p → IsTelling name blob p
replied-tells name reading blob older p h =
    let server : Server = rotated_server p.happening.reading p.happening.draw p.nodes.monitor.own.server in
    let whose : Name = h.replies.bearer.name in
    let are = secrets-are server whose h.told.3 h.told.4 in
    let rotated_is : h.told.3 ≡ told_at p whose.kind =
    are.1 ∙ service-rotated p.happening.reading p.happening.draw p.nodes.monitor.own.server.state whose.kind are.0 in
    let here : IsTelling whose blob p = record {
      own = h.told.1;
      key_is = h.told.2;
      blob_is = h.told.5 ∙ ap (λ (gs : List Generation). enveloped h.told.1.secret (told_content whose.kind gs)) rotated_is;
    } in
    subst (λ (m : Name). IsTelling m blob p) h.to here

-- ---- fetches
