-- A turn of an open link of the monitor, at a point of a run where no save fails, keeps all that is known of links to the monitor, at one point more.
use Rattle.std.proofs.Common.{◌≡◌, ℕ, false, List, ◌∷◌, ◌++◌, Option, Some, Ok, refl, sym, subst}
use Rattle.cx_base.specs.declared.kinds.EntityType.{EntityType}
use Rattle.cx_base.specs.declared.nodes.NodeName.TheVariants as node
use Rattle.cx_enc.specs.declared.keys.Key.{Key}
use Rattle.cx_frame.specs.declared.frame.Frame.{Frame}
use Rattle.cx_journal.specs.declared.entries.Entry.{Entry}
use Rattle.cx_laws_tickets.specs.cx_keyserver.specs.Servers.{Server, generations_of, rotated_server}
use Rattle.cx_laws_tickets.specs.cx_laws_keys.proofs.keys.Known.{Inv}
use Rattle.cx_laws_tickets.specs.cx_laws_keys.proofs.keys.Premises.{AreGranted, behind}
use Rattle.cx_laws_tickets.specs.cx_laws_keys.proofs.keys.Uses.{AreGenerated, Grows, Login, Means, Secret, Use, Uses, WholeRun}
use Rattle.cx_laws_keys.specs.cx_rules.specs.Acceptor.{Open}
use Rattle.cx_laws_keys.specs.cx_rules.specs.Fronts.{keys_behind, opened_parts, sealed_ahead, taking}
use Rattle.cx_laws_keys.specs.cx_rules.specs.Inputs.{Turn}
use Rattle.cx_laws_keys.specs.cx_rules.specs.Links.{Link, link_of}
use Rattle.cx_laws_keys.specs.cx_rules.specs.Monitor.{MonitorRow, MonitorStage}
use Rattle.cx_laws_keys.specs.cx_rules.specs.MonitorRequests.{heard, on_open}
use Rattle.cx_laws_keys.specs.cx_rules.specs.Replies.{answers}
use Rattle.cx_laws_keys.specs.cx_rules.specs.Rows.{at, with_opened}
use Rattle.cx_laws_keys.specs.cx_rules.specs.Secured.{Secured, under}
use Rattle.cx_laws_keys.specs.cx_rules.specs.Tickets.{rotation_drawn}
use Rattle.cx_laws_keys.specs.cx_rules.specs.Verdicts.{Occasion, key_of}
use Rattle.cx_laws_keys.specs.cx_rules.specs.declared.responses.Bearer.{Bearer}
use Rattle.cx_laws_keys.specs.cx_rules.specs.declared.responses.Demand.{Demand}
use Rattle.cx_laws_keys.specs.cx_rules.specs.declared.responses.ReplyMade.{ReplyMade}
use Rattle.cx_laws_keys.specs.cx_rules.specs.declared.responses.Response.TheVariants as response
use Rattle.cx_laws_tickets.specs.cx_run.specs.Points.{Point, stepped_at}
use Rattle.cx_steps.specs.declared.seals.Logged.{Logged}
use Rattle.cx_steps.specs.declared.seals.SealEntry.{SealEntry}
use Rattle.cx_laws_keys.specs.cx_stream.specs.SecureStreams.{secure_frame_at}
use Rattle.cx_wire.specs.declared.bodies.Request.{Request}
use Rattle.cx_laws_tickets.proofs.fetch.AskedKnown.{AreTold, IsBearing, Told}
use Rattle.cx_laws_tickets.proofs.fetch.MonitorGives.{IsReply, IsResponse, StaysOpen, response-is, rotation-quiet}
use Rattle.cx_laws_tickets.proofs.fetch.MonitorMoves.{IsAnyLogin, MonitorMoves}
use Rattle.cx_laws_tickets.proofs.fetch.MonitorOpen.{open-moves}
use Rattle.cx_laws_tickets.proofs.fetch.PointEvents.{arrival_at, events_of, more-events, replied-now}
use Rattle.cx_laws_tickets.proofs.fetch.RowWords.{AreStill, quiet-still, still-append}
use Rattle.cx_laws_tickets.proofs.fetch.StillReplies.{reply-still}

-- what the monitor has behind its rotation: each generation has its use, the bearer's secret is its own, and its session key that of its ticket for AUTH
pub record HasUses (us : Uses) (server : Server) (bearer : Bearer) : Type 0 where
  pub generated : (service : EntityType) → AreGenerated us service (generations_of server.state service)
  pub secret : (own : Key) → key_of server bearer.name ≡ Some own → Means us own.secret (Secret bearer.name)
  pub session : Means us bearer.session (Login bearer.name)

-- so a reply seals nothing under the key of a login
pub answers-still : (us : Uses) → ((k : List ℕ) (u v : Use) → Means us k u → Means us k v → u ≡ v) → (o : Occasion) (server : Server) (bearer : Bearer)
    → HasUses us (rotated_server o.reading o.draw server) bearer → (request : Option Request) (made : ReplyMade) → (answers o server bearer request).response ≡ response.Replies made
    → AreStill (IsAnyLogin us) (made.seals ++ made.sealed)
answers-still us one o server bearer has request made same =
    let rotated : Server = rotated_server o.reading o.draw server in
    let drawn : List SealEntry = rotation_drawn o.reading o.draw server.state in
    let is : IsReply rotated bearer drawn request made = subst (IsResponse rotated bearer drawn request) same (response-is o rotated bearer drawn request) in
    still-append (IsAnyLogin us) made.seals made.sealed
    (subst (AreStill (IsAnyLogin us)) (sym is.drawn_is) (quiet-still (IsAnyLogin us) drawn (rotation-quiet o.reading o.draw server.state)))
    (reply-still us o rotated bearer drawn has.generated has.secret has.session one request made same)

pub turn-moves : (run : WholeRun) (whole : List Logged) (us vs : Uses) (log : List Logged) (J : List Entry) (line : ℕ) → ((k : List ℕ) (u v : Use) → Means vs k u → Means vs k v → u ≡ v)
    → Grows us vs → Inv run whole us log J → (past : List Point) (p : Point) (told : Told) → AreTold run (events_of past) us told log → (number : ℕ) (l : Link MonitorStage) (s : Secured)
    (bearer : Bearer) → IsBearing run us told log number s bearer.name → (g : Frame) (m : ℕ) → p.happening.node ≡ node.Monitor → p.happening.input ≡ Turn number
    → link_of number p.nodes.monitor.links ≡ Some l → l.stage ≡ Open s bearer → (stepped_at p).failed ≡ false
    → ((demand : Demand) → heard bearer g ≡ Ok demand → HasUses vs (rotated_server p.happening.reading p.happening.draw p.nodes.monitor.own.server) bearer)
    → AreGranted run.leaked whole node.Monitor line log (opened_parts (sealed_ahead s.keys l)) → secure_frame_at (sealed_ahead s.keys l) ≡ Ok (Some (g, m))
    → (let row : MonitorRow = with_opened (opened_parts (sealed_ahead s.keys l)) (on_open Open (at (arrival_at p l) (taking l m)) (under s (keys_behind s.keys g)) bearer g) in
    MonitorMoves (λ word u x. StaysOpen l.number bearer.name u x) run (events_of (p ∷ past)) vs told (behind node.Monitor line row.seals log) number bearer.name s.keys.key row)
turn-moves run whole us vs log J line one f i past p told t number l s bearer b g m monitor turns found stage kept has granted read =
    open-moves run whole us vs log J node.Monitor line one f i (events_of past) (events_of (p ∷ past)) (more-events p past) told t number bearer.name s b (arrival_at p l) bearer l g m refl
    (λ reading tid reply asked_at is made. replied-now past p number l s bearer g m monitor turns found stage read kept bearer.name refl reading tid reply asked_at is made)
    (λ demand heard_as made same.
    answers-still vs one (record { saved = p.nodes.monitor.own.saved; reading = p.happening.reading; draw = p.happening.draw }) p.nodes.monitor.own.server bearer (has demand heard_as) demand.request made same)
    granted read
