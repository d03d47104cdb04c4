-- A step of a node: what it does outside, and what comes to the node of that.
use Rattle.std.specs.Prelude.{ℕ, ◌==◌, ◌≡◌, Bool, true, false, List, [], ◌∷◌, ◌++◌, map, find, Option, Some, None}
use Rattle.std.specs.List.{list_any}
use Rattle.std.specs.Option.{option_map}
use Rattle.cx_base.specs.Names.{same_name}
use Rattle.cx_base.specs.declared.addresses.Addr.{Addr}
use Rattle.cx_drive.specs.declared.dues.Due.{Due}
use Rattle.cx_drive.specs.declared.dues.Due.TheVariants as due
use Rattle.cx_drive.specs.declared.peers.Peers.{Peers}
use Rattle.cx_mon.specs.cx_node.specs.steps.Events.{link_in, losing}
use Rattle.cx_outside.specs.linking.Acts.{Opened, Sent, Shut, Regarded}
use Rattle.cx_outside.specs.declared.regard.Regard.{Regard}
use Rattle.cx_rotate.specs.declared.states.KeptState.{KeptState}
use Rattle.cx_client.specs.cx_rules_session.specs.cx_rules.specs.Inputs as input
use Rattle.cx_client.specs.cx_rules_session.specs.cx_rules.specs.Inputs.{Input}
use Rattle.cx_client.specs.cx_rules_session.specs.cx_rules.specs.Rows.{Outcome}
use Rattle.cx_outside.specs.site.Acts.{Act, Linked, Read, Rolled, Saved}
use Rattle.cx_steps.specs.declared.effects.Effects.{Effects}
use Rattle.cx_steps.specs.declared.effects.Piece.{Piece}
use Rattle.cx_steps.specs.declared.events.Peer.{Peer}
use Rattle.cx_steps.specs.declared.events.Peer.TheVariants as peer

-- ---- peers

-- the address of a peer, where it has one
abbrev pub address_of : Peers → Peer → Option Addr
address_of peers peer.Monitor = peers.monitor
address_of peers (peer.Daemon name) = option_map (λ daemon. daemon.at) (find (λ daemon. same_name daemon.name name) peers.daemons)

-- ---- what is due behind a step

-- what comes to the node
abbrev pub input_due : Due → Input
input_due (due.Opened number peer) = input.Opened number (Some peer)
input_due (due.NoLink peer) = input.NoLink peer
input_due (due.Gone number) = input.Gone number

-- whether the link is among those that are gone
abbrev pub is_gone : List ℕ → ℕ → Bool
is_gone gone link = list_any (λ other. other == link) gone

-- ---- sends: on a link on which one failed nothing more is sent in this step, and the link is gone behind it

-- a piece that a step sends, and whether that went well
pub record Sending : Type 0 where
  pub piece : Piece
  pub ok : Bool

abbrev pub sending : Piece → Bool → Sending
sending piece ok = record { piece = piece; ok = ok }

abbrev pub send_act : Bool → Sending → List Act
send_act true s = []
send_act false s = Linked (Sent s.piece.link s.piece.bytes s.ok) ∷ []

abbrev pub gone_of : Bool → Sending → List ℕ
gone_of true s = []
gone_of false s = s.piece.link ∷ []

abbrev pub with_send : Bool → List ℕ → Sending → List ℕ
with_send true gone s = gone
with_send false gone s = gone ++ gone_of s.ok s

-- the links that are gone behind these
abbrev pub gone_behind : List ℕ → List Sending → List ℕ
gone_behind gone [] = gone
gone_behind gone (s ∷ ss) = gone_behind (with_send (is_gone gone s.piece.link) gone s) ss

abbrev pub send_acts : List ℕ → List Sending → List Act
send_acts gone [] = []
send_acts gone (s ∷ ss) = send_act (is_gone gone s.piece.link) s ++ send_acts (with_send (is_gone gone s.piece.link) gone s) ss

-- ---- opens: a peer without an address is asked for nothing

-- a peer to which a step opens a link, and the number that the link got
pub record Opening : Type 0 where
  pub peer : Peer
  pub number : Option ℕ

abbrev pub opening : Peer → Option ℕ → Opening
opening peer number = record { peer = peer; number = number }

abbrev pub open_act : Option Addr → Opening → List Act
open_act None o = []
open_act (Some at) o = Linked (Opened at o.number) ∷ []

abbrev pub open_acts : Peers → List Opening → List Act
open_acts peers [] = []
open_acts peers (o ∷ os) = open_act (address_of peers o.peer) o ++ open_acts peers os

-- a link to the peer is there, or none could be opened
abbrev pub opened : Peer → Option ℕ → Due
opened peer None = due.NoLink peer
opened peer (Some number) = due.Opened number peer

abbrev pub open_due : Option Addr → Opening → Due
open_due None o = due.NoLink o.peer
open_due (Some at) o = opened o.peer o.number

abbrev pub open_dues : Peers → List Opening → List Due
open_dues peers [] = []
open_dues peers (o ∷ os) = open_due (address_of peers o.peer) o ∷ open_dues peers os

-- ---- regards: behind a step it is told how the node regards the links that it was on, where they live

-- the link of its event; where that is about none, those on which the step sends
abbrev pub step_links : Option ℕ → List Piece → List ℕ
step_links (Some link) pieces = link ∷ []
step_links None pieces = map (λ piece. piece.link) pieces

abbrev pub regard_act : ℕ → Option Regard → List Act
regard_act link None = []
regard_act link (Some regard) = Linked (Regarded link regard) ∷ []

abbrev pub regard_acts : (ℕ → Option Regard) → List ℕ → List Act
regard_acts regards [] = []
regard_acts regards (link ∷ links) = regard_act link (regards link) ++ regard_acts regards links

abbrev pub told_acts : (ℕ → Option Regard) → Input → Effects → List Act
told_acts regards input out = regard_acts regards (step_links (link_in input) out.sends)

-- ---- all of a step

abbrev pub shut_acts : List ℕ → List Act
shut_acts links = map (λ link. Linked (Shut link)) links

abbrev pub lost_acts : Option ℕ → List Act
lost_acts None = []
lost_acts (Some link) = Linked (Shut link) ∷ []

abbrev pub saved_acts : Option KeptState → List Act
saved_acts None = []
saved_acts (Some state) = Saved state true ∷ []

-- what is done of a step behind its save, in this order: it is sent, then links are opened, then shut
abbrev pub handed_acts : Peers → Effects → List Sending → List Opening → List Act
handed_acts peers out sends opens = send_acts [] sends ++ (open_acts peers opens ++ (shut_acts out.shuts ++ lost_acts out.lost))

-- what is done of a step: it is saved first
abbrev pub carried_acts : Peers → Effects → List Sending → List Opening → List Act
carried_acts peers out sends opens = saved_acts out.save ++ handed_acts peers out sends opens

-- links that are gone come to the node as such
abbrev pub gone_dues : List ℕ → List Due
gone_dues gone = map (λ link. due.Gone link) gone

-- what comes of it: links that are gone since a send failed, then those that are opened or couldn't be
abbrev pub carried_dues : Peers → List Sending → List Opening → List Due
carried_dues peers sends opens = gone_dues (gone_behind [] sends) ++ open_dues peers opens

-- these were sent and opened
pub record IsCarried (out : Effects) (sends : List Sending) (opens : List Opening) : Type 0 where
  pub sent : map (λ s. s.piece) sends ≡ out.sends
  pub asked : map (λ o. o.peer) opens ≡ out.opens

-- how a step went: the reading and the draw, whether memory was wanting in it, and what was sent and opened
pub record Went : Type 0 where
  pub reading : ℕ
  pub draw : List ℕ
  pub short : Bool
  pub sends : List Sending
  pub opens : List Opening

module _ {S : Type 0} (rule : S → Input → ℕ → List ℕ → Outcome S) (lost : S → Input → S) where
  -- what a step gives: the rule's effects, or, where memory was wanting, the event's link as lost and nothing else
  abbrev pub effects_of : S → Input → ℕ → List ℕ → Bool → Effects
  effects_of node input reading draw true = losing input
  effects_of node input reading draw false = (rule node input reading draw).out

  -- the node behind it
  abbrev pub node_behind : S → Input → ℕ → List ℕ → Bool → S
  node_behind node input reading draw true = lost node input
  node_behind node input reading draw false = (rule node input reading draw).state

  abbrev pub went_effects : S → Input → Went → Effects
  went_effects node input went = effects_of node input went.reading went.draw went.short

  abbrev pub went_node : S → Input → Went → S
  went_node node input went = node_behind node input went.reading went.draw went.short

module _ {S : Type 0} (rule : S → Input → ℕ → List ℕ → Outcome S) (lost : S → Input → S) (regards : S → ℕ → Option Regard) where
  -- the acts of a step: last it is told how the node behind it regards the links that it was on
  abbrev pub step_acts : Peers → S → Input → Went → List Act
  step_acts peers node input went =
      Rolled (Some went.draw) ∷ Read went.reading
      ∷ (carried_acts peers (went_effects rule lost node input went) went.sends went.opens
      ++ told_acts (regards (went_node rule lost node input went)) input (went_effects rule lost node input went))
