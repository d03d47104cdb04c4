-- The rows and the turns of the rules as they are made on a link to the monitor.
use Rattle.std.specs.Prelude.{ℕ, List, [], ◌∷◌, Option, Some, None, IfSome, Result}
use Rattle.std.specs.Option.{option_map}
use Rattle.cx_control.specs.declared.bad_method.AuthBadMethod.{AuthBadMethod}
use Rattle.cx_node.specs.cx_dice.specs.Draws.{challenge_of, cookie_of}
use Rattle.cx_node.specs.steps.Stages.{keys_alone}
use Rattle.cx_node.specs.declared.moments.Moment.{Moment}
use Rattle.cx_journal.specs.declared.faults.BytesFault.{BytesFault}
use Rattle.cx_base.specs.declared.nodes.NodeName.TheVariants as node
use Rattle.cx_link.specs.Wires.{new_wire, wired}
use Rattle.cx_node.specs.Made.{going_on}
use Rattle.cx_node.specs.declared.rows.Row.{Row as Made}
use Rattle.cx_node.specs.cx_rules.specs.Abridged.{abridged_mon_client_link}
use Rattle.cx_node.specs.cx_rules.specs.Connector as connector
use Rattle.cx_node.specs.cx_rules.specs.Connector.{MonClientArrival, MonClientRow, AwaitsDone, AwaitsIdent, Login, Open, client_ident, holding, kept_open, on_denial, proof_made, turned_at}
use Rattle.cx_node.specs.cx_rules.specs.Greetings.{own_banner}
use Rattle.cx_node.specs.cx_rules.specs.Holdings.{MonClient, held_login, holds_nothing}
use Rattle.cx_node.specs.cx_rules.specs.Requests.{Requests, asks_rotating, asks_tickets, with_tickets}
use Rattle.cx_node.specs.cx_rules.specs.Rows.{arrival, goes_on, sends_secure, unless_refused}
use Rattle.cx_node.specs.cx_rules.specs.Secured.{Keys, Secured}
use Rattle.cx_steps.specs.declared.seals.DrawMark.TheVariants as draw
use Rattle.cx_steps.specs.declared.seals.SealEntry.{SealEntry}
use Rattle.cx_steps.specs.declared.seals.SealEntry.TheVariants.{Drawn}
use Rattle.cx_node.specs.steps.Making as making
use Rattle.cx_node.specs.steps.Making.{IsRow}
use Rattle.cx_node.specs.steps.Steps.{IsTurn}
use Rattle.cx_node.specs.declared.came.Came.{Came}
use Rattle.cx_node.specs.declared.steps_rows.NoRow.{NoRow}
use Rattle.cx_node.specs.declared.steps_rows.NodeRow.{NodeRow}
use Rattle.cx_monclient.specs.connector.Stages.{IsAheadOn, MonClientLink, behind_asked}
use Rattle.cx_monclient.specs.declared.links.OpenAhead.{OpenAhead}
use Rattle.cx_monclient.specs.declared.rows.Change.{Change}
use Rattle.cx_monclient.specs.declared.rows.Change.TheVariants.{Forgets, Holds, Renews, Views}

-- what a row goes by: one that logs in, the link, and the event
abbrev pub arrived : MonClient → Moment → MonClientLink → MonClientArrival
arrived mon_client at link = arrival (node.Entity mon_client.name) mon_client link at.reading at.draw.now.bytes

-- one that logs in, with what it holds changed
abbrev pub changed : MonClient → Change → MonClient
changed mon_client Forgets = record mon_client { holdings = holds_nothing }
changed mon_client (Holds login) = record mon_client { holdings = held_login mon_client.holdings login.gid login.opened }
changed mon_client (Renews held) = with_tickets mon_client held
changed mon_client (Views view) = record mon_client { view = view }

-- a row was made on this link as the rules have it, or the link is refused as they have it
abbrev pub Makes : MonClient → Moment → MonClientLink → (MonClientArrival → MonClientRow) → Result (NodeRow MonClientLink Change) NoRow → Type 0
Makes mon_client at link rule made = making.Makes abridged_mon_client_link changed (arrived mon_client at link) (rule (arrived mon_client at link)) made

-- a turn of this link came to what the rules have it come to
abbrev pub IsMonClientTurn : MonClient → Moment → MonClientLink → Came MonClientLink Change → Type 0
IsMonClientTurn mon_client at link come = IsTurn abridged_mon_client_link changed mon_client link (turned_at (arrived mon_client at link) link.stage) come

-- a row by what its link goes on by behind what was sealed ahead on it, as the one of that link
abbrev pub row_ahead : MonClientLink → Made OpenAhead → Made MonClientLink
row_ahead link row = record { link = option_map (behind_asked link) row.link; sends = row.sends; save = row.save; entries = row.entries; seals = row.seals }

-- a row was made by which something is asked for on an open link, which keeps this; where that goes on, the request was sealed ahead on it
abbrev pub AsksOn : MonClient → Moment → MonClientLink → (MonClientArrival → Secured → Requests → MonClientRow) → Option (Secured × Requests) → Made OpenAhead → Type 0
AsksOn mon_client at link asks None row = ⊥
AsksOn mon_client at link asks (Some (s, requests)) row =
    IsRow abridged_mon_client_link at.number mon_client (asks (arrived mon_client at link) s requests) (row_ahead link row) × IfSome row.link (IsAheadOn link)

-- by a client for tickets, by the sum of their services; by a daemon for the generations of its own type
abbrev pub AsksTickets : MonClient → Moment → MonClientLink → ℕ → Made OpenAhead → Type 0
AsksTickets mon_client at link services row = AsksOn mon_client at link (λ a s requests. asks_tickets Open a s requests services) (kept_open link.stage) row

abbrev pub AsksGenerations : MonClient → Moment → MonClientLink → Made OpenAhead → Type 0
AsksGenerations mon_client at link row = AsksOn mon_client at link (asks_rotating Open) (kept_open link.stage) row

-- ---- rows by what was read and checked

-- the proof of both challenges is sent, where it can be
abbrev pub proof_sent : MonClientArrival → ℕ → Result (List ℕ) BytesFault → MonClientRow
proof_sent a server made = unless_refused a [] made (λ bytes. goes_on a AwaitsDone bytes (proof_made a.own.secret server (challenge_of a.draw) ∷ []))

-- AUTH_BAD_METHOD, by the part that is kept of it
abbrev pub denied : MonClientArrival → Result AuthBadMethod BytesFault → MonClientRow
denied a read = unless_refused a [] read (λ refusal. on_denial a refusal.result)

-- the peer's signature was found right, as this entry says, on a link with these keys: the login is held, and CLIENT_IDENT is sent
abbrev pub identified : MonClientArrival → Keys → SealEntry → Login → MonClientRow
identified a keys found login =
    let cookie = cookie_of a.draw in
    sends_secure (holding a (held_login a.own.holdings login.gid login.opened)) (keys_alone keys) (λ behind. AwaitsIdent behind login.opened.auth.session)
    (found ∷ Drawn (draw.Cookie cookie) ∷ []) (client_ident a.own login.gid 1 cookie)

-- the row of a link of this number that opens: nothing came on it, and the banner was sent
abbrev pub opening_row : ℕ → ℕ → Made MonClientLink
opening_row number asked = going_on (wired number (record new_wire { sent = own_banner }) (connector.AwaitsBanner asked)) own_banner []
