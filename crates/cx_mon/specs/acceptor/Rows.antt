-- The rows and the turns of the rules, as the monitor makes them.
use Rattle.std.specs.Prelude.{◌≡◌, ℕ, Bool, List, [], ◌∷◌, ◌++◌, Option, Some, None, Result, if◌then◌else◌}
use Rattle.cx_control.specs.Auth.{auth_reply_more_layout}
use Rattle.cx_dice.specs.Draws.{challenge_of}
use Rattle.cx_enc.specs.declared.keys.Key.{Key}
use Rattle.cx_frame.specs.declared.frame.Frame.{Frame}
use Rattle.cx_link.specs.declared.links.Finished.{Finished}
use Rattle.cx_link.specs.declared.links.SentFrame.{SentFrame}
use Rattle.cx_rules.specs.declared.responses.Bearer.{Bearer}
use Rattle.cx_rules.specs.declared.responses.ReplyMade.{ReplyMade}
use Rattle.cx_rules.specs.declared.responses.Response.{Response}
use Rattle.cx_rules.specs.declared.responses.Response.TheVariants as response
use Rattle.cx_rules.specs.declared.verdicts.HandedOut.{HandedOut}
use Rattle.cx_rules.specs.declared.verdicts.Verdict.{Verdict}
use Rattle.cx_rules.specs.declared.verdicts.Verdict.TheVariants as verdict
use Rattle.cx_journal.specs.declared.faults.LoginFault.TheVariants as login
use Rattle.cx_base.specs.declared.nodes.NodeName.TheVariants as node
use Rattle.cx_journal.specs.declared.outcomes.Reason.TheVariants.{LinksFull}
use Rattle.cx_login.specs.Monitor.{Offer}
use Rattle.cx_node.specs.declared.rows.Row.{Row as Made}
use Rattle.cx_rotate.specs.declared.states.KeptState.{KeptState}
use Rattle.cx_rules.specs.Abridged.{abridged_link}
use Rattle.cx_rules.specs.Acceptor.{AwaitsBanner, AwaitsProof, denies}
use Rattle.cx_rules.specs.Greetings.{own_banner}
use Rattle.cx_rules.specs.KeptStates.{saved_behind}
use Rattle.cx_rules.specs.Monitor.{Monitor, MonitorArrival, MonitorRow, MonitorStage}
use Rattle.cx_rules.specs.MonitorLogin.{bearer_of}
use Rattle.cx_rules.specs.MonitorRule.{turned_at}
use Rattle.cx_rules.specs.Payloads.{control}
use Rattle.cx_rules.specs.Rows.{arrival, goes_on, refuses, sends_plain}
use Rattle.cx_steps.specs.declared.seals.DrawMark.TheVariants as draw
use Rattle.cx_steps.specs.declared.seals.SealEntry.TheVariants.{Drawn}
use Rattle.cx_wire.specs.Logins.{server_challenge_layout}
use Rattle.cx_wire.specs.declared.logins.LoginHello.{LoginHello}
use Rattle.cx_mon.specs.acceptor.Stages.{MonitorLink, awaiting_signature, open_link}
use Rattle.cx_mon.specs.declared.own.Mark.{Mark}
use Rattle.cx_node.specs.steps.Making as making
use Rattle.cx_node.specs.steps.Making.{IsRow}
use Rattle.cx_node.specs.steps.Steps.{IsTurn}
use Rattle.cx_node.specs.declared.came.Came.{Came}
use Rattle.cx_node.specs.declared.moments.Moment.{Moment}
use Rattle.cx_node.specs.declared.steps_rows.NoRow.{NoRow}
use Rattle.cx_node.specs.declared.steps_rows.NodeRow.{NodeRow}

-- what a row goes by: what the monitor has of its own, the link, and the event
abbrev pub arrived : Monitor → Moment → MonitorLink → MonitorArrival
arrived own at link = arrival node.Monitor own link at.reading at.draw.now.bytes

-- the monitor with its key server in another state, and another that was saved last
abbrev pub with_keys : Monitor → Mark → Monitor
with_keys own mark = record own { server = record own.server { state = mark.state }; saved = mark.saved }

-- a row that was made on the link of this number, with this of the monitor's own behind it
abbrev pub IsMonitorRow : ℕ → Monitor → MonitorRow → Made MonitorLink → Type 0
IsMonitorRow number own due made = IsRow abridged_link number own due made

-- a row was made on this link as the rules have it, or the link is refused as they have it
abbrev pub Makes : Monitor → Moment → MonitorLink → (MonitorArrival → MonitorRow) → Result (NodeRow MonitorLink Mark) NoRow → Type 0
Makes own at link rule made = making.Makes abridged_link with_keys (arrived own at link) (rule (arrived own at link)) made

-- what is done on a link that opens, where the places are full or aren't
abbrev pub opening : Bool → MonitorArrival → MonitorRow
opening full a = if full then refuses a LinksFull [] else goes_on a AwaitsBanner own_banner []

-- ---- a login

-- all but what is kept and what was saved last is as before
abbrev pub IsSameBut : Monitor → Monitor → Type 0
IsSameBut old new = old ≡ record new { server = record new.server { state = old.server.state }; saved = old.saved }

-- the monitor, behind a step that saves this or nothing
abbrev pub saving : Monitor → Option KeptState → Monitor
saving own save = record own { saved = saved_behind own.saved save }

-- what is saved behind a verdict
abbrev pub saves : Verdict → Option KeptState
saves (verdict.Denied why seals) = None
saves (verdict.Granted handed) = handed.save

-- the row of what is handed out, where the link of this number is finished so
abbrev pub handing_over : ℕ → HandedOut → Finished → Made MonitorLink
handing_over number handed finished = record {
  link = Some (awaiting_signature number finished.signing (bearer_of handed));
  sends = finished.bytes;
  save = handed.save;
  entries = handed.entries;
  seals = handed.seals ++ (handed.sealed ++ finished.seals);
}

-- AUTH_REPLY_MORE with a challenge
abbrev pub challenge_frame : ℕ → Frame
challenge_frame challenge =
    control 4 auth_reply_more_layout.form (record { payload = server_challenge_layout.form.text (record { challenge = challenge }) })

-- a challenge of this draw was offered to an entity with this key
abbrev pub offered_to : List ℕ → LoginHello → Key → MonitorStage
offered_to drawn hello key =
    let offer : Offer = record { name = hello.name; secret = key.secret; challenge = challenge_of drawn } in
    AwaitsProof (record { offer = offer; gid = hello.gid })

-- what comes of a LoginHello, by the key of its entity
abbrev pub challenged : MonitorArrival → LoginHello → Option Key → MonitorRow
challenged a hello None = denies a 13 login.UnknownEntity []
challenged a hello (Some key) =
    let challenge = challenge_of a.draw in sends_plain a (offered_to a.draw hello key) (Drawn (draw.Challenge challenge) ∷ []) (challenge_frame challenge)

-- ---- a request

-- what is saved behind a response
abbrev pub saves_of : Response → Option KeptState
saves_of (response.Refuses why seals) = None
saves_of (response.Replies made) = made.save

-- the row of a reply that was sent so, on the link of this number: it stays open, behind the entity's message of that number
abbrev pub replying : ℕ → Bearer → ℕ → ReplyMade → SentFrame → Made MonitorLink
replying number bearer seq made sent = record {
  link = Some (open_link number sent.link (record bearer { last = seq }));
  sends = sent.bytes;
  save = made.save;
  entries = made.entries;
  seals = made.seals ++ (made.sealed ++ sent.seals);
}

-- ---- turns

-- a turn of this link came to what the rules have it come to
abbrev pub IsMonitorTurn : Monitor → ℕ → List ℕ → MonitorLink → Came MonitorLink Mark → Type 0
IsMonitorTurn own reading draw link come =
    IsTurn abridged_link with_keys own link (turned_at (arrival node.Monitor own link reading draw) link.stage) come
