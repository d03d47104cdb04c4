-- The monitor's rows of a login ("detailed cephx protocol": LoginHello is answered by a challenge, an Authenticate that proves the entity's
-- secret by tickets): the row of the latter is made from what was decided.
use Rattle.std.specs.Prelude.{ℕ, ◌+◌, List, [], ◌∷◌, ◌++◌, find, Option, Some, None, Result, Ok, Err}
use Rattle.cx_keyserver.specs.cx_cbc.specs.Envelope.{sealed}
use Rattle.cx_login.specs.cx_control.specs.Auth.{auth_reply_more_layout}
use Rattle.cx_keyserver.specs.cx_dice.specs.Draws.{challenge_of}
use Rattle.cx_stream.specs.cx_frame.specs.declared.frame.Frame.{Frame}
use Rattle.cx_login.specs.cx_journal.specs.declared.faults.BytesFault.{BytesFault}
use Rattle.cx_login.specs.cx_journal.specs.declared.faults.LoginFault.TheVariants as login
use Rattle.cx_keyserver.specs.cx_keyring.specs.Entries.{is_named}
use Rattle.cx_keyserver.specs.cx_keyring.specs.declared.entries.Entry.{Entry as Principal}
use Rattle.cx_keyserver.specs.Servers.{Server}
use Rattle.cx_login.specs.Monitor.{Offer, Proven, proving}
use Rattle.cx_login.specs.declared.refusals.WrongProof.{WrongProof}
use Rattle.cx_login.specs.cx_steps.specs.declared.seals.DrawMark.TheVariants as draw
use Rattle.cx_login.specs.cx_steps.specs.declared.seals.SealEntry.TheVariants.{Drawn}
use Rattle.cx_login.specs.cx_wire.specs.Logins.{server_challenge_layout}
use Rattle.cx_login.specs.cx_wire.specs.declared.logins.Authenticate.{Authenticate}
use Rattle.cx_login.specs.cx_wire.specs.declared.logins.LoginHello.{LoginHello}
use Rattle.cx_rules.specs.Acceptor.{AwaitsProof, AwaitsSignature, Finished, denies, finished}
use Rattle.cx_rules.specs.KeptStates.{saved_behind}
use Rattle.cx_rules.specs.Monitor.{MonitorArrival, MonitorRow, Offered}
use Rattle.cx_rules.specs.Payloads.{control}
use Rattle.cx_rules.specs.Rows.{sends_plain, unless_refused}
use Rattle.cx_rules.specs.Verdicts.{Decided, Occasion, rotates}
use Rattle.cx_rules.specs.declared.responses.Bearer.{Bearer}
use Rattle.cx_rules.specs.declared.verdicts.HandedOut.{HandedOut}
use Rattle.cx_rules.specs.declared.verdicts.Verdict.{Verdict}
use Rattle.cx_rules.specs.declared.verdicts.Verdict.TheVariants.{Denied, Granted}

-- ---- LoginHello

-- an entity of the keyring is sent a challenge; any other is denied
abbrev pub challenges : MonitorArrival → LoginHello → Option Principal → MonitorRow
challenges a hello None = denies a 13 login.UnknownEntity []
challenges a hello (Some principal) =
    let challenge = challenge_of a.draw in
    let offer : Offer = record { name = hello.name; secret = principal.key.secret; challenge = challenge } in
    sends_plain a (AwaitsProof (record { offer = offer; gid = hello.gid })) (Drawn (draw.Challenge challenge) ∷ [])
    (control 4 auth_reply_more_layout.form (record { payload = server_challenge_layout.form.text (record { challenge = challenge }) }))

abbrev pub on_login_hello : MonitorArrival → Result LoginHello BytesFault → MonitorRow
on_login_hello a read = unless_refused a [] read (λ hello. challenges a hello (find (is_named hello.name) a.own.server.ring))

-- ---- Authenticate

-- the monitor with another key server
abbrev pub with_server : MonitorArrival → Server → MonitorArrival
with_server a server = record a { own = record a.own { server = server } }

-- the occasion of an arrival
abbrev pub occasion : MonitorArrival → Occasion
occasion a = record { saved = a.own.saved; reading = a.reading; draw = a.draw }

-- AUTH_DONE with a payload: its one segment, aligned to 8
abbrev pub done_frame : List ℕ → Frame
done_frame payload = record { tag = 6; segments = record { align = 8; bytes = payload } ∷ [] }

-- the entity, as the monitor knows it from now on: no message has come on its link
abbrev pub bearer_of : HandedOut → Bearer
bearer_of h = record { name = h.name; gid = h.gid; session = h.session; last = 0 }

-- AUTH_DONE and AUTH_SIGNATURE are sent, where they can be, behind what is saved
abbrev pub hands_over : MonitorArrival → HandedOut → Result Finished BytesFault → MonitorRow
hands_over a h finishing = unless_refused a h.seals finishing (λ done. record {
  own = record a.own { saved = saved_behind a.own.saved h.save };
  link = Some (record a.link { stage = AwaitsSignature done.secured (bearer_of h) });
  sends = done.bytes;
  save = h.save;
  entries = h.entries;
  seals = h.seals ++ (h.sealed ++ done.seals);
})

-- the row of a verdict, where the monitor has the key server behind it
abbrev pub row_by : MonitorArrival → Verdict → MonitorRow
row_by a (Denied why seals) = denies a 13 why seals
row_by a (Granted h) = hands_over a h (finished a.link h.session h.secret (done_frame h.payload))

abbrev pub row_of : MonitorArrival → Decided → MonitorRow
row_of a d = row_by (with_server a d.server) d.verdict

-- a proof that is found equal is judged; any other is denied
abbrev pub proves : MonitorArrival → ℕ → Result Proven WrongProof → MonitorRow
proves a hello_gid (Err wrong) = denies a 13 login.WrongProof []
proves a hello_gid (Ok proven) = row_of a (rotates (occasion a) a.own.server hello_gid proven)

abbrev pub on_authenticate : MonitorArrival → Offered → Result Authenticate BytesFault → MonitorRow
on_authenticate a offered read = unless_refused a [] read (λ ask. proves a offered.gid (proving offered.offer ask))
